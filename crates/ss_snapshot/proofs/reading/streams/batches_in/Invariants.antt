use Rattle.std.proofs.Common.{◌≡◌, ◌-◌}
use Rattle.ss_standing.specs.Readers.{with_front}
use Rattle.ss_snapshot.specs.ImageParts.{many_batches}
use Rattle.ss_snapshot.proofs.reading.streams.batches_in.Given as goal

abbrev pub invariant-loop : goal.invariant-loop
invariant-loop l = with_front l.batches (many_batches l.schema (l.count - l.counter) l.rest) ≡ many_batches l.schema l.count l.bytes
