use Rattle.std.proofs.Common.{◌≡◌, ◌-◌}
use Rattle.ss_standing.specs.Readers.{with_front}
use Rattle.ss_snapshot.specs.ImageParts.{many_rows}
use Rattle.ss_snapshot.proofs.reading.rows.rows_in.Given as goal

abbrev pub invariant-loop : goal.invariant-loop
invariant-loop l = with_front l.rows (many_rows l.schema (l.count - l.counter) l.rest) ≡ many_rows l.schema l.count l.bytes
