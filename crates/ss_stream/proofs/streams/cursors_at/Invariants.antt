use Rattle.std.proofs.Common.{◌≡◌, take}
use Rattle.ss_stream.specs.Streams.{cursors_at}
use Rattle.ss_stream.proofs.streams.cursors_at.Given as goal

abbrev pub invariant-loop-consumer : goal.invariant-loop-consumer
invariant-loop-consumer l = l.cursors ≡ cursors_at l.counts (take l.consumer-index l.consumers)
