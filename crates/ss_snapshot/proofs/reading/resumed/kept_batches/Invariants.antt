use Rattle.std.proofs.Common.{◌≡◌, ◌++◌, map}
use Rattle.ss_snapshot.specs.Resumed.{batches_of}
use Rattle.ss_snapshot.specs.Streams.{as_kept}
use Rattle.ss_snapshot.proofs.reading.resumed.kept_batches.Given as goal

abbrev pub invariant-loop-stream : goal.invariant-loop-stream
invariant-loop-stream l = l.lists ++ batches_of (map as_kept l.stream-iterator.rest.items) ≡ batches_of (map as_kept l.fn.streams)
