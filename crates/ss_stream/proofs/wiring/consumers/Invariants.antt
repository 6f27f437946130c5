use Rattle.std.proofs.Common.{◌≡◌, map}
use Rattle.std.specs.List.{range_with_len}
use Rattle.ss_stream.specs.OfDatabase.{consumers_of}
use Rattle.ss_stream.proofs.wiring.consumers.Given as goal

abbrev pub invariant-loop-stream : goal.invariant-loop-stream
invariant-loop-stream l = l.consumers ≡ map (consumers_of l.catalog) (range_with_len 0 l.stream)
