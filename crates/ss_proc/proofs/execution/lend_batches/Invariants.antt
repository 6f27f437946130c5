use Rattle.std.proofs.Common.{◌≡◌, map, take}
use Rattle.ss_proc.specs.Lending.{batch_at}
use Rattle.ss_proc.proofs.execution.lend_batches.Given as goal

abbrev pub invariant-loop-stream : goal.invariant-loop-stream
invariant-loop-stream l = l.batches ≡ map (batch_at l.streams l.r) (take l.stream-index l.inputs)
