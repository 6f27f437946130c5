use Rattle.std.proofs.Common.{◌≡◌, [], ◌++◌, map, take, get_or}
use Rattle.ss_model_computed.proofs.bodies.steps.batches_so_far.Given as goal

abbrev pub invariant-loop-stream : goal.invariant-loop-stream
invariant-loop-stream l = l.batches ≡ l.context.batches.now ++ map (λ s. get_or l.execution.emitted s []) (take l.stream-index l.context.inner.now)
