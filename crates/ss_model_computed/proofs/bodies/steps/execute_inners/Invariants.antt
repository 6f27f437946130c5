use Rattle.std.proofs.Common.{◌≡◌, drop}
use Rattle.ss_model.specs.Results.{try_fold}
use Rattle.ss_model.specs.Bodies.{execute_inner}
use Rattle.ss_model_computed.specs.State.{context_of, execution_of}
use Rattle.ss_model_computed.proofs.bodies.steps.execute_inners.Given as goal

abbrev pub invariant-loop-inner : goal.invariant-loop-inner
invariant-loop-inner l =
    try_fold (execute_inner (context_of l.context) l.current) (drop l.inner-index l.body) (execution_of l.execution)
    ≡ try_fold (execute_inner (context_of l.context) l.current) l.body (execution_of l.fn.execution)
