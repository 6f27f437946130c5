use Rattle.std.proofs.Common.{◌≡◌, drop}
use Rattle.ss_model.specs.Results.{try_fold}
use Rattle.ss_model.specs.Bodies.{execute_inner}
use Rattle.ss_model_computed.specs.State.{context_of, execution_of}
use Rattle.ss_model_computed.proofs.bodies.steps.for_each.Given as goal

abbrev pub invariant-loop-row : goal.invariant-loop-row
invariant-loop-row l =
    try_fold (λ row. try_fold (execute_inner (context_of l.context) row) l.body) (drop l.row-index l.rows) (execution_of l.execution)
    ≡ try_fold (λ row. try_fold (execute_inner (context_of l.context) row) l.body) l.rows (execution_of l.fn.execution)
