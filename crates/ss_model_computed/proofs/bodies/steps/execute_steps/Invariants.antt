use Rattle.std.proofs.Common.{◌≡◌, drop}
use Rattle.ss_model.specs.Results.{try_fold}
use Rattle.ss_model.specs.Bodies.{execute_step}
use Rattle.ss_model_computed.specs.State.{context_of, execution_of}
use Rattle.ss_model_computed.proofs.bodies.steps.execute_steps.Given as goal

abbrev pub invariant-loop-step : goal.invariant-loop-step
invariant-loop-step l =
    try_fold (execute_step (context_of l.context)) (drop l.step-index l.steps) (execution_of l.execution)
    ≡ try_fold (execute_step (context_of l.context)) l.steps (execution_of l.fn.execution)
