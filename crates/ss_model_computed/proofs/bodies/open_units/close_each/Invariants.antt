use Rattle.std.proofs.Common.{◌≡◌, drop}
use Rattle.ss_model.specs.Results.{try_fold}
use Rattle.ss_model.specs.Bodies.{close_window}
use Rattle.ss_model_computed.specs.State.{context_of, execution_of}
use Rattle.ss_model_computed.proofs.bodies.open_units.close_each.Given as goal

abbrev pub invariant-loop-window : goal.invariant-loop-window
invariant-loop-window l =
    try_fold (close_window (context_of l.context)) (drop l.window-index l.windows) (execution_of l.execution)
    ≡ try_fold (close_window (context_of l.context)) l.windows (execution_of l.fn.execution)
