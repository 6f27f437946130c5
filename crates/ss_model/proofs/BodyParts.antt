-- The two parts of a body's run: its steps, and the closing of its windows.
use Rattle.std.proofs.Common.{◌≡◌, List, sym, ap, ◌∙◌, subst}
use Rattle.std.specs.declared.result.Result.TheVariants.{Ok}
use Rattle.ss_model.proofs.Walks.{stops_before}
use Rattle.ss_model.specs.declared.catalog.Step.{Step}
use Rattle.ss_model.specs.Results.{OrAbort, ◌>>=◌, try_fold}
use Rattle.ss_model.specs.Contents.{Contents}
use Rattle.ss_model.specs.Statements.{Context, Execution}
use Rattle.ss_model.specs.Bodies.{execute_step, owned_batch_windows, close_window, execution_start, run_body}
use Rattle.ss_model.specs.declared.run_error.RunError.{RunError}
use Rattle.ss_model.specs.Stops.{StopsAs}

module _ (context : Context) (body : List Step) (s : Contents) (start : Execution) (is : start ≡ execution_start context.catalog s) where
  steps : Execution → OrAbort Execution
  steps w = try_fold (execute_step context) body w

  windows : Execution → OrAbort Execution
  windows w = try_fold (close_window context) (owned_batch_windows context.catalog context.procedure) w

  begun : (steps start >>= windows) ≡ run_body context body s
  unfolding run_body steps windows
  begun = ap (λ w. try_fold (execute_step context) body w >>= try_fold (close_window context) (owned_batch_windows context.catalog context.procedure)) is

  pub steps_stop : (stop : RunError) → StopsAs (try_fold (execute_step context) body start) stop → StopsAs (run_body context body s) stop
  unfolding steps
  steps_stop stop h = subst (λ (r : OrAbort Execution). StopsAs r stop) begun (stops_before (steps start) windows stop h)

  pub windows_stop : (w : Execution) (stop : RunError) → try_fold (execute_step context) body start ≡ Ok w → StopsAs (try_fold (close_window context) (owned_batch_windows context.catalog context.procedure) w) stop → StopsAs (run_body context body s) stop
  unfolding steps windows
  windows_stop w stop e h = subst (λ (r : OrAbort Execution). StopsAs r stop) (sym (ap (λ r. r >>= windows) e) ∙ begun) h

  pub body_done : (w v : Execution) → try_fold (execute_step context) body start ≡ Ok w → try_fold (close_window context) (owned_batch_windows context.catalog context.procedure) w ≡ Ok v → run_body context body s ≡ Ok v
  unfolding steps windows
  body_done w v e h = sym begun ∙ ap (λ r. r >>= windows) e ∙ h
