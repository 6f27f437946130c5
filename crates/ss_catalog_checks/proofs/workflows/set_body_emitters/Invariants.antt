use Rattle.std.proofs.Common.{◌≡◌, ℕ, cond, None, Some, get_or, take}
use Rattle.std.specs.List.{list_any}
use Rattle.ss_model.specs.Database.{emits_to}
use Rattle.ss_catalog_checks.proofs.workflows.set_body_emitters.Given as goal

abbrev pub invariant-loop-step : goal.invariant-loop-step
invariant-loop-step l = (s : ℕ) → get_or l.emitters s None ≡ cond (list_any (emits_to s) (take l.step-index l.body)) (Some l.procedure) (get_or l.fn.emitters s None)
