use Rattle.std.proofs.Common.{◌≡◌, ◌⊎◌, ◌↔◌, ℕ, true, drop}
use Rattle.std.specs.Int.{IsBitSet}
use Rattle.std.specs.List.{list_any}
use Rattle.ss_model.specs.Database.{emits_to}
use Rattle.ss_sched.proofs.wake.body_outputs.Given as goal

abbrev pub invariant-loop-step : goal.invariant-loop-step
invariant-loop-step l = (s : ℕ) → (IsBitSet l.streams s ⊎ (list_any (emits_to s) (drop l.step-index l.body) ≡ true)) ↔ (list_any (emits_to s) l.body ≡ true)
