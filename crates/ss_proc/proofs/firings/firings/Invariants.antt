use Rattle.std.proofs.Common.{◌≡◌, ◌<◌, ◌↔◌, ℕ, true, slice_get, Some}
use Rattle.std.specs.Int.{IsBitSet}
use Rattle.ss_model.specs.declared.catalog.TriggerDef.{TriggerDef}
use Rattle.ss_proc.specs.Waiting.{waits_for}
use Rattle.ss_proc.proofs.firings.firings.Given as goal

abbrev pub invariant-loop-n : goal.invariant-loop-n
invariant-loop-n l = (n : ℕ) → IsBitSet l.fired n ↔ ((n < l.n) × ((trigger : TriggerDef) → slice_get l.catalog.triggers n ≡ Some trigger → waits_for l.event trigger.on ≡ true))
