use Rattle.std.proofs.Common.{◌<◌, ℕ}
use Rattle.ss_catalog_checks.specs.Cascades.{IsOnTriggerCycle}
use Rattle.ss_catalog_checks.proofs.cascades.trigger_cycle.Given as goal

abbrev pub invariant-loop-trigger : goal.invariant-loop-trigger
invariant-loop-trigger l = (k : ℕ) → k < l.trigger → IsOnTriggerCycle l.catalog k → ⊥
