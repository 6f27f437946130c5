use Rattle.std.proofs.Common.{◌<◌, ℕ}
use Rattle.ss_catalog_checks.specs.Workflows.{IsOnCycle}
use Rattle.ss_catalog_checks.proofs.cycles.workflow_cycle.Given as goal

abbrev pub invariant-loop-procedure : goal.invariant-loop-procedure
invariant-loop-procedure l = (k : ℕ) → k < l.procedure → IsOnCycle l.catalog k → ⊥
