use Rattle.std.proofs.Common.{◌≡◌, ◌<◌, ℕ, None}
use Rattle.ss_catalog_checks.specs.Localities.{refused_step}
use Rattle.ss_catalog_checks.proofs.locality.first_step.Given as goal

abbrev pub invariant-loop-procedure : goal.invariant-loop-procedure
invariant-loop-procedure l = (k : ℕ) → k < l.procedure → refused_step l.catalog k ≡ None
