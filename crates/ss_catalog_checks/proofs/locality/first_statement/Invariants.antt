use Rattle.std.proofs.Common.{◌≡◌, ◌<◌, ℕ, None}
use Rattle.ss_catalog_checks.specs.Localities.{refused_statement}
use Rattle.ss_catalog_checks.proofs.locality.first_statement.Given as goal

abbrev pub invariant-loop-trigger : goal.invariant-loop-trigger
invariant-loop-trigger l = (k : ℕ) → k < l.trigger → refused_statement l.catalog k ≡ None
