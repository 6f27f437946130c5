use Rattle.std.proofs.Common.{◌≡◌, ◌-◌, ℕ, suc, None, length, get_or}
use Rattle.ss_catalog_checks.proofs.workflows.extend_to.Given as goal

abbrev pub invariant-places : goal.invariant-places
invariant-places l = (s : ℕ) → get_or l.emitters s None ≡ get_or l.fn.emitters s None

abbrev pub decreases-places : goal.decreases-places
decreases-places l = suc l.stream - length l.emitters
