use Rattle.std.proofs.Common.{◌≡◌, ◌-◌, ℕ, suc, length}
use Rattle.ss_catalog_checks.specs.Tallies.{count_at}
use Rattle.ss_catalog_checks.proofs.tallies.make_counts.Given as goal

abbrev pub invariant-places : goal.invariant-places
invariant-places l = (s : ℕ) → count_at l.tallies s ≡ count_at l.fn.tallies s

abbrev pub decreases-places : goal.decreases-places
decreases-places l = suc l.stream - length l.tallies
