use Rattle.std.proofs.Common.{◌≡◌, ◌≤◌, ◌-◌, ℕ, suc, [], length, get_or}
use Rattle.ss_catalog_checks.proofs.graph.add_rows.Given as goal

abbrev pub invariant-rows : goal.invariant-rows
invariant-rows l = ((n : ℕ) → get_or l.graph n [] ≡ get_or l.fn.graph n []) × (length l.fn.graph ≤ length l.graph)

abbrev pub decreases-rows : goal.decreases-rows
decreases-rows l = suc l.node - length l.graph
