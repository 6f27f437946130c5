use Rattle.std.proofs.Common.{◌≡◌, ◌++◌, drop, map}
use Rattle.ss_plan.specs.Found.{lent_rows}
use Rattle.ss_plan.proofs.found_slots.slots_in.Given as goal

abbrev pub invariant-loop-slot : goal.invariant-loop-slot
invariant-loop-slot l = l.slots.items ++ map (λ p. p.0) (lent_rows (drop l.slot-index l.rows)) ≡ map (λ p. p.0) (lent_rows l.rows)
