use Rattle.std.proofs.Common.{◌≡◌, [], ◌∷◌, drop, map}
use Rattle.ss_model.specs.Queries.{where_passes}
use Rattle.ss_rows.specs.Sources.{Positioned}
use Rattle.ss_plan.specs.Found.{lent_rows}
use Rattle.ss_plan.proofs.Scanning.{Keeps}
use Rattle.ss_plan.proofs.scan.passing_slots.Given as goal

-- of the rows so far these passed
abbrev pub invariant-loop-slot : goal.invariant-loop-slot
invariant-loop-slot l =
    (done : Positioned) × (l.slots.items ≡ map (λ p. p.0) done)
    × Keeps (λ p. where_passes l.params l.test (p.1 ∷ [])) (lent_rows l.rows) done (lent_rows (drop l.slot-index l.rows))
