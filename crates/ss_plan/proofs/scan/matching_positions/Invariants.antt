use Rattle.std.proofs.Common.{◌≡◌, [], ◌∷◌, map}
use Rattle.ss_model.specs.Queries.{where_passes}
use Rattle.ss_rows.specs.Sources.{Positioned}
use Rattle.ss_rows.proofs.CallerLemmas.{Walked, rows_left}
use Rattle.ss_plan.proofs.Scanning.{Keeps}
use Rattle.ss_plan.proofs.scan.matching_positions.Given as goal

abbrev pub invariant-loop-at : goal.invariant-loop-at
invariant-loop-at g l =
    (before : Positioned) × (behind : Positioned) × Walked (g.X.RowsOf.positioned l.from l.source) l.at before behind
    × ((done : Positioned) × (l.positions.items ≡ map (λ p. p.0) done) × Keeps (λ p. where_passes l.params l.test (p.1 ∷ [])) (g.X.RowsOf.positioned l.from l.source) done behind)

abbrev pub decreases-loop-at : goal.decreases-loop-at
decreases-loop-at g l = rows_left (g.X.RowsOf.positioned l.from l.source) l.at
