use Rattle.std.proofs.Common.{◌≡◌, map}
use Rattle.ss_rows.specs.Sources.{Positioned}
use Rattle.ss_rows.proofs.CallerLemmas.{Walked, rows_left}
use Rattle.ss_plan.proofs.found_slots.all_positions.Given as goal

abbrev pub invariant-loop-at : goal.invariant-loop-at
invariant-loop-at g l = (before : Positioned) × (behind : Positioned) × Walked (g.X.RowsOf.positioned l.from l.source) l.at before behind × (l.positions.items ≡ map (λ p. p.0) before)

abbrev pub decreases-loop-at : goal.decreases-loop-at
decreases-loop-at g l = rows_left (g.X.RowsOf.positioned l.from l.source) l.at
