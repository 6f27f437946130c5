use Rattle.std.proofs.Common.{◌≡◌, ◌++◌}
use Rattle.ss_rows.specs.Sources.{Positioned, first_position}
use Rattle.ss_rows.proofs.CallerLemmas.{Walked, rows_left}
use Rattle.ss_plan.specs.Seen.{live_positions, seen_of, value_behind}
use Rattle.ss_plan.proofs.visible.seen_from.Given as goal

-- the rows that were passed over are not seen
abbrev pub invariant-loop-at : goal.invariant-loop-at
invariant-loop-at l =
    (front back : Positioned) → live_positions l.rows.live ≡ front ++ back → l.initial.at ≡ first_position back →
    (before : Positioned) × (behind : Positioned) × Walked (live_positions l.rows.live) l.at before behind × (seen_of l.catalog (value_behind l.split) l.table behind ≡ seen_of l.catalog (value_behind l.split) l.table back)

abbrev pub decreases-loop-at : goal.decreases-loop-at
decreases-loop-at l = rows_left (live_positions l.rows.live) l.at
