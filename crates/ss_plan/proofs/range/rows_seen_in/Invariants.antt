use Rattle.std.proofs.Common.{◌≡◌, ◌++◌, drop}
use Rattle.ss_plan.specs.Found.{lent_rows, rows_seen_in}
use Rattle.ss_plan.specs.Seen.{row_is_seen, value_behind}
use Rattle.ss_plan.proofs.range.rows_seen_in.Given as goal

-- the rows in the slots that are left stand behind those that were found
abbrev pub invariant-loop-slot : goal.invariant-loop-slot
invariant-loop-slot l =
    let seen = row_is_seen l.from.catalog.now (value_behind l.from.split) l.table in
    lent_rows l.found.items ++ rows_seen_in seen l.rows.live (drop l.slot-index l.slots) ≡ rows_seen_in seen l.rows.live l.slots
