use Rattle.std.proofs.Common.{◌≡◌, ◌-◌, option_map, Some}
use Rattle.std.specs.List.{fold}
use Rattle.std.specs.Option.{option_copied}
use Rattle.ss_value.specs.Rows.{column_values}
use Rattle.ss_standing.specs.Readers.{with_front}
use Rattle.ss_snapshot.specs.ImageParts.{rows_above}
use Rattle.ss_snapshot.proofs.reading.rows.rows_above_in.Given as goal

abbrev pub invariant-loop : goal.invariant-loop
invariant-loop l =
    let before = option_map (column_values l.table.key) (option_copied l.before) in
    with_front l.rows (rows_above l.table (l.count - l.counter) (fold (λ last row. Some (column_values l.table.key row)) before l.rows) l.rest) ≡ rows_above l.table l.count before l.bytes
