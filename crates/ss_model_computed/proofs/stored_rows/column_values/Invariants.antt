use Rattle.std.proofs.Common.{◌≡◌, take}
use Rattle.ss_value.specs.Rows.{column_values}
use Rattle.ss_model_computed.proofs.stored_rows.column_values.Given as goal

abbrev pub invariant-loop-column : goal.invariant-loop-column
invariant-loop-column l = l.values ≡ column_values (take l.column-index l.columns) l.row
