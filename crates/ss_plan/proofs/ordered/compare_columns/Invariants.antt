use Rattle.std.proofs.Common.{◌≡◌, drop}
use Rattle.ss_value.specs.Rows.{column_values}
use Rattle.ss_value.specs.Order.{row_cmp}
use Rattle.ss_plan.proofs.ordered.compare_columns.Given as goal

-- the columns so far tie
abbrev pub invariant-loop-column : goal.invariant-loop-column
invariant-loop-column l = row_cmp (column_values (drop l.column-index l.columns) l.a) (column_values (drop l.column-index l.columns) l.b) ≡ row_cmp (column_values l.columns l.a) (column_values l.columns l.b)
