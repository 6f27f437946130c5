-- What UPDATE makes of one column and of one entry, or the first abort.
use Rattle.std.specs.Prelude.{ℕ, List, Ok}
use Rattle.ss_value.specs.declared.value.Value.{Value}
use Rattle.ss_value.specs.Rows.{Row, Rows}
use Rattle.ss_sql_trees.specs.declared.typed.SetTo.{SetTo}
use Rattle.ss_model.specs.Results.{OrAbort, ◌>>=◌}
use Rattle.ss_model.specs.Expressions.{expr_value}
use Rattle.ss_model.specs.Statements.{updated_row}

-- the column of a SET and its value
abbrev pub set_value : Row → Rows → SetTo → OrAbort (ℕ × Value)
set_value params here s = expr_value here params s.value >>= λ v. Ok (s.column, v)

-- an entry with the row that the SETs make of its row
abbrev pub updated_entry : Row → List SetTo → Row × Row → OrAbort (Row × Row)
updated_entry params sets e = updated_row params sets e.1 >>= λ row. Ok (e.0, row)
