-- Comparisons of the values of two expressions on a tuple.
use Rattle.std.specs.Prelude.{◌≡◌, Bool, Ok}
use Rattle.std.specs.Borrow.{Bor}
use Rattle.ss_value.specs.declared.value.Value.{Value}
use Rattle.ss_value.specs.Order.{value_cmp}
use Rattle.ss_value.specs.Rows.{Row, Rows}
use Rattle.ss_sql_trees.specs.declared.typed.Cmp.{Cmp}
use Rattle.ss_sql_trees.specs.declared.typed.Expr.{Expr}
use Rattle.ss_model.specs.Expressions.{cmp_holds, expr_value}
use Rattle.ss_model.specs.Results.{OrAbort, ◌>>=◌}

-- whether the values of two expressions compare so, or the first abort
abbrev pub compared : Rows → Row → Cmp → Expr → Expr → OrAbort Bool
compared here params cmp left right = expr_value here params left >>= λ a. expr_value here params right >>= λ b. Ok (cmp_holds cmp (value_cmp a b))

-- this is the value of an expression, where it stands
abbrev pub IsValueOf : Rows → Row → Expr → Bor Value → Type 0
IsValueOf here params tree value = expr_value here params tree ≡ Ok value.now

-- these are the values of two expressions, where they stand
abbrev pub AreValuesOf : Rows → Row → Expr → Expr → Bor Value × Bor Value → Type 0
AreValuesOf here params left right values = IsValueOf here params left values.0 × IsValueOf here params right values.1
