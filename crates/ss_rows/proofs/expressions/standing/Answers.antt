use Rattle.std.proofs.Common.{◌≡◌, Option, Some, None, ap, sym, ◌∙◌, Ok}
use Rattle.std.specs.Prelude.{IfSome}
use Rattle.std.specs.Borrow.{Bor}
use Rattle.ss_value.specs.declared.value.Value.{Value}
use Rattle.ss_value.specs.Rows.{Row, Rows, column_value}
use Rattle.ss_sql_trees.specs.declared.typed.Expr.{Expr}
use Rattle.ss_sql_trees.specs.declared.typed.Expr.TheVariants.{Param, Col}
use Rattle.ss_model.specs.Expressions.{expr_value}
use Rattle.ss_model.proofs.CallerLemmas.{param_value, column_meaning}
use Rattle.ss_rows.specs.Compared.{IsValueOf}
use Rattle.ss_rows.specs.Operands.{value_or_zero}
use Rattle.ss_rows.specs.Tuples.{tuple_of}
use Rattle.ss_rows.proofs.expressions.standing.Goals as goal

-- where a value stands, it is that of the expression
stands : (here : Rows) (params : Row) (tree form : Expr) (value : Value) (found : Option (Bor Value)) → tree ≡ form → expr_value here params form ≡ Ok value → value_or_zero found ≡ value → IfSome found (IsValueOf here params tree)
stands here params tree form value None is means same = tt
stands here params tree form value (Some v) is means same = ap (expr_value here params) is ∙ means ∙ ap Ok (sym same)

pub returns-in-Param : goal.returns-in-Param
returns-in-Param c =
    let here = tuple_of c.args.here in
    let params = c.args.params.now in
    stands here params c.args.tree.now (Param c.in-Param.n) (column_value params c.in-Param.n) c.column_in.result c.in-Param.is (param_value here params c.in-Param.n) (c.column_in.ensures ∙ ap (column_value params) c.from.ensures)

pub returns-in-Col : goal.returns-in-Col
returns-in-Col c =
    let here = tuple_of c.args.here in
    let params = c.args.params.now in
    stands here params c.args.tree.now (Col c.in-Col.source c.in-Col.column) _ c.column.result c.in-Col.is (column_meaning here params c.in-Col.source c.in-Col.column) c.column.ensures
