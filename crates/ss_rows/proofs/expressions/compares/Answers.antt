use Rattle.std.proofs.Common.{◌≡◌, ap, sym, ◌∙◌, Ok}
use Rattle.std.specs.declared.cmp.Ordering.{Ordering}
use Rattle.ss_value.specs.declared.value.Value.{Value}
use Rattle.ss_value.specs.Order.{value_cmp}
use Rattle.ss_value.specs.Rows.{Row, Rows}
use Rattle.ss_sql_trees.specs.declared.typed.Cmp.{Cmp}
use Rattle.ss_sql_trees.specs.declared.typed.Expr.{Expr}
use Rattle.ss_model.specs.Expressions.{cmp_holds, expr_value}
use Rattle.ss_model.specs.Results.{◌>>=◌}
use Rattle.ss_rows.specs.Compared.{compared}
use Rattle.ss_rows.specs.Tuples.{tuple_of}
use Rattle.ss_rows.proofs.expressions.compares.Goals as goal

compared_as : (here : Rows) (params : Row) (cmp : Cmp) (left right : Expr) (a b : Value) → expr_value here params left ≡ Ok a → expr_value here params right ≡ Ok b → compared here params cmp left right ≡ Ok (cmp_holds cmp (value_cmp a b))
compared_as here params cmp left right a b p q = λ j. p j >>= λ a. q j >>= λ b. Ok (cmp_holds cmp (value_cmp a b))

pub returns-in-Some-clause-ok : goal.returns-in-Some-clause-ok
returns-in-Some-clause-ok c =
    let are = c.in-Some.ensures in
    compared_as (tuple_of c.args.here) c.args.params.now c.args.cmp c.args.left.now c.args.right.now c.in-Some.left.now c.in-Some.right.now are.0 are.1
    ∙ ap (λ (order : Ordering). Ok (cmp_holds c.args.cmp order)) (sym c.compare.ensures)
    ∙ ap Ok (sym c.cmp_holds.ensures)
