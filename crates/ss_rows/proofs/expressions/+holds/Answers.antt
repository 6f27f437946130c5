use Rattle.std.proofs.Common.{◌≡◌, IfErr, Bool, ap, sym, ◌∙◌, subst}
use Rattle.ss_sql_trees.specs.declared.typed.BinaryOp.{BinaryOp}
use Rattle.ss_sql_trees.specs.declared.typed.BinaryOp.TheVariants.{Compare}
use Rattle.ss_sql_trees.specs.declared.typed.Expr.{Expr}
use Rattle.ss_sql_trees.specs.declared.typed.Expr.TheVariants.{Binary}
use Rattle.ss_model.specs.Expressions.{expr_test}
use Rattle.ss_model.specs.Results.{OrAbort}
use Rattle.ss_model.specs.Stops.{StopsAs}
use Rattle.ss_model.proofs.CallerLemmas.{binary_test}
use Rattle.ss_rows.specs.Compared.{compared}
use Rattle.ss_rows.specs.Tuples.{tuple_of}
use Rattle.ss_rows.proofs.expressions.+holds.Goals as goal

pub returns-in-Compare-clause-stops : goal.returns-in-Compare-clause-stops
returns-in-Compare-clause-stops t c =
    let here = tuple_of c.args.here in
    let params = c.args.params.now in
    let cmp = c.in-Compare.cmp in
    let b = c.in-Binary in
    let sides : compared here params cmp c.get-in-Compare.result.now c.get-in-Compare-2.result.now ≡ compared here params cmp b.left b.right = λ j. compared here params cmp (c.get-in-Compare.ensures j) (c.get-in-Compare-2.ensures j) in
    let tree : c.args.tree.now ≡ Binary (Compare cmp) b.left b.right = b.is ∙ ap (λ (op : BinaryOp). Binary op b.left b.right) c.in-Compare.is in
    let same = sides ∙ sym (binary_test here params (Compare cmp) b.left b.right) ∙ ap (expr_test here params) (sym tree) in
    subst (λ (m : OrAbort Bool). IfErr c.compares.result (λ stop. StopsAs m stop)) same c.compares.ensures.stops
