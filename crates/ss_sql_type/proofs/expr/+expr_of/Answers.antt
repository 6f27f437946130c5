use Rattle.std.proofs.Common.{rules, ◌≡◌, ap, ◌∙◌, sym, subst}
use Rattle.ss_sql_lex.specs.declared.tree.ExprTree.{ExprTree}
use Rattle.ss_sql_type.specs.Refusals.{least_of}
use Rattle.ss_sql_type.specs.Expressions.{Typed, typed_expr, grouping, Shows}
use Rattle.ss_sql_type.proofs.Noted.{unary_noted, binary_noted, on_ok}
use Rattle.ss_sql_type.proofs.Folds.{typed_unary, typed_binary}
use Rattle.ss_sql_type.proofs.expr.+expr_of.Goals as goal

pub returns-in_ok-side-in-Unary-clause-faults : goal.returns-in_ok-side-in-Unary-clause-faults
returns-in_ok-side-in-Unary-clause-faults t c =
    let reach = c.args.names.now in
    let grouped = grouping c.args.grouped in
    let tree = ap (typed_expr reach grouped) c.in-Unary.is ∙ typed_unary reach grouped c.in-Unary.at c.in-Unary.op c.in-Unary.side in
    let side = typed_expr reach grouped c.in-Unary.side in
    let shows : Shows c.in_ok-side-in-Unary.side side = subst (λ (x : ExprTree). Shows c.in_ok-side-in-Unary.side (typed_expr reach grouped x)) c.get.ensures c.in_ok-side-in-Unary.ensures.ok in
    let first : c.expr_of.new.found ≡ least_of c.args.found.now side.faults = search rules in
    let noted = unary_noted c.args.found.now c.expr_of.new.found c.check_side.new.found c.sign_kind.result _ c.in_ok-side-in-Unary.side side shows c.sign_kind.ensures first c.check_side.ensures in
    on_ok c.unary_of.result (noted ∙ ap (λ (t : Typed). least_of c.args.found.now t.faults) (sym tree))

pub returns-in_ok-right-in-Binary-clause-faults : goal.returns-in_ok-right-in-Binary-clause-faults
returns-in_ok-right-in-Binary-clause-faults t c =
    let reach = c.args.names.now in
    let grouped = grouping c.args.grouped in
    let tree = ap (typed_expr reach grouped) c.in-Binary.is ∙ typed_binary reach grouped c.in-Binary.at c.in-Binary.op c.in-Binary.left c.in-Binary.right in
    let left = typed_expr reach grouped c.in-Binary.left in
    let right = typed_expr reach grouped c.in-Binary.right in
    let left_shows : Shows c.in_ok-left-in-Binary.left left = subst (λ (x : ExprTree). Shows c.in_ok-left-in-Binary.left (typed_expr reach grouped x)) c.get-in-Binary.ensures c.in_ok-left-in-Binary.ensures.ok in
    let right_shows : Shows c.in_ok-right-in-Binary.right right = subst (λ (x : ExprTree). Shows c.in_ok-right-in-Binary.right (typed_expr reach grouped x)) c.get-in-Binary-2.ensures c.in_ok-right-in-Binary.ensures.ok in
    let first : c.expr_of-in-Binary.new.found ≡ least_of c.args.found.now left.faults = search rules in
    let second : c.expr_of-in-Binary-2.new.found ≡ least_of c.expr_of-in-Binary.new.found right.faults = search rules in
    let noted = binary_noted c.args.found.now c.expr_of-in-Binary.new.found c.expr_of-in-Binary-2.new.found c.check_sides.new.found c.in-Binary.op c.in_ok-left-in-Binary.left c.in_ok-right-in-Binary.right left right left_shows right_shows first second c.check_sides.ensures in
    on_ok c.binary_of.result (noted ∙ ap (λ (t : Typed). least_of c.args.found.now t.faults) (sym tree))
