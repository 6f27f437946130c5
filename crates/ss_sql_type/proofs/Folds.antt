-- What a node's typed tree is, from those of its sides.
use Rattle.std.proofs.Common.{◌≡◌, sym, ap, ◌∙◌, ℕ, List, Option}
use Rattle.ss_sql_lex.specs.declared.tree.ExprTree.{ExprTree}
use Rattle.ss_sql_lex.specs.declared.tree.ExprTree.TheVariants as e
use Rattle.ss_sql_lex.specs.declared.tree.ExprTree.TheOpen.{ExprTree-F}
use Rattle.ss_sql_lex.specs.declared.tree.ExprTree.TheFolds.{fold-roll-ExprTree}
use Rattle.ss_sql_trees.specs.declared.typed.BinaryOp.{BinaryOp}
use Rattle.ss_sql_trees.specs.declared.typed.UnaryOp.{UnaryOp}
use Rattle.ss_sql_trees.specs.declared.typed.ColAt.{ColAt}
use Rattle.ss_sql_type.specs.Names.{Reach}
use Rattle.ss_sql_type.specs.Expressions.{Typed, level, typed_expr}

module _ (reach : Reach) (grouped : Option (List ColAt)) where
  pub typed_unary : (at : ℕ) (op : UnaryOp) (side : ExprTree) → typed_expr reach grouped (e.Unary at op side) ≡ level reach grouped (ExprTree-F.Unary at op (typed_expr reach grouped side))
  typed_unary at op side = ap (typed_expr reach grouped) (sym (e.rolls-Unary at op side)) ∙ fold-roll-ExprTree Typed (level reach grouped) (ExprTree-F.Unary at op side)

  pub typed_binary : (at : ℕ) (op : BinaryOp) (left right : ExprTree) → typed_expr reach grouped (e.Binary at op left right) ≡ level reach grouped (ExprTree-F.Binary at op (typed_expr reach grouped left) (typed_expr reach grouped right))
  typed_binary at op left right = ap (typed_expr reach grouped) (sym (e.rolls-Binary at op left right)) ∙ fold-roll-ExprTree Typed (level reach grouped) (ExprTree-F.Binary at op left right)
