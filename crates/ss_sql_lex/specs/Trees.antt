-- The offsets of expressions.
use Rattle.std.specs.Prelude.{ℕ}
use Rattle.ss_sql_lex.specs.declared.tree.ExprTree.{ExprTree, out-ExprTree}
use Rattle.ss_sql_lex.specs.declared.tree.ExprTree.TheVariants as e
use Rattle.ss_sql_lex.specs.declared.tree.ExprTree.TheOpen.{ExprTree-F}

-- the offset of a node, whatever its sides are
abbrev pub offset_open : {R : Type 0} → ExprTree-F R → ℕ
offset_open (ExprTree-F.Number at number) = at
offset_open (ExprTree-F.Text at text) = at
offset_open (ExprTree-F.Param at param) = at
offset_open (ExprTree-F.Column at column) = at
offset_open (ExprTree-F.Unary at op side) = at
offset_open (ExprTree-F.Binary at op left right) = at

-- the offset of an expression's first token
abbrev pub offset_of : ExprTree → ℕ
offset_of t = offset_open (out-ExprTree t)

-- a node at another offset
abbrev pub with_offset_open : ℕ → ExprTree-F ExprTree → ExprTree
with_offset_open at (ExprTree-F.Number old number) = e.Number at number
with_offset_open at (ExprTree-F.Text old text) = e.Text at text
with_offset_open at (ExprTree-F.Param old param) = e.Param at param
with_offset_open at (ExprTree-F.Column old column) = e.Column at column
with_offset_open at (ExprTree-F.Unary old op side) = e.Unary at op side
with_offset_open at (ExprTree-F.Binary old op left right) = e.Binary at op left right

-- the same expression at another offset
abbrev pub with_offset : ℕ → ExprTree → ExprTree
with_offset at t = with_offset_open at (out-ExprTree t)
