-- The nodes of expressions.
use Rattle.std.specs.Prelude.{ℕ, List, [], ◌∷◌, Option, Some, None, ℤ, pos}
use Rattle.ss_sql_lex.specs.declared.tree.NameTree.{NameTree}
use Rattle.ss_sql_lex.specs.declared.tree.NumberTree.{NumberTree}
use Rattle.ss_sql_lex.specs.declared.tree.TextTree.{TextTree}
use Rattle.ss_sql_lex.specs.declared.tree.ColumnTree.{ColumnTree}
use Rattle.ss_sql_lex.specs.declared.tree.ExprTree.{ExprTree}
use Rattle.ss_sql_lex.specs.declared.tree.ExprTree.TheVariants as e
use Rattle.ss_sql_trees.specs.declared.typed.BinaryOp.{BinaryOp}
use Rattle.ss_sql_trees.specs.declared.typed.BinaryOp.TheVariants as b
use Rattle.ss_sql_trees.specs.declared.typed.UnaryOp.TheVariants as u
use Rattle.ss_sql_trees.specs.declared.typed.Cmp.{Cmp}
use Rattle.ss_sql_lex.specs.Trees.{offset_of, with_offset}
use Rattle.ss_sql_parse.specs.declared.lexeme.Content.{Content}
use Rattle.ss_sql_parse.specs.declared.lexeme.Content.TheVariants as c
use Rattle.ss_sql_parse.specs.declared.lexeme.Lexeme.{Lexeme}

-- the bytes of a name, a parameter or a text
abbrev pub bytes_in : Content → List ℕ
bytes_in (c.Name name) = name
bytes_in (c.Param name) = name
bytes_in (c.Text value) = value
bytes_in content = []

-- the value of a number
abbrev pub value_in : Content → ℤ
value_in (c.Number value) = value
value_in content = pos 0

-- the tree of a name's or a parameter's token
abbrev pub name_tree : Lexeme → NameTree
name_tree l = record { at = l.from; name = bytes_in l.content }

-- the tree of a number's token
abbrev pub number_tree : Lexeme → NumberTree
number_tree l = record { at = l.from; value = value_in l.content }

-- the tree of a text's token
abbrev pub text_tree : Lexeme → TextTree
text_tree l = record { at = l.from; value = bytes_in l.content }

-- a name, or a source's name and a column's
abbrev pub column_tree : NameTree × Option NameTree → ColumnTree
column_tree (name, None) = record { source = None; name = name }
column_tree (source, Some name) = record { source = Some source; name = name }

-- the offset of a column's first token
abbrev pub first_offset : Option NameTree → NameTree → ℕ
first_offset None name = name.at
first_offset (Some source) name = source.at

-- a number as an expression, with the offset of its token
abbrev pub number_leaf : NumberTree → ExprTree
number_leaf n = e.Number n.at n

-- a text as an expression, with the offset of its token
abbrev pub text_leaf : TextTree → ExprTree
text_leaf x = e.Text x.at x

-- a parameter as an expression, with the offset of its token
abbrev pub param_leaf : NameTree → ExprTree
param_leaf n = e.Param n.at n

-- a column as an expression, with the offset of its first token
abbrev pub column_leaf : ColumnTree → ExprTree
column_leaf x = e.Column (first_offset x.source x.name) x

-- a bracketed expression has the offset of its opening bracket
abbrev pub bracket : Lexeme × (ExprTree × Lexeme) → ExprTree
bracket x = with_offset x.0.from x.1.0

-- a minus sign before its side
abbrev pub negation : Lexeme × ExprTree → ExprTree
negation x = e.Unary x.0.from u.Negate x.1

-- NOT before its side
abbrev pub denial : Lexeme × ExprTree → ExprTree
denial x = e.Unary x.0.from u.Not x.1

-- an operator between its sides has the offset of the left one
abbrev pub binary_tree : ExprTree → BinaryOp × ExprTree → ExprTree
binary_tree left x = e.Binary (offset_of left) x.0 left x.1

-- operators of one level group from the left
abbrev pub left_grouping : ExprTree → List (BinaryOp × ExprTree) → ExprTree
left_grouping left [] = left
left_grouping left (x ∷ xs) = left_grouping (binary_tree left x) xs

-- a sum, or two of them compared
abbrev pub comparison : ExprTree × Option (Cmp × ExprTree) → ExprTree
comparison (left, None) = left
comparison (left, Some x) = binary_tree left (b.Compare x.0, x.1)
