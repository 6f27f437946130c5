-- The four levels of operators that repeat.
use Rattle.std.specs.Prelude.{ℕ, List, length, Result, Ok}
use Rattle.ss_sql_lex.specs.declared.tree.ExprTree.{ExprTree}
use Rattle.ss_sql_trees.specs.declared.typed.BinaryOp.{BinaryOp}
use Rattle.ss_sql_parse.specs.declared.operators.Level.{Level}
use Rattle.ss_sql_parse.specs.declared.operators.Level.TheVariants as level
use Rattle.ss_sql_parse.specs.declared.lexeme.Lexeme.{Lexeme}
use Rattle.ss_sql_grammar.specs.Grammar.{◌>>=◌, begins, starts, read, many, pair}
use Rattle.ss_sql_parse.specs.Terminals.{kind}
use Rattle.ss_sql_parse.specs.Nodes.{left_grouping}
use Rattle.ss_sql_parse.specs.Sql.{Sql, sql, inner, or_op, and_op, add_op, mul_op, both_rule, not_rule, term, unary}

-- the operators of a level
abbrev pub operator_rule : Level → Sql BinaryOp
operator_rule level.Or = or_op
operator_rule level.And = and_op
operator_rule level.Add = add_op
operator_rule level.Mul = mul_op

-- what stands between the operators of a level
abbrev pub side_rule : Level → Sql ExprTree
side_rule level.Or = both_rule
side_rule level.And = not_rule
side_rule level.Add = term
side_rule level.Mul = unary

-- up to n more operators, each with its right side
abbrev pub turns : Sql BinaryOp → Sql ExprTree → ℕ → List Lexeme → Result (List (BinaryOp × ExprTree) × List Lexeme) ℕ
turns op side n ts = many n (begins kind (starts sql op)) (λ us. pair (read sql inner op) (read sql inner side) us) ts

-- the tree of a left side and the operators that were read behind it
abbrev pub chain_tree : ExprTree → Result (List (BinaryOp × ExprTree) × List Lexeme) ℕ → Result (ExprTree × List Lexeme) ℕ
chain_tree left r = r >>= λ z. Ok (left_grouping left z.0, z.1)

-- a left side with the operators of a level that stand behind it
abbrev pub tail : Level → ExprTree → List Lexeme → Result (ExprTree × List Lexeme) ℕ
tail l left ts = chain_tree left (turns (operator_rule l) (side_rule l) (length ts) ts)
