-- A sum, and what stands behind it.
use Rattle.std.proofs.Common.{◌≡◌, ℕ, true, List, Result, Ok, refl}
use Rattle.ss_sql_parse.specs.declared.lexeme.Lexeme.{Lexeme}
use Rattle.ss_sql_lex.specs.declared.tree.ExprTree.{ExprTree}
use Rattle.ss_sql_trees.specs.declared.typed.Cmp.{Cmp}
use Rattle.ss_sql_trees.specs.declared.typed.BinaryOp.TheVariants as b
use Rattle.ss_sql_grammar.specs.Grammar.{begins, starts, read}
use Rattle.ss_sql_parse.specs.Terminals.{kind}
use Rattle.ss_sql_parse.specs.declared.stop.Stop.{Stop}
use Rattle.ss_sql_parse.specs.declared.stop.Stop.TheVariants as stop
use Rattle.ss_sql_parse.specs.Gives.{Fails}
use Rattle.ss_sql_parse.specs.Sql.{sql, inner, cmp, unary, sum, test}
use Rattle.ss_sql_parse.specs.Nodes.{binary_tree}
use Rattle.ss_sql_parse.specs.declared.operators.Level.TheVariants as level
use Rattle.ss_sql_parse.specs.Levels.{tail}
use Rattle.ss_sql_parse.proofs.Chain.{follows}

-- a unary, and the operators of both levels behind it
pub sum_reads : (ts : List Lexeme) (first : ExprTree) (behind : List Lexeme) (left : ExprTree) (rest : List Lexeme) (x : Result (ExprTree × List Lexeme) ℕ)
    → read sql inner unary ts ≡ Ok (first, behind) → tail level.Mul first behind ≡ Ok (left, rest) → tail level.Add left rest ≡ x → read sql inner sum ts ≡ x
sum_reads ts first behind left rest x h t s = follows level.Add ts left rest x (follows level.Mul ts first behind (Ok (left, rest)) h t) s

-- two sums compared
pub compares : (ts : List Lexeme) (left : ExprTree) (rest : List Lexeme) (op : Cmp) (behind : List Lexeme) (right : ExprTree) (after : List Lexeme)
    → read sql inner sum ts ≡ Ok (left, rest) → begins kind (starts sql cmp) rest ≡ true → read sql inner cmp rest ≡ Ok (op, behind) → read sql inner sum behind ≡ Ok (right, after)
    → read sql inner test ts ≡ Ok (binary_tree left (b.Compare op, right), after)
compares ts left rest op behind right after h begun c s = rw (h, begun, c, s) refl

-- no sum stands behind a comparison
pub compares_not : (e : Stop) (ts : List Lexeme) (left : ExprTree) (rest : List Lexeme) (op : Cmp) (behind : List Lexeme)
    → read sql inner sum ts ≡ Ok (left, rest) → begins kind (starts sql cmp) rest ≡ true → read sql inner cmp rest ≡ Ok (op, behind) → Fails e (read sql inner sum behind)
    → Fails e (read sql inner test ts)
compares_not stop.Memory ts left rest op behind h begun c s = tt
compares_not (stop.Left n) ts left rest op behind h begun c s = rw (h, begun, c, s) refl
