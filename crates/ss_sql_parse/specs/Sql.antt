-- The grammar of SQL's expressions.
use Rattle.std.specs.Prelude.{ℕ, zero, suc, ◌≡◌, List, [], ◌∷◌, length, Err}
use Rattle.ss_sql_lex.specs.declared.tree.NameTree.{NameTree}
use Rattle.ss_sql_lex.specs.declared.tree.NumberTree.{NumberTree}
use Rattle.ss_sql_lex.specs.declared.tree.TextTree.{TextTree}
use Rattle.ss_sql_lex.specs.declared.tree.ColumnTree.{ColumnTree}
use Rattle.ss_sql_lex.specs.declared.tree.ExprTree.{ExprTree}
use Rattle.ss_sql_trees.specs.declared.typed.BinaryOp.{BinaryOp}
use Rattle.ss_sql_trees.specs.declared.typed.BinaryOp.TheVariants as b
use Rattle.ss_sql_trees.specs.declared.typed.Cmp.{Cmp}
use Rattle.ss_sql_trees.specs.declared.typed.Cmp.TheVariants as c
use Rattle.ss_sql_parse.specs.declared.lexeme.Terminal.{Terminal}
use Rattle.ss_sql_parse.specs.declared.lexeme.Terminal.TheVariants as t
use Rattle.ss_sql_parse.specs.declared.lexeme.Lexeme.{Lexeme}
use Rattle.ss_sql_grammar.specs.Grammar.{Rule, Kinds, one, nested, act, both, or, maybe, some, Reader, Spells, read}
use Rattle.ss_sql_parse.specs.Terminals.{code, kind, spare, a_name, a_number, a_text, a_param}
use Rattle.ss_sql_parse.specs.Nodes.{name_tree, number_tree, text_tree, column_tree, number_leaf, text_leaf, param_leaf, column_leaf, bracket, negation, denial, left_grouping, comparison}

-- the rules that contain themselves
pub data Nest : Type 0 where
  InExpr : Nest
  InNot : Nest
  InUnary : Nest

-- a rule for trees of type A
abbrev pub Sql : Type 0 → Type 1
Sql A = Rule Nest Lexeme ExprTree A

-- ---- tokens

-- a keyword or a symbol
abbrev pub token : Terminal → Sql Lexeme
token k = one (code k)

-- a keyword or a symbol, whose tree is this value
abbrev pub sign : {A : Type 0} → Terminal → A → Sql A
sign k a = act (λ _. a) (token k)

-- a name
abbrev pub name : Sql NameTree
name = act name_tree (one a_name)

-- a number
abbrev pub number : Sql NumberTree
number = act number_tree (one a_number)

-- a text
abbrev pub text : Sql TextTree
text = act text_tree (one a_text)

-- a parameter
abbrev pub parameter : Sql NameTree
parameter = act name_tree (one a_param)

-- what stands behind a keyword or a symbol
abbrev pub after : {A : Type 0} → Terminal → Sql A → Sql A
after k g = act (λ x. x.1) (both (token k) g)

-- ---- the grammar, line by line

-- column = name | name "." name
abbrev pub column : Sql ColumnTree
column = act column_tree (maybe name (after t.Dot name))

-- cmp = "=" | "<>" | "<" | "<=" | ">" | ">="
abbrev pub cmp : Sql Cmp
cmp = or (sign t.Equal c.Eq) (or (sign t.NotEqual c.Ne) (or (sign t.Less c.Lt) (or (sign t.AtMost c.Le) (or (sign t.Greater c.Gt) (sign t.AtLeast c.Ge)))))

-- the operators of each level: OR
abbrev pub or_op : Sql BinaryOp
or_op = sign t.Or b.Or

-- AND
abbrev pub and_op : Sql BinaryOp
and_op = sign t.And b.And

-- "+" | "-" | "||"
abbrev pub add_op : Sql BinaryOp
add_op = or (sign t.Plus b.Add) (or (sign t.Minus b.Sub) (sign t.Concat b.Concat))

-- "*" | "/" | "%"
abbrev pub mul_op : Sql BinaryOp
mul_op = or (sign t.Star b.Mul) (or (sign t.Slash b.Div) (sign t.Percent b.Rem))

-- primary = number | text | parameter | column | "(" expr ")"
abbrev pub primary : Sql ExprTree
primary = or (act number_leaf number) (or (act text_leaf text) (or (act param_leaf parameter) (or (act column_leaf column)
    (act bracket (both (token t.Open) (both (nested InExpr) (token t.Close)))))))

-- unary = "-" unary | primary
abbrev pub unary : Sql ExprTree
unary = or (act negation (both (token t.Minus) (nested InUnary))) primary

-- side {op side}
abbrev pub chain : Sql BinaryOp → Sql ExprTree → Sql ExprTree
chain op side = act (λ x. left_grouping x.0 x.1) (some side (both op side))

-- term = unary {("*"|"/"|"%") unary}
abbrev pub term : Sql ExprTree
term = chain mul_op unary

-- sum = term {("+"|"-"|"||") term}
abbrev pub sum : Sql ExprTree
sum = chain add_op term

-- test = sum [cmp sum]
abbrev pub test : Sql ExprTree
test = act comparison (maybe sum (both cmp sum))

-- not = NOT not | test
abbrev pub not_rule : Sql ExprTree
not_rule = or (act denial (both (token t.Not) (nested InNot))) test

-- both = not {AND not}
abbrev pub both_rule : Sql ExprTree
both_rule = chain and_op not_rule

-- expr = both {OR both}
abbrev pub expr : Sql ExprTree
expr = chain or_op both_rule

-- the rule of what is nested
abbrev pub rule : Nest → Sql ExprTree
rule InExpr = expr
rule InNot = not_rule
rule InUnary = unary

-- ---- where one token decides

-- the kinds that begin a unary
abbrev pub first_unary : List ℕ
first_unary = code t.Minus ∷ a_number ∷ a_text ∷ a_param ∷ a_name ∷ code t.Open ∷ []

-- the kinds that may go on behind a whole not
abbrev pub last_not : List ℕ
last_not = code t.Equal ∷ code t.NotEqual ∷ code t.Less ∷ code t.AtMost ∷ code t.Greater ∷ code t.AtLeast ∷ code t.Plus ∷ code t.Minus ∷ code t.Concat ∷ code t.Star ∷ code t.Slash ∷ code t.Percent ∷ code t.Dot ∷ []

-- the kinds that begin what is nested
abbrev pub first_of : Nest → List ℕ
first_of InExpr = code t.Not ∷ first_unary
first_of InNot = code t.Not ∷ first_unary
first_of InUnary = first_unary

-- the kinds that may go on behind it
abbrev pub last_of : Nest → List ℕ
last_of InExpr = code t.Or ∷ code t.And ∷ last_not
last_of InNot = last_not
last_of InUnary = code t.Dot ∷ []

-- what deciding by one token needs to know of the tokens and of what is nested
abbrev pub sql : Kinds Nest Lexeme
sql = record { kind = kind; first = first_of; last = last_of; spare = spare }

-- ---- nesting

-- only a number, which nests nothing
abbrev pub lone_number : Sql ExprTree
lone_number = act number_leaf number

-- what is nested at most d deep; at 0 only a number
abbrev pub Deep : ℕ → Nest → List Lexeme → ExprTree → Type 0
Deep zero n = Spells kind (λ n ts x. ts ≡ []) lone_number
Deep (suc d) n = Spells kind (Deep d) (rule n)

-- reading to that depth
unfoldable pub deep : ℕ → Nest → Reader Lexeme ExprTree
deep zero n = read sql (λ n ts. Err 0) lone_number
deep (suc d) n = read sql (deep d) (rule n)

-- no list of tokens nests deeper than it is long
unfoldable pub inner : Nest → Reader Lexeme ExprTree
inner n ts = deep (suc (length ts)) n ts
