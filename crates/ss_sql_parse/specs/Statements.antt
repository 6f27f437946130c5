-- The grammar of SQL's queries, statements and conditions.
use Rattle.std.specs.Prelude.{ℕ, List, [], ◌∷◌, map, Bool, true, false, Option, Some, None}
use Rattle.std.proofs.Common.{◌⊎◌, inl, inr}
use Rattle.ss_sql_lex.specs.declared.tree.NameTree.{NameTree}
use Rattle.ss_sql_lex.specs.declared.tree.NumberTree.{NumberTree}
use Rattle.ss_sql_lex.specs.declared.tree.ColumnTree.{ColumnTree}
use Rattle.ss_sql_lex.specs.declared.tree.ExprTree.{ExprTree}
use Rattle.ss_sql_lex.specs.declared.tree.ItemTree.{ItemTree}
use Rattle.ss_sql_lex.specs.declared.tree.ItemTree.TheVariants as item
use Rattle.ss_sql_lex.specs.declared.tree.JoinTree.{JoinTree}
use Rattle.ss_sql_lex.specs.declared.tree.OrderTree.{OrderTree}
use Rattle.ss_sql_lex.specs.declared.tree.SetTree.{SetTree}
use Rattle.ss_sql_lex.specs.declared.tree.QueryTree.{QueryTree}
use Rattle.ss_sql_lex.specs.declared.tree.StatementTree.{StatementTree}
use Rattle.ss_sql_lex.specs.declared.tree.StatementTree.TheVariants as s
use Rattle.ss_sql_lex.specs.declared.tree.ConditionTree.{ConditionTree}
use Rattle.ss_sql_trees.specs.declared.typed.Cmp.{Cmp}
use Rattle.ss_sql_parse.specs.declared.lexeme.Lexeme.{Lexeme}
use Rattle.ss_sql_parse.specs.declared.lexeme.Terminal.TheVariants as t
use Rattle.ss_sql_grammar.specs.Grammar.{act, both, or, maybe, some}
use Rattle.ss_sql_parse.specs.Sql.{Sql, token, sign, after, name, number, column, expr, sum, cmp}

-- ---- lists and brackets

-- the first, and those behind commas
abbrev pub items_of : {A : Type 0} → A × List (Lexeme × A) → List A
items_of x = x.0 ∷ map (λ y. y.1) x.1

-- g {"," g}
abbrev pub list : {A : Type 0} → Sql A → Sql (List A)
list g = act items_of (some g (both (token t.Comma) g))

-- "(" g ")"
abbrev pub in_brackets : {A : Type 0} → Sql A → Sql A
in_brackets g = act (λ x. x.1.0) (both (token t.Open) (both g (token t.Close)))

-- a list that may be left out
abbrev pub or_none : {A : Type 0} → Option (List A) → List A
or_none None = []
or_none (Some xs) = xs

-- ---- queries

-- COUNT "(" "*" ")"
abbrev pub count_item : Sql ItemTree
count_item = act (λ x. item.Count x.0.from) (both (token t.Count) (in_brackets (token t.Star)))

-- item = COUNT "(" "*" ")" | SUM "(" expr ")" | MIN "(" expr ")" | MAX "(" expr ")" | expr
abbrev pub item_rule : Sql ItemTree
item_rule = or count_item
    (or (act (λ x. item.Sum x.0.from x.1) (both (token t.Sum) (in_brackets expr)))
    (or (act (λ x. item.Min x.0.from x.1) (both (token t.Min) (in_brackets expr)))
    (or (act (λ x. item.Max x.0.from x.1) (both (token t.Max) (in_brackets expr)))
    (act item.Plain expr))))

-- SELECT item {"," item} FROM name
abbrev pub select : Sql (Lexeme × (List ItemTree × (Lexeme × NameTree)))
select = both (token t.Select) (both (list item_rule) (both (token t.From) name))

-- a query with nothing behind its FROM
abbrev pub plain_tree : Lexeme × (List ItemTree × (Lexeme × NameTree)) → QueryTree
plain_tree x = record { at = x.0.from; items = x.1.0; from = x.1.1.1; joined = None; test = None; groups = []; order = []; limit = None }

-- plain = SELECT item {"," item} FROM name
abbrev pub plain : Sql QueryTree
plain = act plain_tree select

-- the joined source and the two columns
abbrev pub join_tree : Lexeme × (NameTree × (Lexeme × (ColumnTree × (Lexeme × ColumnTree)))) → JoinTree
join_tree x = record { name = x.1.0; left = x.1.1.1.0; right = x.1.1.1.1.1 }

-- JOIN name ON column "=" column
abbrev pub join : Sql JoinTree
join = act join_tree (both (token t.Join) (both name (both (token t.On) (both column (both (token t.Equal) column)))))

-- WHERE expr
abbrev pub where_rule : Sql ExprTree
where_rule = after t.Where expr

-- GROUP BY column {"," column}
abbrev pub groups : Sql (List ColumnTree)
groups = after t.Group (after t.By (list column))

-- descending where DESC stands behind it
abbrev pub order_tree : NumberTree × Option Bool → OrderTree
order_tree (number, None) = record { number = number; descending = false }
order_tree (number, Some descending) = record { number = number; descending = descending }

-- number [ASC|DESC]
abbrev pub order_item : Sql OrderTree
order_item = act order_tree (maybe number (or (sign t.Asc false) (sign t.Desc true)))

-- ORDER BY number [ASC|DESC] {"," number [ASC|DESC]}
abbrev pub orders : Sql (List OrderTree)
orders = after t.Order (after t.By (list order_item))

-- LIMIT number
abbrev pub limit : Sql NumberTree
limit = after t.Limit number

-- a query with what is optional behind its FROM
abbrev pub query_tree : ((((QueryTree × Option JoinTree) × Option ExprTree) × Option (List ColumnTree)) × Option (List OrderTree)) × Option NumberTree → QueryTree
query_tree x = record x.0.0.0.0.0 { joined = x.0.0.0.0.1; test = x.0.0.0.1; groups = or_none x.0.0.1; order = or_none x.0.1; limit = x.1 }

-- query = plain [JOIN ..] [WHERE ..] [GROUP BY ..] [ORDER BY ..] [LIMIT ..]
abbrev pub query : Sql QueryTree
query = act query_tree (maybe (maybe (maybe (maybe (maybe plain join) where_rule) groups) orders) limit)

-- ---- statements

-- what an INSERT puts into its target
abbrev pub inserted_rows : ℕ → NameTree → List ExprTree ⊎ QueryTree → StatementTree
inserted_rows at target (inl values) = s.InsertValues at target values
inserted_rows at target (inr query) = s.InsertQuery at target query

-- an INSERT with its target and what goes into it
abbrev pub insert_tree : Lexeme × (Lexeme × (NameTree × (List ExprTree ⊎ QueryTree))) → StatementTree
insert_tree x = inserted_rows x.0.from x.1.1.0 x.1.1.1

-- INSERT INTO name VALUES "(" expr {"," expr} ")" | INSERT INTO name query; both share their front, since one token has to decide
abbrev pub insert : Sql StatementTree
insert = act insert_tree (both (token t.Insert) (both (token t.Into) (both name
    (or (act inl (after t.Values (in_brackets (list expr)))) (act inr query)))))

-- name "=" expr
abbrev pub set_rule : Sql SetTree
set_rule = act (λ x. record { column = x.0; value = x.1.1 }) (both name (both (token t.Equal) expr))

-- UPDATE name SET name "=" expr {"," name "=" expr} [WHERE expr]
abbrev pub update : Sql StatementTree
update = act (λ x. s.Update x.0.0.from x.0.1.0 x.0.1.1.1 x.1) (maybe (both (token t.Update) (both name (both (token t.Set) (list set_rule)))) where_rule)

-- DELETE FROM name [WHERE expr]
abbrev pub delete : Sql StatementTree
delete = act (λ x. s.Delete x.0.0.from x.0.1.1 x.1) (maybe (both (token t.Delete) (both (token t.From) name)) where_rule)

-- statement = INSERT .. | UPDATE .. | DELETE ..
abbrev pub statement : Sql StatementTree
statement = or insert (or update delete)

-- ---- conditions

-- the query, the comparison and the right side
abbrev pub condition_tree : Lexeme × (QueryTree × (Lexeme × (Cmp × ExprTree))) → ConditionTree
condition_tree x = record { at = x.0.from; query = x.1.0; cmp = x.1.1.1.0; right = x.1.1.1.1 }

-- condition = "(" query ")" cmp sum
abbrev pub condition : Sql ConditionTree
condition = act condition_tree (both (token t.Open) (both query (both (token t.Close) (both cmp sum))))
