-- Which typed trees are well typed, where the columns of sources, targets and parameters are given.
use Rattle.std.specs.Prelude.{ℕ, ◌==◌, ◌&&◌, ◌||◌, Bool, true, false, cond, not, nat_le, List, [], ◌∷◌, ◌++◌, map, length, get_or, slice_get, Option, Some, None}
use Rattle.std.specs.Option.{option_map}
use Rattle.std.specs.List.{list_all, list_any}
use Rattle.ss_value.specs.declared.value.Value.{Value}
use Rattle.ss_value.specs.declared.value.Value.TheVariants.{Int, Text}
use Rattle.ss_value.specs.declared.schema.ColType.{ColType}
use Rattle.ss_value.specs.declared.schema.ColType.TheVariants.{Int as IntColumn, Text as TextColumn}
use Rattle.ss_value.specs.declared.schema.Column.{Column}
use Rattle.ss_sql_trees.specs.declared.typed.UnaryOp.TheVariants.{Not, Negate}
use Rattle.ss_sql_trees.specs.declared.typed.BinaryOp.TheVariants.{Or, And, Compare, Concat}
use Rattle.ss_sql_trees.specs.declared.typed.Expr.{Expr}
use Rattle.ss_sql_trees.specs.declared.typed.Expr.TheFolds.{fold-Expr}
use Rattle.ss_sql_trees.specs.declared.typed.Expr.TheOpen.{Expr-F}
use Rattle.ss_sql_trees.specs.declared.typed.SourceId.{SourceId}
use Rattle.ss_sql_trees.specs.declared.typed.ColAt.{ColAt}
use Rattle.ss_sql_trees.specs.declared.typed.SelectItem.{SelectItem}
use Rattle.ss_sql_trees.specs.declared.typed.SelectItem.TheVariants.{Count, Sum, Min, Max, Plain}
use Rattle.ss_sql_trees.specs.declared.typed.Joined.{Joined}
use Rattle.ss_sql_trees.specs.declared.typed.OrderBy.{OrderBy}
use Rattle.ss_sql_trees.specs.declared.typed.Query.{Query}
use Rattle.ss_sql_trees.specs.declared.typed.Condition.{Condition}
use Rattle.ss_sql_trees.specs.declared.typed.SetTo.{SetTo}
use Rattle.ss_sql_trees.specs.declared.typed.Target.{Target}
use Rattle.ss_sql_trees.specs.declared.typed.Target.TheVariants.{Table as IntoTable}
use Rattle.ss_sql_trees.specs.declared.typed.Statement.{Statement}
use Rattle.ss_sql_trees.specs.declared.typed.Statement.TheVariants.{InsertValues, InsertQuery, Update, Delete}

-- the types of expressions
pub data ExprType : Type 0 where
  IntType : ExprType
  TextType : ExprType
  BoolType : ExprType

-- whether an expression has this type
abbrev pub is_type : ExprType → Option ExprType → Bool
is_type IntType (Some IntType) = true
is_type TextType (Some TextType) = true
is_type BoolType (Some BoolType) = true
is_type _ _ = false

-- whether an expression is an Int or a Text, as items and right sides are
abbrev pub is_value_type : Option ExprType → Bool
is_value_type t = is_type IntType t || is_type TextType t

-- whether two expressions are two Ints or two Texts
abbrev pub are_comparable : Option ExprType → Option ExprType → Bool
are_comparable s t = (is_type IntType s && is_type IntType t) || (is_type TextType s && is_type TextType t)

-- the type of a literal
abbrev pub value_type : Value → ExprType
value_type (Int n) = IntType
value_type (Text s) = TextType

-- the type of a column's values
abbrev pub column_type : ColType → ExprType
column_type IntColumn = IntType
column_type TextColumn = TextType

-- the type of a column, where it is there
abbrev pub schema_type : List Column → ℕ → Option ExprType
schema_type columns c = option_map (λ (d : Column). column_type d.kind) (slice_get columns c)

-- ---- expressions

-- this type where the sides are right, and none where they are not
abbrev pub typed_when : Bool → ExprType → Option ExprType
typed_when right t = cond right (Some t) None

-- the type of a node, by those of its sides: `sources` are the columns of each source
abbrev pub level_type : List (List Column) → List Column → Expr-F (Option ExprType) → Option ExprType
level_type sources params (Expr-F.Lit v) = Some (value_type v)
level_type sources params (Expr-F.Param n) = schema_type params n
level_type sources params (Expr-F.Col source column) = schema_type (get_or sources source []) column
level_type sources params (Expr-F.Unary Not side) = typed_when (is_type BoolType side) BoolType
level_type sources params (Expr-F.Unary Negate side) = typed_when (is_type IntType side) IntType
level_type sources params (Expr-F.Binary Or left right) = typed_when (is_type BoolType left && is_type BoolType right) BoolType
level_type sources params (Expr-F.Binary And left right) = typed_when (is_type BoolType left && is_type BoolType right) BoolType
level_type sources params (Expr-F.Binary (Compare c) left right) = typed_when (are_comparable left right) BoolType
level_type sources params (Expr-F.Binary Concat left right) = typed_when (is_type TextType left && is_type TextType right) TextType
level_type sources params (Expr-F.Binary _ left right) = typed_when (is_type IntType left && is_type IntType right) IntType

-- the type of an expression, and none where it has a fault
abbrev pub expr_type : List (List Column) → List Column → Expr → Option ExprType
expr_type sources params = fold-Expr (Option ExprType) (level_type sources params)

-- whether the expression behind WHERE is a Bool, if there is one
abbrev pub test_typed : List (List Column) → List Column → Option Expr → Bool
test_typed sources params None = true
test_typed sources params (Some e) = is_type BoolType (expr_type sources params e)

-- ---- items

-- the type that an item gives
abbrev pub item_type : List (List Column) → List Column → SelectItem → Option ExprType
item_type sources params Count = Some IntType
item_type sources params (Sum e) = typed_when (is_type IntType (expr_type sources params e)) IntType
item_type sources params (Min e) = expr_type sources params e
item_type sources params (Max e) = expr_type sources params e
item_type sources params (Plain e) = expr_type sources params e

-- whether an item is COUNT, SUM, MIN or MAX
abbrev pub is_aggregate : SelectItem → Bool
is_aggregate (Plain e) = false
is_aggregate _ = true

-- whether a query has an aggregate item or GROUP BY
abbrev pub query_aggregated : Query → Bool
query_aggregated q = list_any is_aggregate q.items || nat_le 1 (length q.groups)

-- whether this is the column at this position of this source
abbrev pub is_column : ColAt → ℕ → ℕ → Bool
is_column g source column = (g.source == source) && (g.column == column)

-- whether every column of a node is grouped, by whether those of its sides are
abbrev pub level_grouped : List ColAt → Expr-F Bool → Bool
level_grouped groups (Expr-F.Col source column) = list_any (λ g. is_column g source column) groups
level_grouped groups (Expr-F.Unary op side) = side
level_grouped groups (Expr-F.Binary op left right) = left && right
level_grouped groups _ = true

-- whether an item is an aggregate, or all its columns are grouped
abbrev pub item_grouped : List ColAt → SelectItem → Bool
item_grouped groups (Plain e) = fold-Expr Bool (level_grouped groups) e
item_grouped groups _ = true

-- whether there are as many types as columns, each that of its column
abbrev pub types_fit : List (Option ExprType) → List Column → Bool
types_fit [] [] = true
types_fit (t ∷ ts) (c ∷ cs) = is_type (column_type c.kind) t && types_fit ts cs
types_fit _ _ = false

-- ---- what is given

-- the columns of each source and target, the key columns of each table, and the parameters
pub record Schemas : Type 0 where
  pub sources : SourceId → List Column
  pub targets : Target → List Column
  pub keys : ℕ → List ℕ
  pub params : List Column

-- the columns of FROM, then those of JOIN
abbrev pub query_sources : Schemas → SourceId → Option Joined → List (List Column)
query_sources s from None = s.sources from ∷ []
query_sources s from (Some j) = s.sources from ∷ s.sources j.source ∷ []

-- the type of a column of a source
abbrev pub column_at : List (List Column) → ColAt → Option ExprType
column_at sources c = schema_type (get_or sources c.source []) c.column

-- whether JOIN compares two Ints or two Texts, if there is one
abbrev pub join_typed : List (List Column) → Option Joined → Bool
join_typed sources None = true
join_typed sources (Some j) = are_comparable (column_at sources j.left) (column_at sources j.right)

-- the types of a query's items
abbrev pub query_types : Schemas → Query → List (Option ExprType)
query_types s q = map (item_type (query_sources s q.from q.joined) s.params) q.items

-- whether a number behind ORDER BY is that of an item, counted from 1
abbrev pub order_typed : ℕ → OrderBy → Bool
order_typed count o = nat_le 1 o.item && nat_le o.item count

-- whether a query is well typed: its parts are, the items of an aggregated query are grouped, ORDER BY names items, and there are 16 at most
abbrev pub query_typed : Schemas → Query → Bool
query_typed s q =
    let sources = query_sources s q.from q.joined in
    join_typed sources q.joined
    && test_typed sources s.params q.test
    && list_all is_value_type (query_types s q)
    && list_all (λ c. is_value_type (column_at sources c)) q.groups
    && (not (query_aggregated q) || list_all (item_grouped q.groups) q.items)
    && list_all (order_typed (length q.items)) q.order
    && nat_le (length q.items) 16

-- whether a condition is well typed: its query is, and has one item, which the right side can be compared with
abbrev pub condition_typed : Schemas → Condition → Bool
condition_typed s c =
    query_typed s c.query
    && (length c.query.items == 1)
    && are_comparable (get_or (query_types s c.query) 0 None) (expr_type [] s.params c.right)

-- ---- statements

-- whether there is a column's type, and an expression has it
abbrev pub has_type : Option ExprType → Option ExprType → Bool
has_type None t = false
has_type (Some wanted) t = is_type wanted t

-- whether the column is one of these
abbrev pub is_among : List ℕ → ℕ → Bool
is_among columns column = list_any (λ c. c == column) columns

-- whether each SET gives a column a value of its type, which is no key column and is set once: `earlier` are the columns set before
abbrev pub sets_typed : Schemas → List Column → List ℕ → List ℕ → List SetTo → Bool
sets_typed s columns key earlier [] = true
sets_typed s columns key earlier (set ∷ sets) =
    has_type (schema_type columns set.column) (expr_type (columns ∷ []) s.params set.value)
    && not (is_among key set.column)
    && not (is_among earlier set.column)
    && sets_typed s columns key (earlier ++ set.column ∷ []) sets

-- whether a statement is well typed: values fit the target's columns, SETs those of the table, and WHERE is Bool
abbrev pub statement_typed : Schemas → Statement → Bool
statement_typed s (InsertValues target values) = types_fit (map (expr_type [] s.params) values) (s.targets target)
statement_typed s (InsertQuery target q) = query_typed s q && types_fit (query_types s q) (s.targets target)
statement_typed s (Update table sets test) =
    let columns = s.targets (IntoTable table) in
    sets_typed s columns (s.keys table) [] sets && test_typed (columns ∷ []) s.params test
statement_typed s (Delete table test) = test_typed (s.targets (IntoTable table) ∷ []) s.params test
