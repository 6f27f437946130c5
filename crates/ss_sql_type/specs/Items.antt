-- Items of SELECT, values of INSERT, and the columns and numbers of a query.
use Rattle.std.specs.Prelude.{ℕ, ◌&&◌, nat_le, min, Bool, true, false, List, [], ◌∷◌, ◌++◌, Option, Some, None, ℤ, pos, negsuc}
use Rattle.std.specs.List.{flat_map, filter_map}
use Rattle.ss_value.specs.declared.schema.Column.{Column}
use Rattle.ss_sql_lex.specs.declared.tree.ColumnTree.{ColumnTree}
use Rattle.ss_sql_lex.specs.declared.tree.ExprTree.{ExprTree}
use Rattle.ss_sql_lex.specs.declared.tree.ItemTree.{ItemTree}
use Rattle.ss_sql_lex.specs.declared.tree.ItemTree.TheVariants as tree
use Rattle.ss_sql_lex.specs.declared.tree.OrderTree.{OrderTree}
use Rattle.ss_sql_trees.specs.declared.typed.ColAt.{ColAt}
use Rattle.ss_sql_trees.specs.declared.typed.Expr.{Expr}
use Rattle.ss_sql_trees.specs.declared.typed.SelectItem.{SelectItem}
use Rattle.ss_sql_trees.specs.declared.typed.SelectItem.TheVariants.{Count, Sum, Min, Max, Plain}
use Rattle.ss_sql_trees.specs.declared.typed.OrderBy.{OrderBy}
use Rattle.ss_sql_lex.specs.Trees.{offset_of}
use Rattle.ss_sql_type.specs.declared.scope.TypeError.{TypeError}
use Rattle.ss_sql_type.specs.declared.scope.TypeError.TheVariants.{WrongType, WrongCount}
use Rattle.ss_sql_type.specs.declared.kinds.Needs.{Needs}
use Rattle.ss_sql_type.specs.declared.kinds.Needs.TheVariants.{Value, Only}
use Rattle.ss_sql_type.specs.declared.kinds.ValueKind.{ValueKind}
use Rattle.ss_sql_type.specs.declared.kinds.ValueKind.TheVariants.{Int, Bool as Truth}
use Rattle.ss_sql_type.specs.Refusals.{fault_unless}
use Rattle.ss_sql_type.specs.Kinds.{fits, first_needs, others, value_kind}
use Rattle.ss_sql_type.specs.Names.{Reach, resolve, column_meant, name_faults}
use Rattle.ss_sql_type.specs.Expressions.{typed_expr, expr_faults}

-- ---- items

-- the offset of an item's first token
abbrev pub item_offset : ItemTree → ℕ
item_offset (tree.Count at) = at
item_offset (tree.Sum at side) = at
item_offset (tree.Min at side) = at
item_offset (tree.Max at side) = at
item_offset (tree.Plain e) = offset_of e

-- the type that an item gives
abbrev pub item_kind : Reach → ItemTree → Option ValueKind
item_kind reach (tree.Count at) = Some Int
item_kind reach (tree.Sum at side) = Some Int
item_kind reach (tree.Min at side) = value_kind (typed_expr reach None side).kind
item_kind reach (tree.Max at side) = value_kind (typed_expr reach None side).kind
item_kind reach (tree.Plain e) = (typed_expr reach None e).kind

-- the typed tree of an item
abbrev pub typed_item : Reach → Option (List ColAt) → ItemTree → SelectItem
typed_item reach grouped (tree.Count at) = Count
typed_item reach grouped (tree.Sum at side) = Sum (typed_expr reach None side).expr
typed_item reach grouped (tree.Min at side) = Min (typed_expr reach None side).expr
typed_item reach grouped (tree.Max at side) = Max (typed_expr reach None side).expr
typed_item reach grouped (tree.Plain e) = Plain (typed_expr reach grouped e).expr

-- an aggregate gives what the context of the item needs; else the fault is at its keyword
abbrev pub given_faults : Needs → Option ValueKind → ℕ → List TypeError
given_faults needs kind at = fault_unless (fits needs kind) (WrongType at)

-- SUM needs an Int, MIN and MAX an Int or a Text; the item has to be what its context needs
abbrev pub item_faults : Reach → Option (List ColAt) → Needs → ItemTree → List TypeError
item_faults reach grouped needs (tree.Count at) = given_faults needs (Some Int) at
item_faults reach grouped needs (tree.Sum at side) = expr_faults reach None (Only Int) side ++ given_faults needs (Some Int) at
item_faults reach grouped needs (tree.Min at side) = expr_faults reach None Value side ++ given_faults needs (value_kind (typed_expr reach None side).kind) at
item_faults reach grouped needs (tree.Max at side) = expr_faults reach None Value side ++ given_faults needs (value_kind (typed_expr reach None side).kind) at
item_faults reach grouped needs (tree.Plain e) = expr_faults reach grouped needs e

-- the faults of items, each of which goes into the next column, where there is one
abbrev pub items_faults : Reach → Option (List ColAt) → List Column → List ItemTree → List TypeError
items_faults reach grouped columns [] = []
items_faults reach grouped columns (item ∷ items) = item_faults reach grouped (first_needs columns) item ++ items_faults reach grouped (others columns) items

-- a 17th item is one too many
abbrev pub item_limit_faults : Option ItemTree → List TypeError
item_limit_faults None = []
item_limit_faults (Some item) = WrongCount (item_offset item) ∷ []

-- whether an item is COUNT, SUM, MIN or MAX
abbrev pub is_aggregate : ItemTree → Bool
is_aggregate (tree.Plain e) = false
is_aggregate item = true

-- ---- values

-- the typed tree of a value
abbrev pub typed_value : Reach → ExprTree → Expr
typed_value reach e = (typed_expr reach None e).expr

-- the faults of values, each of which goes into the next column, where there is one
abbrev pub values_faults : Reach → List Column → List ExprTree → List TypeError
values_faults reach columns [] = []
values_faults reach columns (e ∷ es) = expr_faults reach None (first_needs columns) e ++ values_faults reach (others columns) es

-- a condition behind WHERE has the type Bool
abbrev pub test_faults : Reach → Option ExprTree → List TypeError
test_faults reach None = []
test_faults reach (Some e) = expr_faults reach None (Only Truth) e

-- ---- GROUP BY, ORDER BY and LIMIT

-- the grouped columns that are known
abbrev pub typed_groups : Reach → List ColumnTree → List ColAt
typed_groups reach = filter_map (λ (c : ColumnTree). column_meant (resolve reach c))

-- the faults in the names of grouped columns
abbrev pub groups_faults : Reach → List ColumnTree → List TypeError
groups_faults reach = flat_map (λ (c : ColumnTree). name_faults (resolve reach c))

-- a number, and 0 where it is less than 0
abbrev pub nat_of : ℤ → ℕ
nat_of (pos n) = n
nat_of (negsuc n) = 0

-- ORDER BY with its number in one byte
abbrev pub typed_order : OrderTree → OrderBy
typed_order o = record { item = min (nat_of o.number.value) 255; descending = o.descending }

-- a number behind ORDER BY is that of an item, counted from 1
abbrev pub order_faults : ℕ → OrderTree → List TypeError
order_faults count o = fault_unless (nat_le 1 (nat_of o.number.value) && nat_le (nat_of o.number.value) count) (WrongCount o.number.at)
