-- Items whose value stands somewhere already: literals, parameters and columns.
use Rattle.std.specs.Prelude.{◌≡◌, ℕ, false, List, [], map, get_or, pos, Some, Ok}
use Rattle.ss_value.specs.declared.value.Value.{Value}
use Rattle.ss_value.specs.declared.value.Value.TheVariants.{Int}
use Rattle.ss_value.specs.Rows.{Row, Rows, column_value}
use Rattle.ss_sql_trees.specs.declared.typed.Expr.{Expr}
use Rattle.ss_sql_trees.specs.declared.typed.Expr.TheVariants.{Lit, Param, Col}
use Rattle.ss_sql_trees.specs.declared.typed.SelectItem.{SelectItem}
use Rattle.ss_sql_trees.specs.declared.typed.SelectItem.TheVariants.{Plain}
use Rattle.ss_sql_trees.specs.declared.typed.OrderBy.{OrderBy}
use Rattle.ss_sql_trees.specs.declared.typed.Query.{Query}
use Rattle.ss_sql_trees.specs.WellTyped.{query_aggregated}
use Rattle.ss_model.specs.Results.{try_map}
use Rattle.ss_model.specs.Expressions.{expr_value}
use Rattle.ss_model.specs.Queries.{item_value, order_by_cmp, sort_rows}
use Rattle.ss_rows.specs.declared.tuple.Tuple.{Tuple}
use Rattle.ss_rows.specs.Tuples.{tuple_of}

-- the value of a literal, a parameter or a column; 0 for what is made by an operator
abbrev pub lent_value : Row → Rows → Expr → Value
lent_value params here (Lit v) = v
lent_value params here (Param n) = column_value params n
lent_value params here (Col source column) = column_value (get_or here source []) column
lent_value params here tree = Int (pos 0)

-- the value of an item that is one of these; 0 for an aggregate
abbrev pub lent_item : Row → Rows → SelectItem → Value
lent_item params here (Plain tree) = lent_value params here tree
lent_item params here item = Int (pos 0)

-- the row of such items on a tuple
abbrev pub lent_row : Row → List SelectItem → Tuple → Row
lent_row params items here = map (lent_item params (tuple_of here)) items

-- the row of each of these tuples
abbrev pub lent_rows : Row → List SelectItem → List Tuple → Rows
lent_rows params items found = map (lent_row params items) found

-- these are the tuples found, sorted by the listed items: their rows are the sorted rows
abbrev pub AreSorted : List OrderBy → Row → List SelectItem → List Tuple → List Tuple → Type 0
AreSorted order params items found sorted = lent_rows params items sorted ≡ sort_rows (order_by_cmp order) (lent_rows params items found)

-- an expression has that value, whatever the rows and the parameters are
abbrev pub IsLent : Expr → Type 0
IsLent tree = (here : Rows) (params : Row) → expr_value here params tree ≡ Ok (lent_value params here tree)

-- an item has that value for each group
abbrev pub IsLentItem : SelectItem → Type 0
IsLentItem item = (params : Row) (group : List Rows) → item_value params group item ≡ Ok (lent_item params (get_or group 0 []) item)

-- each of these items has that value for each group
abbrev pub AreLent : List SelectItem → Type 0
AreLent items = (params : Row) (group : List Rows) → try_map (item_value params group) items ≡ Ok (map (lent_item params (get_or group 0 [])) items)

-- the tuples of the query can be sorted before their rows are made: each tuple gives a row, and no item can abort
pub record SortsTuples (q : Query) : Type 0 where
  pub plain : query_aggregated q ≡ false
  pub items : AreLent q.items

-- and cut: LIMIT lets so many through
abbrev pub CutsTuples : Query → ℕ → Type 0
CutsTuples q count = (q.limit ≡ Some count) × SortsTuples q
