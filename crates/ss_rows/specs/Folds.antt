-- Aggregates without a list of what is aggregated: a state for each item, into which one tuple after another is folded.
use Rattle.std.specs.Prelude.{◌≡◌, pos, true, None, Some, List, [], ◌∷◌, ◌++◌, map, length, Option, Ok}
use Rattle.std.specs.Borrow.{Bor}
use Rattle.std.specs.List.{AllByRecursion}
use Rattle.ss_value.specs.declared.value.Value.{Value}
use Rattle.ss_value.specs.declared.value.Value.TheVariants.{Int}
use Rattle.ss_value.specs.Rows.{Row, Rows}
use Rattle.ss_sql_trees.specs.declared.typed.Expr.{Expr}
use Rattle.ss_sql_trees.specs.declared.typed.SourceId.{SourceId}
use Rattle.ss_sql_trees.specs.declared.typed.SelectItem.{SelectItem}
use Rattle.ss_sql_trees.specs.declared.typed.SelectItem.TheVariants.{Count, Sum, Min, Max}
use Rattle.ss_sql_trees.specs.declared.typed.Query.{Query}
use Rattle.ss_sql_trees.specs.WellTyped.{query_aggregated}
use Rattle.ss_model.specs.declared.extreme.Extreme.TheVariants.{Least, Greatest}
use Rattle.ss_model.specs.Extremes.{beats}
use Rattle.ss_model.specs.Results.{OrAbort, ◌>>=◌, try_map}
use Rattle.ss_model.specs.Expressions.{checked_int}
use Rattle.ss_model.specs.Queries.{extreme_value}
use Rattle.ss_rows.specs.Adding.{onto}
use Rattle.ss_rows.specs.Aggregates.{group_total, group_extreme}
use Rattle.ss_rows.specs.Counts.{row_passing}
use Rattle.ss_rows.specs.Lent.{IsLent}
use Rattle.ss_rows.specs.Meaning.{passing}
use Rattle.ss_rows.specs.declared.item_states.ItemState.{ItemState}
use Rattle.ss_rows.specs.declared.item_states.ItemState.TheVariants.{Counted, Totalled, Best}

-- ---- a state

-- the item that a state is of
abbrev pub item_of : ItemState → SelectItem
item_of (Counted count) = Count
item_of (Totalled operand total) = Sum operand.now
item_of (Best Least operand best) = Min operand.now
item_of (Best Greatest operand best) = Max operand.now

-- the best value so far, in a list; none before the first tuple
abbrev pub so_far : Option (Bor Value) → List Value
so_far None = []
so_far (Some best) = best.now ∷ []

-- what a state comes to at the end
abbrev pub outcome : ItemState → OrAbort Value
outcome (Counted count) = Ok (Int (pos count))
outcome (Totalled operand total) = checked_int total
outcome (Best extreme operand best) = extreme_value (beats extreme) (so_far best)

-- the row of a query whose items have come to these states, in a list by itself
abbrev pub folded_rows : List ItemState → OrAbort Rows
folded_rows states = try_map outcome states >>= λ row. Ok (row ∷ [])

-- a state that these tuples are folded into: it has their number, or the exact total or the extreme of its operand on them
abbrev pub HasFolded : Row → List Rows → ItemState → Type 0
HasFolded params found (Counted count) = count ≡ length found
HasFolded params found (Totalled operand total) = IsLent operand.now × (group_total params operand.now found ≡ Ok total)
HasFolded params found (Best extreme operand best) =
    IsLent operand.now × (group_extreme extreme params operand.now found ≡ extreme_value (beats extreme) (so_far best))

-- the states of these items, with these tuples folded into each
abbrev pub AreStatesOf : Row → List SelectItem → List Rows → List ItemState → Type 0
AreStatesOf params items found states = (map item_of states ≡ items) × AllByRecursion (HasFolded params found) states

-- the state of an item before the first tuple
abbrev pub IsFirst : SelectItem → ItemState → Type 0
IsFirst item state = (item_of state ≡ item) × ((params : Row) → HasFolded params [] state)

-- ---- one tuple more

-- whatever tuples the old state has folded, the new one has folded them and this one behind them
abbrev pub IsNext : Row → Rows → ItemState → ItemState → Type 0
IsNext params here old new = (item_of new ≡ item_of old) × ((found : List Rows) → HasFolded params found old → HasFolded params (found ++ here ∷ []) new)

-- the same of the states of all items
abbrev pub TupleFolded : Row → Rows → List ItemState → List ItemState → Type 0
TupleFolded params here old new =
    (items : List SelectItem) (found : List Rows) → AreStatesOf params items found old → AreStatesOf params items (found ++ here ∷ []) new

-- the same of the tuple of this row, where it passes WHERE
abbrev pub RowFolded : Row → Option Expr → Row → List ItemState → List ItemState → Type 0
RowFolded params test outer old new =
    (items : List SelectItem) (found : List Rows) → AreStatesOf params items found old →
    (all : List Rows) × (onto found (row_passing params test outer) ≡ Ok all) × AreStatesOf params items all new

-- ---- a query

-- the query has one source and one group, and these are the states of its items before the first row
pub record StartsFolding (q : Query) (states : List ItemState) : Type 0 where
  pub single : q.joined ≡ None
  pub whole : q.groups ≡ []
  pub aggregated : query_aggregated q ≡ true
  pub first : (params : Row) → AreStatesOf params q.items [] states

-- the states of its items, with the tuples that pass WHERE folded into each
abbrev pub HasFoldedPassing : (SourceId → Rows) → Row → Query → List ItemState → Type 0
HasFoldedPassing rows params q states = (found : List Rows) × (passing rows params q ≡ Ok found) × AreStatesOf params q.items found states
