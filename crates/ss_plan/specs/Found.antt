-- Rows that a search found, and how they are put in order.
use Rattle.std.specs.Prelude.{◌≡◌, ℕ, Bool, true, cond, List, [], ◌∷◌, map, Option, Some, None, Contains}
use Rattle.std.specs.Borrow.{Bor}
use Rattle.std.specs.List.{filter_map, enumerate_from}
use Rattle.std.specs.Option.{option_and_then}
use Rattle.std.specs.FinMap.Entries as entries
use Rattle.ss_value.specs.Rows.{Row, column_values}
use Rattle.ss_value.specs.Order.{row_cmp}
use Rattle.ss_table.specs.TableValue.{LiveRows, row_at}
use Rattle.ss_rows.specs.Sources.{Positioned, rows_in}
use Rattle.ss_plan.specs.Chosen.{Chosen}
use Rattle.ss_plan.specs.Keys.{is_there, lent_row}
use Rattle.ss_plan.specs.declared.found.FoundRows.{FoundRows}
use Rattle.ss_plan.specs.declared.found.FoundRows.TheVariants.{Nothing, One, Many}

-- rows that are lent, with their slots
abbrev pub lent_rows : List (ℕ × Bor Row) → Positioned
lent_rows rows = map lent_row rows

-- the rows that were found, as they are lent
abbrev pub pairs_found : FoundRows → List (ℕ × Bor Row)
pairs_found Nothing = []
pairs_found (One pair) = pair ∷ []
pairs_found (Many pairs) = pairs

-- the rows that were found
abbrev pub rows_found : FoundRows → Positioned
rows_found found = lent_rows (pairs_found found)

-- the same rows, each with its number in the list in place of its slot
abbrev pub at_positions : FoundRows → Positioned
at_positions found = enumerate_from 0 (rows_in (rows_found found))

-- the row in a slot, where it is live and seen
abbrev pub row_seen : (Row → Bool) → LiveRows → ℕ → Option (ℕ × Row)
row_seen seen live slot = option_and_then (λ row. cond (seen row) (Some (slot, row)) None) (row_at live slot)

-- the rows in some slots that are live and seen
abbrev pub rows_seen_in : (Row → Bool) → LiveRows → List ℕ → Positioned
rows_seen_in seen live slots = filter_map (row_seen seen live) slots

-- rows with their keys in front
abbrev pub with_keys : List ℕ → Positioned → List Chosen
with_keys key rows = map (λ p. (column_values key p.1, p)) rows

-- `ordered` has one of these rows for each key, in the order of the keys
pub record IsInKeyOrder (key : List ℕ) (rows ordered : Positioned) : Type 0 where
  pub rises : entries.is_sorted row_cmp (with_keys key ordered) ≡ true
  pub among : (p : ℕ × Row) → Contains ordered p → Contains rows p
  pub each : (p : ℕ × Row) → Contains rows p → is_there (entries.find row_cmp (column_values key p.1) (with_keys key ordered)) ≡ true
