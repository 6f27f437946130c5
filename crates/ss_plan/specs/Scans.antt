-- What a walk over the rows of a source finds.
use Rattle.std.specs.Prelude.{◌≡◌, ℕ, Bool, List, [], ◌∷◌, ◌++◌, map, cond, Option, Some, Ok}
use Rattle.ss_value.specs.declared.value.Value.{Value}
use Rattle.ss_value.specs.Rows.{Row}
use Rattle.ss_sql_trees.specs.declared.typed.Expr.{Expr}
use Rattle.ss_sql_trees.specs.declared.typed.SourceId.{SourceId}
use Rattle.ss_model.specs.declared.catalog.Catalog.{Catalog}
use Rattle.ss_model.specs.Results.{OrAbort, try_filter}
use Rattle.ss_model.specs.Queries.{where_passes}
use Rattle.ss_table.specs.TableValue.{LiveRows}
use Rattle.ss_rows.specs.Sources.{Positioned, first_position, StandsAt}
use Rattle.ss_plan.specs.Seen.{live_positions, seen_of, positioned_by, value_behind}
use Rattle.ss_plan.specs.Plans.{seen_in}
use Rattle.ss_plan.specs.declared.passing.PassingSlots.{PassingSlots}
use Rattle.ss_plan.specs.declared.passing.PassingSlots.TheVariants.{Nothing, One, Many}
use Rattle.ss_plan.specs.declared.visible_rows.RowsAt.{RowsAt}
use Rattle.ss_plan.specs.declared.visible_rows.ShardRows.{ShardRows}

-- the rows that pass WHERE, with their positions
abbrev pub positioned_matching : Row → Option Expr → Positioned → OrAbort Positioned
positioned_matching params test positioned = try_filter (λ p. where_passes params test (p.1 ∷ [])) positioned

-- these are the positions of the rows that pass WHERE
abbrev pub FindsPositions : Row → Option Expr → Positioned → List ℕ → Type 0
FindsPositions params test positioned positions = (found : Positioned) × (positioned_matching params test positioned ≡ Ok found) × (positions ≡ map (λ p. p.0) found)

-- the slots of rows that pass
abbrev pub slots_passing : PassingSlots → List ℕ
slots_passing Nothing = []
slots_passing (One slot) = slot ∷ []
slots_passing (Many slots) = slots.items

-- the position of a row was put behind others, if the row passes WHERE
abbrev pub NotesPosition : Row → Option Expr → Row → ℕ → List ℕ → List ℕ → Type 0
NotesPosition params test row position old new = (b : Bool) × (where_passes params test (row ∷ []) ≡ Ok b) × (new ≡ old ++ cond b (position ∷ []) [])

-- this is the position of the row behind the one at a position
abbrev pub ComesNext : Positioned → ℕ → Option ℕ → Type 0
ComesNext positioned at next = (row : Row) (behind : Positioned) → StandsAt positioned at row behind → next ≡ first_position behind

-- this is the row at a position
abbrev pub GivesRow : Positioned → ℕ → Option Row → Type 0
GivesRow positioned at found = (row : Row) (behind : Positioned) → StandsAt positioned at row behind → found ≡ Some row

-- from a live row on, this is the position of the first row that is seen
abbrev pub FindsSeen : Catalog → Option Value → ℕ → LiveRows → Option ℕ → Option ℕ → Type 0
FindsSeen catalog split t live from at = (before behind : Positioned) → live_positions live ≡ before ++ behind → from ≡ first_position behind → at ≡ first_position (seen_of catalog split t behind)

-- this is where the rows of a source stand
abbrev pub IsAt : ShardRows → SourceId → RowsAt → Type 0
IsAt from source found = seen_in from source ≡ positioned_by from.catalog.now (value_behind from.split) found
