-- What a slot holds, and how a row compares to what is sought.
use Rattle.std.specs.Prelude.{ℕ, List, [], ◌∷◌, Bool, true, false, cond, Option, Some, None, slice_get}
use Rattle.std.specs.Option.{option_and_then}
use Rattle.std.specs.Ordering.{is_eq, ordering_then}
use Rattle.std.specs.declared.cmp.Ordering.{Ordering}
use Rattle.std.specs.declared.cmp.Ordering.TheVariants.{Less, Equal, Greater}
use Rattle.ss_value.specs.declared.value.Value.{Value}
use Rattle.ss_value.specs.Rows.{Row}
use Rattle.ss_value.specs.Order.{value_cmp}
use Rattle.ss_fragment.specs.declared.cell.Cell.{Cell}
use Rattle.ss_fragment.specs.declared.cell.Cell.TheVariants.{Free, Live, Dead}

-- the row of a live or a dead cell
abbrev pub row_in : Cell → Option Row
row_in (Free n) = None
row_in (Live row) = Some row
row_in (Dead row) = Some row

-- the row of a live or a dead slot
abbrev pub row_of : List Cell → ℕ → Option Row
row_of cells slot = option_and_then row_in (slice_get cells slot)

-- the row of a live cell
abbrev pub live_row : Option Cell → Option Row
live_row None = None
live_row (Some (Free n)) = None
live_row (Some (Live row)) = Some row
live_row (Some (Dead row)) = None

-- the row of a dead cell
abbrev pub dead_row : Option Cell → Option Row
dead_row None = None
dead_row (Some (Free n)) = None
dead_row (Some (Live row)) = None
dead_row (Some (Dead row)) = Some row

-- whether a cell is live
abbrev pub is_live_cell : Option Cell → Bool
is_live_cell None = false
is_live_cell (Some (Free n)) = false
is_live_cell (Some (Live row)) = true
is_live_cell (Some (Dead row)) = false

-- whether a slot is live
abbrev pub is_live : List Cell → ℕ → Bool
is_live cells slot = is_live_cell (slice_get cells slot)

-- how two values of one column compare; a missing one ties
abbrev pub at_cmp : Option Value → Option Value → Ordering
at_cmp None b = Equal
at_cmp (Some x) None = Equal
at_cmp (Some x) (Some y) = value_cmp x y

-- how two rows compare by the columns of a key
abbrev pub rows_by : List ℕ → Row → Row → Ordering
rows_by [] a b = Equal
rows_by (c ∷ cs) a b = ordering_then (at_cmp (slice_get a c) (slice_get b c)) (rows_by cs a b)

-- how a row's key, in these columns, compares to a key
abbrev pub row_by_key : List ℕ → Row → Row → Ordering
row_by_key [] row [] = Equal
row_by_key [] row (k ∷ ks) = Less
row_by_key (c ∷ cs) row [] = Greater
row_by_key (c ∷ cs) row (k ∷ ks) = ordering_then (at_cmp (slice_get row c) (Some k)) (row_by_key cs row ks)

-- how a row compares to what is sought: a key, or the key of another row
abbrev pub by_sought : Bool → List ℕ → Row → Row → Ordering
by_sought true key row sought = row_by_key key row sought
by_sought false key row sought = rows_by key row sought

-- a slot, where its row is live and has the key that is sought
abbrev pub hit_at : List ℕ → Bool → Row → ℕ → Option Cell → Option ℕ
hit_at key is_key sought slot None = None
hit_at key is_key sought slot (Some (Free n)) = None
hit_at key is_key sought slot (Some (Live row)) = cond (is_eq (by_sought is_key key row sought)) (Some slot) None
hit_at key is_key sought slot (Some (Dead row)) = None
