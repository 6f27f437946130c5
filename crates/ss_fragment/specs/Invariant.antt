-- What contracts see of a fragment's cells and order, and what holds of these.
use Rattle.std.specs.Prelude.{◌≡◌, ℕ, ◌+◌, ◌≤◌, ◌^◌, List, [], ◌∷◌, ◌++◌, length, map, Option, Some, None, slice_get, ◌⊎◌}
use Rattle.std.specs.List.{filter_map, AllByRecursion}
use Rattle.std.specs.Option.{option_map_or}
use Rattle.std.specs.Ordering.{nat_cmp, ordering_then}
use Rattle.std.specs.declared.cmp.Ordering.{Ordering}
use Rattle.std.specs.declared.cmp.Ordering.TheVariants.{Less}
use Rattle.std.specs.FinMap as finite
use Rattle.ss_value.specs.Rows.{Row}
use Rattle.ss_value.specs.Order.{row_cmp}
use Rattle.ss_fragment.specs.declared.cell.Cell.{Cell}
use Rattle.ss_fragment.specs.declared.cell.Cell.TheVariants.{Free, Live, Dead}
use Rattle.ss_fragment.specs.declared.mark.PrefixedSlot.{PrefixedSlot}
use Rattle.ss_fragment.specs.Cells.{row_of}
use Rattle.ss_fragment.specs.Prefixes.{key_prefix}
use Rattle.ss_fragment.specs.Chunks.{slots_of}
use Rattle.ss_fragment.specs.FragmentValue.{FragmentValue, key_of, HasKey}

-- what a slot gives to the live rows
abbrev pub live_entry : List ℕ → ℕ → Option Cell → Option (Row × (ℕ × Row))
live_entry key slot None = None
live_entry key slot (Some (Free n)) = None
live_entry key slot (Some (Live row)) = Some (key_of key row, (slot, row))
live_entry key slot (Some (Dead row)) = None

-- what a slot gives to the dead rows
abbrev pub dead_entry : ℕ → Option Cell → Option (ℕ × Row)
dead_entry slot None = None
dead_entry slot (Some (Free n)) = None
dead_entry slot (Some (Live row)) = None
dead_entry slot (Some (Dead row)) = Some (slot, row)

-- the live rows of some slots, each with its key and slot
abbrev pub live_list : List Cell → List ℕ → List ℕ → List (Row × (ℕ × Row))
live_list cells key slots = filter_map (λ slot. live_entry key slot (slice_get cells slot)) slots

-- the dead rows of some slots, each with its slot
abbrev pub dead_list : List Cell → List ℕ → List (ℕ × Row)
dead_list cells slots = filter_map (λ slot. dead_entry slot (slice_get cells slot)) slots

-- the fragment that contracts see for these cells, whose slots are listed by key
abbrev pub fragment_of : List ℕ → List Cell → List ℕ → FragmentValue
fragment_of key cells slots = record {
  key = key;
  live = finite.from_sorted (live_list cells key slots);
  dead = finite.from_entries (dead_list cells slots);
}

-- how two keys with their slots compare: by key and then by slot
abbrev pub order_cmp : Row × ℕ → Row × ℕ → Ordering
order_cmp p q = ordering_then (row_cmp p.0 q.0) (nat_cmp p.1 q.1)

-- the key of a slot's row, and the slot; the key is empty where the slot has no row
abbrev pub order_key : List Cell → List ℕ → ℕ → Row × ℕ
order_key cells key slot = (option_map_or (key_of key) (row_of cells slot) [], slot)

-- each item is less than all behind it
abbrev pub Rises : {K : Type 0} → (K → K → Ordering) → List K → Type 0
Rises R [] = Unit {0}
Rises R (k ∷ ks) = AllByRecursion (λ j. R k j ≡ Less) ks × Rises R ks

-- a slot is one of these
abbrev pub Among : ℕ → List ℕ → Type 0
Among slot [] = ⊥
Among slot (s ∷ ss) = (s ≡ slot) ⊎ Among slot ss

-- these are the slots of a fragment, in the order of its keys
pub record IsFragment (key : List ℕ) (cells : List Cell) (slots : List ℕ) : Type 0 where
  -- the slots are just those with a row
  pub held : AllByRecursion (λ slot. (row : Row) × (row_of cells slot ≡ Some row)) slots
  pub listed : (slot : ℕ) (row : Row) → row_of cells slot ≡ Some row → Among slot slots
  -- they rise by key and then by slot
  pub rises : Rises order_cmp (map (order_key cells key) slots)
  -- each row has every key column, and no two live rows have equal keys
  pub keyed : (slot : ℕ) (row : Row) → row_of cells slot ≡ Some row → HasKey key row
  pub single : (s t : ℕ) (a b : Row) → slice_get cells s ≡ Some (Live a) → slice_get cells t ≡ Some (Live b) → key_of key a ≡ key_of key b → s ≡ t

-- a mark has the prefix of its row's key
abbrev pub IsMark : List ℕ → List Cell → PrefixedSlot → Type 0
IsMark key cells m = m.prefix ≡ key_prefix (order_key cells key m.slot).0

-- what holds of a fragment's fields
pub record FragmentInvariant (key : List ℕ) (cells : List Cell) (marks : List PrefixedSlot) (count spare : ℕ) : Type 0 where
  pub fragment : IsFragment key cells (slots_of marks)
  pub marked : AllByRecursion (IsMark key cells) marks
  -- count rows are live, and spare cells free
  pub counted : count ≡ length (live_list cells key (slots_of marks))
  pub spared : length (slots_of marks) + spare ≡ length cells
  -- a slot with the number of a part is still a number of the machine
  pub few : length cells ≤ 2 ^ 56

-- a cell is free
abbrev pub IsFree : Cell → Type 0
IsFree (Free n) = Unit {0}
IsFree (Live row) = ⊥
IsFree (Dead row) = ⊥

-- free cells were added at the end, and counted
pub record Grown (old new : List Cell) (before now : ℕ) : Type 0 where
  pub more : List Cell
  pub is : new ≡ old ++ more
  pub free : AllByRecursion IsFree more
  pub counted : before + length more ≡ now
