-- What a search looks for, and which marks stand before it.
use Rattle.std.specs.Prelude.{ℕ, List, Bool, false, cond, not, ◌&&◌, ◌||◌, ◌==◌, Option, Some, None}
use Rattle.std.specs.List.{prefix_len, insert}
use Rattle.std.specs.Ordering.{nat_cmp, is_lt, is_eq, ordering_then}
use Rattle.std.specs.declared.cmp.Ordering.{Ordering}
use Rattle.std.specs.declared.cmp.Ordering.TheVariants.{Greater}
use Rattle.ss_value.specs.Rows.{Row}
use Rattle.ss_fragment.specs.declared.cell.Cell.{Cell}
use Rattle.ss_fragment.specs.declared.mark.PrefixedSlot.{PrefixedSlot}
use Rattle.ss_fragment.specs.declared.search.Aim.{Aim as HeldAim}
use Rattle.ss_fragment.specs.Chunks.{slots_of}
use Rattle.ss_fragment.specs.Cells.{row_of, by_sought, is_live}
use Rattle.ss_fragment.specs.Prefixes.{sought_prefix}
use Rattle.ss_fragment.specs.Deciding.{sought_decides}

-- what a search looks for among these cells: the position of a key, or of a row's key, and at that key of a slot
pub record Target : Type 0 where
  pub cells : List Cell
  pub key : List ℕ
  pub is_key : Bool
  pub values : Row
  pub prefix : ℕ
  pub decides : Bool
  pub slot : ℕ

-- what the program's aim is to contracts
abbrev pub target_of : HeldAim → Target
target_of a = record {
  cells = a.cells.now;
  key = a.key.now;
  is_key = a.is_key;
  values = a.values.now;
  prefix = a.prefix;
  decides = a.decides;
  slot = a.slot;
}

-- an aim with the prefix of the key that is sought, and whether that decides the key
abbrev pub target_at : List Cell → List ℕ → Bool → Row → ℕ → Target
target_at cells key is_key values slot = record {
  cells = cells;
  key = key;
  is_key = is_key;
  values = values;
  prefix = sought_prefix is_key key values;
  decides = sought_decides is_key key values;
  slot = slot;
}

-- the mark of an aim's slot
abbrev pub target_mark : Target → PrefixedSlot
target_mark a = record { prefix = a.prefix; slot = a.slot }

-- how a slot with this row compares to what is sought, and at equal keys to the slot `from`; a slot without a row comes behind
abbrev pub row_cmp_to : List ℕ → Bool → Row → ℕ → ℕ → Option Row → Ordering
row_cmp_to key is_key sought from slot None = Greater
row_cmp_to key is_key sought from slot (Some row) = ordering_then (by_sought is_key key row sought) (nat_cmp slot from)

-- how a slot compares to what is sought, and at equal keys to the slot `from`
abbrev pub slot_cmp : List Cell → List ℕ → Bool → Row → ℕ → ℕ → Ordering
slot_cmp cells key is_key sought from slot = row_cmp_to key is_key sought from slot (row_of cells slot)

-- whether a slot stands before what is sought, and at equal keys before the slot `from`
abbrev pub is_before_slot : List Cell → List ℕ → Bool → Row → ℕ → ℕ → Bool
is_before_slot cells key is_key sought from slot = is_lt (slot_cmp cells key is_key sought from slot)

-- how many slots of an order stand before what is sought, and at equal keys before the slot `from`
abbrev pub slot_rank : List Cell → List ℕ → Bool → Row → ℕ → List ℕ → ℕ
slot_rank cells key is_key sought from slots = prefix_len (is_before_slot cells key is_key sought from) slots

-- an order with the mark of a slot added, at the position of this row's key
abbrev pub linked_order : List Cell → List ℕ → Row → ℕ → List PrefixedSlot → List PrefixedSlot
linked_order cells key row slot order = insert order (slot_rank cells key false row slot (slots_of order)) (target_mark (target_at cells key false row slot))

-- how a slot whose prefix is the aim's compares to it: where that decides the key by its number, else by its row
abbrev pub tied_cmp : Target → ℕ → Ordering
tied_cmp a slot = cond a.decides (nat_cmp slot a.slot) (slot_cmp a.cells a.key a.is_key a.values a.slot slot)

-- whether a mark stands before an aim: by its prefix, and where the prefixes tie by its slot
abbrev pub is_before : Target → PrefixedSlot → Bool
is_before a m = is_lt (ordering_then (nat_cmp m.prefix a.prefix) (tied_cmp a m.slot))

-- how many marks of an order stand before an aim
abbrev pub rank : Target → List PrefixedSlot → ℕ
rank a marks = prefix_len (is_before a) marks

-- whether a row has another key than the one that is sought
abbrev pub is_past_row : List ℕ → Bool → Row → Option Row → Bool
is_past_row key is_key sought None = false
is_past_row key is_key sought (Some row) = not (is_eq (by_sought is_key key row sought))

-- whether a slot's row has another key than the one that is sought
abbrev pub is_past_slot : List Cell → List ℕ → Bool → Row → ℕ → Bool
is_past_slot cells key is_key sought slot = is_past_row key is_key sought (row_of cells slot)

-- whether a mark's row has another key than the one that is sought: by its prefix, and where the prefixes tie and don't decide by its slot
abbrev pub is_past : Target → PrefixedSlot → Bool
is_past a m = not (m.prefix == a.prefix) || (not a.decides && is_past_slot a.cells a.key a.is_key a.values m.slot)

-- whether a search for a live row with a key ends at a slot: its row is live, or has another key
abbrev pub slot_stops : List Cell → List ℕ → Bool → Row → ℕ → Bool
slot_stops cells key is_key sought slot = is_live cells slot || is_past_slot cells key is_key sought slot

-- whether it ends at a mark
abbrev pub stops : Target → PrefixedSlot → Bool
stops a m = is_past a m || is_live a.cells m.slot

-- what it finds there: the slot, where its row is live and has the key
abbrev pub hit : Target → PrefixedSlot → Option ℕ
hit a m = cond (is_past a m) None (cond (is_live a.cells m.slot) (Some m.slot) None)
