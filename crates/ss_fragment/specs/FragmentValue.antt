-- What a fragment is to contracts: its live rows by key, each with its slot, and its dead slots.
use Rattle.std.specs.Prelude.{ℕ, ◌<◌, ◌==◌, List, [], ◌∷◌, length, Bool, true, false, Option, Some, None, slice_get, option_map, refl, if◌then◌else◌}
use Rattle.std.specs.List.{find, filter_map, AllByRecursion}
use Rattle.std.specs.Ordering.{nat_cmp, is_lt}
use Rattle.std.specs.FinMap as finite
use Rattle.std.specs.FinMap.Entries as entries
use Rattle.std.specs.Coded.{Coded, code_by, coded×, coded_ℕ, coded_list}
use Rattle.ss_value.specs.RowCodes.{coded_row}
use Rattle.ss_value.specs.Rows.{Row}
use Rattle.ss_value.specs.Order.{row_cmp}

-- the values of a row in the columns of a key
abbrev pub key_of : List ℕ → Row → Row
key_of key row = filter_map (λ column. slice_get row column) key

-- a row has every column of a key
abbrev pub HasKey : List ℕ → Row → Type 0
HasKey key row = AllByRecursion (λ column. column < length row) key

-- the live rows by key, each with its slot
abbrev pub LiveRows : Type 0
LiveRows = finite.FinMap row_cmp (ℕ × Row)

-- the rows of the dead slots, by slot
abbrev pub DeadRows : Type 0
DeadRows = finite.FinMap nat_cmp Row

-- a fragment: its key columns and its rows
pub record FragmentValue : Type 0 where
  pub key : List ℕ
  pub live : LiveRows
  pub dead : DeadRows

-- how fragments are compared
abbrev pub coded_fragment : Coded FragmentValue
coded_fragment = code_by (List ℕ × (LiveRows × DeadRows))
    (coded× (coded_list coded_ℕ) (coded× (finite.code coded_row (coded× coded_ℕ coded_row)) (finite.code coded_ℕ coded_row)))
    (λ h. (h.key, (h.live, h.dead))) (λ p. record { key = p.0; live = p.1.0; dead = p.1.1 }) (λ _. refl)

-- a fragment of no row, whose key has no column
abbrev pub empty_fragment : FragmentValue
empty_fragment = record { key = []; live = finite.empty; dead = finite.empty }

-- the row of a slot, among entries
abbrev pub row_among : List (Row × (ℕ × Row)) → ℕ → Option Row
row_among es slot = option_map (λ e. e.1.1) (find (λ e. e.1.0 == slot) es)

-- the row of a live slot
abbrev pub row_at : LiveRows → ℕ → Option Row
row_at live slot = row_among (finite.entries live) slot

-- the slot of the first entry
abbrev pub first_in : List (Row × (ℕ × Row)) → Option ℕ
first_in [] = None
first_in (e ∷ es) = Some e.1.0

-- the slot of the entry behind a slot's
abbrev pub after_in : List (Row × (ℕ × Row)) → ℕ → Option ℕ
after_in [] slot = None
after_in (e ∷ es) slot = if e.1.0 == slot then first_in es else after_in es slot

-- the live rows whose key is greater than this one
abbrev pub live_behind : LiveRows → Row → LiveRows
live_behind live key = finite.retain_keys live (λ other. is_lt (row_cmp key other))

-- the key that is sought, by the key itself or by a row
abbrev pub sought_key : Bool → List ℕ → Row → Row
sought_key true key sought = sought
sought_key false key sought = key_of key sought

-- the slot that a list of live rows has at a key
abbrev pub slot_with : Row → List (Row × (ℕ × Row)) → Option ℕ
slot_with k es = option_map (λ p. p.0) (entries.find row_cmp k es)

-- a fragment with one row more, in a slot that neither a live nor a dead row has
abbrev pub insert : FragmentValue → ℕ → Row → FragmentValue
insert h slot row = record h { live = finite.insert h.live (key_of h.key row) (slot, row) }

-- a fragment with a live slot of this row made dead, and as it was where there is no row
abbrev pub mark_dead_row : FragmentValue → ℕ → Option Row → FragmentValue
mark_dead_row h slot None = h
mark_dead_row h slot (Some row) = record h { live = finite.remove h.live (key_of h.key row); dead = finite.insert h.dead slot row }

-- a fragment with a live slot made dead
abbrev pub mark_dead : FragmentValue → ℕ → FragmentValue
mark_dead h slot = mark_dead_row h slot (row_at h.live slot)

-- a fragment with a dead slot of this row made live, and as it was where there is no row
abbrev pub unmark_row : FragmentValue → ℕ → Option Row → FragmentValue
unmark_row h slot None = h
unmark_row h slot (Some row) = record h { live = finite.insert h.live (key_of h.key row) (slot, row); dead = finite.remove h.dead slot }

-- a fragment with a dead slot made live
abbrev pub unmark : FragmentValue → ℕ → FragmentValue
unmark h slot = unmark_row h slot (finite.get h.dead slot)

-- a fragment with another row of the same key in a live slot
abbrev pub replace : FragmentValue → ℕ → Row → FragmentValue
replace h slot row = record h { live = finite.insert h.live (key_of h.key row) (slot, row) }

-- a fragment without a live row, and as it was where there is none
abbrev pub remove_fresh_row : FragmentValue → Option Row → FragmentValue
remove_fresh_row h None = h
remove_fresh_row h (Some row) = record h { live = finite.remove h.live (key_of h.key row) }

-- a fragment with a live slot freed
abbrev pub remove_fresh : FragmentValue → ℕ → FragmentValue
remove_fresh h slot = remove_fresh_row h (row_at h.live slot)

-- a fragment with a dead slot freed
abbrev pub purge : FragmentValue → ℕ → FragmentValue
purge h slot = record h { dead = finite.remove h.dead slot }
