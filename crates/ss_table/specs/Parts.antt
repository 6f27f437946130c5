-- The parts that a table is united of.
use Rattle.std.specs.Prelude.{◌≡◌, ℕ, ◌+◌, ◌*◌, ◌%◌, ◌<◌, suc, Bool, true, List, [], ◌∷◌, Option, Some, None, map}
use Rattle.std.specs.List.{AllByRecursion}
use Rattle.std.specs.Ordering.{is_lt}
use Rattle.std.specs.FinMap as finite
use Rattle.std.specs.declared.cmp.Ordering.{Ordering}
use Rattle.ss_value.specs.Rows.{Row}
use Rattle.ss_value.specs.Order.{row_cmp}
use Rattle.ss_fragment.specs.FragmentValue as fragment
use Rattle.ss_fragment.specs.Keyed.{AreKeyed}
use Rattle.ss_table.specs.declared.route.Route.{Route}
use Rattle.ss_table.specs.declared.part.Part.{Part}
use Rattle.ss_table.specs.TableValue.{TableValue, LiveRows, DeadRows, key_of, HasKey, row_at}
use Rattle.ss_table.specs.Unions.{united, AtHome, head}
use Rattle.ss_table.specs.Routes.{part_of, place_among, place_of, IsRoute}

-- a fragment's slot as one of the table
abbrev pub wide : ℕ → ℕ → ℕ
wide number slot = slot * 8 + number

-- a live row of a fragment, with the table's slot
abbrev pub to_wide : ℕ → ℕ × Row → ℕ × Row
to_wide number row = (wide number row.0, row.1)

-- a map with other values
unfoldable pub with_values : {K X Y : Type 0} {R : K → K → Ordering} → (X → Y) → finite.FinMap R X → finite.FinMap R Y
with_values f m = finite.from_sorted (map (λ e. (e.0, f e.1)) (finite.entries m))

-- the live rows of a part, with the table's slots
abbrev pub wide_live : Part → LiveRows
wide_live f = with_values (to_wide f.number) f.rows.live

-- its dead rows by the table's slots
abbrev pub wide_dead : Part → DeadRows
wide_dead f = finite.from_entries (map (λ e. (wide f.number e.0, e.1)) (finite.entries f.rows.dead))

abbrev pub parts_of : List Part → List ℕ
parts_of fs = map (λ f. f.number) fs

-- the live rows of parts, and their dead ones
abbrev pub live_of : List Part → LiveRows
live_of fs = united (map wide_live fs)

abbrev pub dead_of : List Part → DeadRows
dead_of fs = united (map wide_dead fs)

-- the table that parts are
abbrev pub table_of : Option ℕ → Route → List ℕ → List Part → TableValue
table_of limit by key fs = record {
  key = key;
  limit = limit;
  live = live_of fs;
  dead = dead_of fs;
  route = by;
  parts = parts_of fs;
}

-- the same with other rows
abbrev pub filled : Option ℕ → Route → List ℕ → List Part → LiveRows → DeadRows → TableValue
filled limit by key fs live dead = record {
  key = key;
  limit = limit;
  live = live;
  dead = dead;
  route = by;
  parts = parts_of fs;
}

-- a part of a table with this key
pub record IsPart (key : List ℕ) (f : Part) : Type 0 where
  pub same_key : f.rows.key ≡ key
  pub below : f.number < 8

-- each part stands once among these
abbrev pub AreApart : ℕ → List ℕ → List ℕ → Type 0
AreApart i all [] = Unit {0}
AreApart i all (p ∷ ps) = (place_among all p ≡ Some i) × AreApart (suc i) all ps

-- where a key is at home among parts, and where a slot is
abbrev pub key_home : Route → List Part → Row → ℕ
key_home by fs key = place_of (parts_of fs) (part_of by key)

abbrev pub slot_home : List Part → ℕ → ℕ
slot_home fs slot = place_of (parts_of fs) (slot % 8)

-- these are the parts of a table
pub record IsUnited (by : Route) (key : List ℕ) (fs : List Part) : Type 0 where
  pub route : IsRoute by
  pub each : AllByRecursion (IsPart key) fs
  pub apart : AreApart 0 (parts_of fs) (parts_of fs)
  -- each live row stands in the part of its key, each dead one in that of its slot
  pub home : AtHome (key_home by fs) 0 (map wide_live fs)
  pub slots : AtHome (slot_home fs) 0 (map wide_dead fs)
  -- and where a dead row comes to life again, it is in the part of its key
  pub returns : (slot : ℕ) (row : Row) → finite.get (dead_of fs) slot ≡ Some row → key_home by fs (key_of key row) ≡ slot_home fs slot

-- whether a key is greater than that of a row, where there is one
abbrev pub is_beyond : List ℕ → Option Row → Row → Bool
is_beyond key None other = true
is_beyond key (Some row) other = is_lt (row_cmp (key_of key row) other)

-- the live rows with such keys, and those of a part
abbrev pub rows_beyond : List ℕ → Option Row → LiveRows → LiveRows
rows_beyond key bound live = finite.retain_keys live (is_beyond key bound)

abbrev pub live_beyond : List ℕ → Option Row → Part → LiveRows
live_beyond key bound f = rows_beyond key bound (wide_live f)

-- the least key of these rows is this row's, in this slot
abbrev pub IsHead : List ℕ → LiveRows → ℕ → Row → Type 0
IsHead key live slot row = (head (finite.entries live) ≡ Some (key_of key row, (slot, row))) × HasKey key row

-- a row that is there has every key column
abbrev pub HasKeyIfAny : List ℕ → Option Row → Type 0
HasKeyIfAny key None = Unit {0}
HasKeyIfAny key (Some row) = HasKey key row

-- the live rows of a part stand at their keys, in slots of their own
abbrev pub AreKeyedPart : Part → Type 0
AreKeyedPart f = AreKeyed f.rows

-- a row was put into a part, in this slot of the table
pub record WasPut (old new : Part) (row : Row) (slot : ℕ) : Type 0 where
  pub at : ℕ
  pub is_slot : slot ≡ wide old.number at
  pub is : new.rows ≡ fragment.insert old.rows at row
  pub fresh : (row_at old.rows.live at ≡ None) × (finite.get old.rows.dead at ≡ None)
  pub there : row_at new.rows.live at ≡ Some row
  pub keyed : AreKeyed new.rows
