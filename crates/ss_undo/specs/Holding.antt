-- What the indexes of a table hold: the pairs of its live rows, of its dead rows, and of the old rows that are noted.
use Rattle.std.specs.Prelude.{◌≡◌, ℕ, List, ◌++◌, map, Some}
use Rattle.std.specs.List.{AllByRecursion}
use Rattle.std.specs.FinMap as finite
use Rattle.ss_value.specs.Rows.{Row}
use Rattle.ss_table.specs.TableValue.{TableValue as Table, LiveRows, DeadRows}
use Rattle.ss_index.specs.Pairs.{Pair, IndexValue, pair_of}
use Rattle.ss_index.specs.Entries.{pairs_in}
use Rattle.ss_index.specs.Indexes.{HavePair}

-- the pair of a live row
abbrev pub live_pair : List ℕ → Row × (ℕ × Row) → Pair
live_pair columns e = pair_of columns e.1.1 e.1.0

-- the pairs of all live rows, in the order of their keys
abbrev pub live_pairs : List ℕ → LiveRows → List Pair
live_pairs columns live = map (live_pair columns) (finite.entries live)

-- the pair of a dead row
abbrev pub dead_pair : List ℕ → ℕ × Row → Pair
dead_pair columns e = pair_of columns e.1 e.0

-- the pairs of all dead rows, in the order of their slots
abbrev pub dead_pairs : List ℕ → DeadRows → List Pair
dead_pairs columns dead = map (dead_pair columns) (finite.entries dead)

-- the old rows of a table that notes have, each with its slot
abbrev pub Noted : Type 0
Noted = List (Row × ℕ)

-- their pairs
abbrev pub noted_pairs : List ℕ → Noted → List Pair
noted_pairs columns noted = map (λ o. pair_of columns o.0 o.1) noted

-- the pairs of all rows of a table and its notes
abbrev pub all_pairs : List ℕ → Table → Noted → List Pair
all_pairs columns h noted = live_pairs columns h.live ++ (dead_pairs columns h.dead ++ noted_pairs columns noted)

-- an index has just these pairs, each as often as there are rows of it, and the parts of its table
pub record Holds (h : Table) (noted : Noted) (i : IndexValue) : Type 0 where
  pub pairs : i.pairs ≡ pairs_in (all_pairs i.columns h noted)
  pub parts : i.parts ≡ h.parts

-- an index of these parts has no pair
abbrev pub HasNone : List ℕ → IndexValue → Type 0
HasNone parts i = (i.pairs ≡ finite.empty) × (i.parts ≡ parts)

-- each index of a table has its parts, and just the pairs of its rows and its notes
abbrev pub HoldAll : Table → Noted → List IndexValue → Type 0
HoldAll h noted indexes = AllByRecursion (Holds h noted) indexes

-- each live row has its pair in each index
abbrev pub HaveRows : LiveRows → List IndexValue → Type 0
HaveRows live indexes = (key : Row) (slot : ℕ) (row : Row) → finite.get live key ≡ Some (slot, row) → HavePair row slot indexes
