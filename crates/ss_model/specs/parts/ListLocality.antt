-- The locality of lists: what stays as it was behind entries that do not touch it.
use Rattle.std.specs.Prelude.{◌≡◌, ◌≤◌, ℕ, true, false, List, Some}
use Rattle.std.specs.List.{AllByRecursion}
use Rattle.ss_model.specs.declared.catalog.Catalog.{Catalog}
use Rattle.ss_model.specs.declared.entry.Entry.{Entry}
use Rattle.ss_model.specs.declared.entry.Listed.{Listed}
use Rattle.ss_model.specs.Database.{Database, Applied, apply}
use Rattle.ss_model.specs.Replays.{after}
use Rattle.ss_model.specs.Accepted.{Accepted}
use Rattle.ss_model.specs.Partitions.{touches, part}
use Rattle.ss_model.specs.parts.Locality.{SameApplied}

-- no entry of the list touches the partition
abbrev pub Untouched : Catalog → ℕ → List Listed → ℕ → Type 0
Untouched catalog n list p = AllByRecursion (λ l. touches catalog n l.entry p ≡ false) list

-- no entry of the list touches a partition of this entry
abbrev pub IsApart : Catalog → ℕ → List Listed → Entry → Type 0
IsApart catalog n list e = (p : ℕ) → touches catalog n e p ≡ true → Untouched catalog n list p

-- law: a list leaves each part that none of its entries touches, and an entry that has a value before it, and shares no
-- partition with it, has the same effect behind it
pub record ListIsLocal (catalog : Catalog) (n : ℕ) (db : Database) (list : List Listed) : Type 0 where
  pub leaves : (p : ℕ) → Untouched catalog n list p → part catalog n p (after catalog db list) ≡ part catalog n p db
  pub carries : (e : Entry) (a : Applied) → apply catalog db e ≡ Some a → IsApart catalog n list e → SameApplied catalog n e (Some a) (apply catalog (after catalog db list) e)

-- law: this holds of each list, on each database of an accepted catalogue, on any number of partitions
abbrev pub ListsAreLocal : Type 0
ListsAreLocal = (catalog : Catalog) → Accepted catalog → (n : ℕ) → 1 ≤ n → (db : Database) (list : List Listed) → ListIsLocal catalog n db list
