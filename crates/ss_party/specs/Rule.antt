-- The rule of the bays, and what each step tells.
use Rattle.std.specs.Prelude.{◌≡◌, ◌≢◌, ◌≤◌, ℕ, [], ◌∷◌, slice_index, Option, Some}
use mathlib.Core.Option.{some}
use lib.ListN.{get_elem?}
use Rattle.atomic_table.specs.Table.{State, Me, Step}
use Rattle.atomic_table.specs.Seated.{TableId}

-- Of a table: it has a word for each slot, and at most eight.
abbrev pub AreBays : TableId → Type 0
AreBays table = (table.words ≡ table.slots) × (table.slots ≤ 8)

-- Where a word is 1, the slot beside it is at home with a value whose tag is its number.
pub record HasOwnValues {T : Type 0} (tag : T → ℕ) (s : State (Option T) (Unit {0})) : Type 0 where
  pub full : (p : ℕ) → slice_index s.words p ≡ 1 → (v : T) × (get_elem? s.homes p ≡ some (some (Some v))) × (tag v ≡ p)

-- Who found 1 in the word has its slot, with a value whose tag is its number; who found something else has nothing.
abbrev pub Took : {T : Type 0} → (T → ℕ) → Step (Option T) → Me (Option T) (Unit {0}) → ℕ → Me (Option T) (Unit {0}) → Type 0
Took {T} tag step before found after =
    (found ≡ 1 → (v : T) × (tag v ≡ step.word) × (after.1 ≡ (step.word, Some v) ∷ []))
    × (found ≢ 1 → after.1 ≡ [])

-- A value that is given back tells its giver nothing.
abbrev pub Gave : {T : Type 0} → Step (Option T) → Me (Option T) (Unit {0}) → ℕ → Me (Option T) (Unit {0}) → Type 0
Gave step before found after = Unit {0}
