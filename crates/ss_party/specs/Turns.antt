-- What is taken from bays, and the right to fill them again.
use Rattle.std.specs.Prelude.{◌≡◌, ◌↔◌, ℕ, List, map, All, Contains}
use Rattle.std.specs.Int.{IsBitSet}
use Rattle.std.specs.List.Sorted.{IsStrictlyIncreasing}
use Rattle.atomic_table.specs.Seated.{TableId}

-- How many bays there are; they are numbered from 0.
abbrev pub bay_count : TableId → ℕ
bay_count bays = bays.slots

-- The right to fill one bay of these bays.
pub record TurnValue : Type 0 where
  pub bays : TableId
  pub bay : ℕ

abbrev pub turn_of : TableId → ℕ → TurnValue
turn_of bays bay = record { bays = bays; bay = bay }

-- A set has this one member.
abbrev pub IsAlone : ℕ → ℕ → Type 0
IsAlone set p = (q : ℕ) → IsBitSet set q ↔ (q ≡ p)

-- A value that belongs to this bay, with the turn of this bay.
pub record IsTaken {T : Type 0} (tag : T → ℕ) (bays : TableId) (bay : ℕ) (taken : T × TurnValue) : Type 0 where
  pub own : tag taken.0 ≡ bay
  pub turn : taken.1 ≡ turn_of bays bay

-- The bays that these were taken from.
abbrev pub bays_of : {T : Type 0} → List (T × TurnValue) → List ℕ
bays_of taken = map (λ one. one.1.bay) taken

-- Just the members of the set, in rising order, each a value of its bay with the turn of this bay.
pub record IsGathered {T : Type 0} (tag : T → ℕ) (bays : TableId) (set : ℕ) (taken : List (T × TurnValue)) : Type 0 where
  pub own : All (λ one. IsTaken tag bays one.1.bay one) taken
  pub rising : IsStrictlyIncreasing (bays_of taken)
  pub members : (p : ℕ) → IsBitSet set p ↔ Contains (bays_of taken) p
