-- What holds of the live rows of every fragment.
use Rattle.std.specs.Prelude.{◌≡◌, ℕ, ◌<◌, ◌^◌, List, [], ◌∷◌, Some}
use Rattle.std.specs.List.{AllByRecursion}
use Rattle.std.specs.FinMap as finite
use Rattle.ss_value.specs.Rows.{Row}
use Rattle.ss_fragment.specs.FragmentValue.{FragmentValue, key_of, HasKey, row_at}

-- an entry's key is that of its row, which has every key column
abbrev pub StandsAtKey : List ℕ → Row × (ℕ × Row) → Type 0
StandsAtKey key e = (e.0 ≡ key_of key e.1.1) × HasKey key e.1.1

-- no two entries have one slot
abbrev pub SlotsDiffer : List (Row × (ℕ × Row)) → Type 0
SlotsDiffer [] = Unit {0}
SlotsDiffer (e ∷ es) = AllByRecursion (λ d. d.1.0 ≡ e.1.0 → ⊥) es × SlotsDiffer es

-- each live row is found by its key and has a slot of its own, below 2 ^ 56
pub record AreKeyed (h : FragmentValue) : Type 0 where
  pub keyed : AllByRecursion (StandsAtKey h.key) (finite.entries h.live)
  pub apart : SlotsDiffer (finite.entries h.live)
  pub few : (slot : ℕ) (row : Row) → row_at h.live slot ≡ Some row → slot < 2 ^ 56
