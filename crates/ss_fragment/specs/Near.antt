-- The live slot behind a slot. Of a hint nothing is said.
use Rattle.std.specs.Prelude.{◌≡◌, ℕ, List, ◌∷◌, ◌++◌, Option}
use Rattle.std.specs.Option.{option_map}
use Rattle.std.specs.List.{find}
use Rattle.ss_chunks.specs.declared.rest.Hint.{Hint}
use Rattle.ss_fragment.specs.declared.cell.Cell.{Cell}
use Rattle.ss_fragment.specs.declared.mark.PrefixedSlot.{PrefixedSlot}
use Rattle.ss_fragment.specs.Chunks.{slots_of}
use Rattle.ss_fragment.specs.Cells.{is_live}

-- the slot that is found, without its hint
abbrev pub without_hint : Option (ℕ × Hint) → Option ℕ
without_hint found = option_map (λ p. p.0) found

-- a slot has one of these marks, and this is the first live slot behind it
abbrev pub IsBehind : List PrefixedSlot → ℕ → List Cell → Option ℕ → Type 0
IsBehind marks slot cells found =
    (front back : List PrefixedSlot) × (mark : PrefixedSlot) × (marks ≡ front ++ mark ∷ back) × (mark.slot ≡ slot) × (found ≡ find (is_live cells) (slots_of back))

-- the first of these marks is a slot's, and this is the first live slot behind it
abbrev pub IsBehindFirst : List PrefixedSlot → ℕ → List Cell → Option ℕ → Type 0
IsBehindFirst marks slot cells found =
    (back : List PrefixedSlot) × (mark : PrefixedSlot) × (marks ≡ mark ∷ back) × (mark.slot ≡ slot) × (found ≡ find (is_live cells) (slots_of back))

-- the mark of a slot was taken out, and all others are as before
pub record LostMark (old new : List PrefixedSlot) (slot : ℕ) : Type 0 where
  pub front : List PrefixedSlot
  pub mark : PrefixedSlot
  pub back : List PrefixedSlot
  pub was : old ≡ front ++ mark ∷ back
  pub is : new ≡ front ++ back
  pub here : mark.slot ≡ slot
