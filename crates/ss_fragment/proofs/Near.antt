-- What stands behind a slot.
use Rattle.std.proofs.Common.{◌≡◌, ◌==◌, ℕ, List, [], ◌∷◌, ◌++◌, slice_get, refl, sym, ap, ◌∙◌, subst, Option, Some, None}
use Rattle.std.specs.Prelude.{IsSome}
use Rattle.std.specs.FinMap as finite
use Rattle.ss_fragment.specs.declared.cell.Cell.{Cell}
use Rattle.ss_fragment.specs.declared.mark.PrefixedSlot.{PrefixedSlot}
use Rattle.ss_value.specs.Rows.{Row}
use Rattle.ss_fragment.specs.declared.cell.Cell.TheVariants.{Free, Live, Dead}
use Rattle.ss_fragment.specs.FragmentValue.{row_at, after_in}
use Rattle.ss_fragment.specs.Invariant.{IsFragment, live_list}
use Rattle.ss_fragment.specs.Cells.{live_row}
use Rattle.ss_fragment.proofs.Answered.{row_at_is, after_here}
use Rattle.ss_fragment.specs.Chunks.{slots_of}
use Rattle.ss_fragment.specs.Near.{IsBehind, LostMark}
use Rattle.ss_chunks.specs.Chunks.{WasTaken}
use Rattle.std.proofs.lemmas.Bool.{eqb-true}

slots_append : (xs ys : List PrefixedSlot) → slots_of (xs ++ ys) ≡ slots_of xs ++ slots_of ys
slots_append [] ys = refl
slots_append (x ∷ xs) ys = ap (λ s. x.slot ∷ s) (slots_append xs ys)

module _ (key : List ℕ) (cells : List Cell) (marks : List PrefixedSlot) (slot : ℕ) (t : IsFragment key cells (slots_of marks)) where
  at_live : (o : Option Cell) → slice_get cells slot ≡ o → IsSome (live_row o) → (row : Row) × (slice_get cells slot ≡ Some (Live row))
  at_live None e some = cc
  at_live (Some (Free n)) e some = cc
  at_live (Some (Live row)) e some = (row, e)
  at_live (Some (Dead row)) e some = cc

  -- what stands behind a live slot is what follows it by key
  pub after_behind : IsSome (row_at (finite.from_sorted (live_list cells key (slots_of marks))) slot) → (found : Option ℕ) → IsBehind marks slot cells found → found ≡ after_in (live_list cells key (slots_of marks)) slot
  after_behind some found b =
      let live = at_live (slice_get cells slot) refl (subst (λ o. IsSome o) (row_at_is key cells (slots_of marks) slot t) some) in
      let is : slots_of marks ≡ slots_of b.0 ++ slot ∷ slots_of b.1 = ap slots_of b.3 ∙ slots_append b.0 (b.2 ∷ b.1) ∙ ap (λ s. slots_of b.0 ++ s ∷ slots_of b.1) b.4 in
      b.5 ∙ sym (after_here key cells (slots_of marks) slot live.0 t live.1 (slots_of b.0) (slots_of b.1) is)

-- an item with a slot that was taken out is the slot's mark
pub lost_mark : (old new : List PrefixedSlot) (slot : ℕ) → WasTaken (λ m. m.slot == slot) old new → LostMark old new slot
lost_mark old new slot w = record { front = w.front; mark = w.item; back = w.back; was = w.was; is = w.is; here = eqb-true w.item.slot slot w.passes }
