-- The live rows of a fragment stand at their keys, in slots of their own.
use Rattle.std.proofs.Common.{◌≡◌, ℕ, ◌≤◌, ◌^◌, List, [], ◌∷◌, length, map, refl, sym, ap, subst, ◌∙◌, Option, Some, None, slice_get, arith}
use Rattle.std.specs.List.{AllByRecursion, cons_option}
use Rattle.std.specs.Option.{option_and_then}
use Rattle.std.specs.declared.cmp.Ordering.TheVariants.{Less}
use Rattle.std.proofs.lemmas.Option.{slice_get_within}
use Rattle.ss_value.specs.Rows.{Row}
use Rattle.ss_fragment.specs.declared.cell.Cell.{Cell}
use Rattle.ss_fragment.specs.declared.cell.Cell.TheVariants.{Free, Live, Dead}
use Rattle.ss_fragment.specs.Cells.{row_of, row_in}
use Rattle.ss_fragment.specs.FragmentValue.{HasKey}
use Rattle.ss_fragment.specs.Invariant.{order_cmp, order_key, live_entry, live_list, fragment_of, Rises, IsFragment}
use Rattle.ss_fragment.specs.Keyed.{StandsAtKey, SlotsDiffer, AreKeyed}
use Rattle.ss_fragment.proofs.Rising.{every_map, every_so}
use Rattle.ss_fragment.proofs.Cells.{live_entries, live_cell}
use Rattle.ss_fragment.proofs.Answered.{row_at_is}
use Rattle.ss_fragment.proofs.Steps.{Apart, not_less_itself}

module _ (key : List ℕ) (cells : List Cell) where
  -- what holds of each slot holds of each row's slot
  apart_step : (Q : ℕ → Type 0) (slot : ℕ) (o : Option Cell) (es : List (Row × (ℕ × Row))) → Q slot → AllByRecursion (λ e. Q e.1.0) es → AllByRecursion (λ e. Q e.1.0) (cons_option (live_entry key slot o) es)
  apart_step Q slot None es q h = h
  apart_step Q slot (Some (Free n)) es q h = h
  apart_step Q slot (Some (Live row)) es q h = (q, h)
  apart_step Q slot (Some (Dead row)) es q h = h

  slots_so : (Q : ℕ → Type 0) (slots : List ℕ) → AllByRecursion Q slots → AllByRecursion (λ e. Q e.1.0) (live_list cells key slots)
  slots_so Q [] h = tt
  slots_so Q (s ∷ ss) h = apart_step Q s (slice_get cells s) (live_list cells key ss) h.0 (slots_so Q ss h.1)

  differ_step : (slot : ℕ) (o : Option Cell) (es : List (Row × (ℕ × Row))) → AllByRecursion (λ e. e.1.0 ≡ slot → ⊥) es → SlotsDiffer es → SlotsDiffer (cons_option (live_entry key slot o) es)
  differ_step slot None es h d = d
  differ_step slot (Some (Free n)) es h d = d
  differ_step slot (Some (Live row)) es h d = (h, d)
  differ_step slot (Some (Dead row)) es h d = d

  slots_differ : (slots : List ℕ) → Rises order_cmp (map (order_key cells key) slots) → SlotsDiffer (live_list cells key slots)
  slots_differ [] r = tt
  slots_differ (s ∷ ss) r =
      let behind : Apart s ss = every_so (λ t. order_cmp (order_key cells key s) (order_key cells key t) ≡ Less) (λ t. t ≡ s → ⊥) ss (λ t e same. not_less_itself _ _ e (ap (order_key cells key) (sym same)))
      (every_map (λ p. order_cmp (order_key cells key s) p ≡ Less) (order_key cells key) ss r.0) in
      differ_step s (slice_get cells s) (live_list cells key ss) (slots_so (λ t. t ≡ s → ⊥) ss behind) (slots_differ ss r.1)

  module _ (keyed : (slot : ℕ) (row : Row) → row_of cells slot ≡ Some row → HasKey key row) where
    keyed_step : (slot : ℕ) (o : Option Cell) (es : List (Row × (ℕ × Row))) → slice_get cells slot ≡ o → AllByRecursion (StandsAtKey key) es → AllByRecursion (StandsAtKey key) (cons_option (live_entry key slot o) es)
    keyed_step slot None es e h = h
    keyed_step slot (Some (Free n)) es e h = h
    keyed_step slot (Some (Live row)) es e h = ((refl, keyed slot row (ap (option_and_then row_in) e)), h)
    keyed_step slot (Some (Dead row)) es e h = h

    rows_keyed : (slots : List ℕ) → AllByRecursion (StandsAtKey key) (live_list cells key slots)
    rows_keyed [] = tt
    rows_keyed (s ∷ ss) = keyed_step s (slice_get cells s) (live_list cells key ss) refl (rows_keyed ss)

pub are_keyed : (key : List ℕ) (cells : List Cell) (slots : List ℕ) → IsFragment key cells slots → length cells ≤ 2 ^ 56 → AreKeyed (fragment_of key cells slots)
are_keyed key cells slots t most =
    let same = live_entries key cells slots t in
    record {
      keyed = subst (AllByRecursion (StandsAtKey key)) (sym same) (rows_keyed key cells t.keyed slots);
      apart = subst SlotsDiffer (sym same) (slots_differ key cells slots t.rises);
      few = λ slot row e.
          let within = slice_get_within cells slot (Live row) (live_cell (slice_get cells slot) row (sym (row_at_is key cells slots slot t) ∙ e)) in
          omega (arith, within, most);
    }
