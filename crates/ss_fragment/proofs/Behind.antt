-- The live slot behind a key that need not be there.
use Rattle.std.proofs.Common.{◌≡◌, ℕ, ◌<◌, ◌≤◌, Bool, true, false, not, List, [], ◌∷◌, ◌++◌, length, take, drop, refl, sym, ap, subst, ◌∙◌, Option, Some, None, slice_get, take-append-drop, arith}
use Rattle.std.specs.List.{AllByRecursion, cons_option, find, prefix_len}
use Rattle.std.specs.Option.{option_and_then, option_map_or}
use Rattle.std.specs.Ordering.{nat_cmp, is_lt, ordering_then, ordering_reverse}
use Rattle.std.specs.declared.cmp.Ordering.{Ordering}
use Rattle.std.specs.declared.cmp.Ordering.TheVariants.{Less, Equal, Greater}
use Rattle.std.specs.FinMap as finite
use Rattle.std.proofs.lemmas.Bool.Decides.{nat_tests}
use Rattle.std.proofs.lemmas.Option.{slice_get_within}
use Rattle.ss_value.specs.Rows.{Row}
use Rattle.ss_value.specs.Order.{row_cmp}
use Rattle.ss_value.specs.ValueOrder.{row_cmp_total, row_cmp-IsAntisymmetric}
use Rattle.ss_fragment.specs.declared.cell.Cell.{Cell}
use Rattle.ss_fragment.specs.declared.cell.Cell.TheVariants.{Free, Live, Dead}
use Rattle.ss_fragment.specs.Cells.{row_in, row_of, is_live}
use Rattle.ss_fragment.specs.Targets.{is_before_slot, slot_rank}
use Rattle.ss_fragment.specs.FragmentValue.{key_of, HasKey, first_in, live_behind}
use Rattle.ss_fragment.specs.Invariant.{order_cmp, order_key, live_entry, live_list, IsFragment}
use Rattle.ss_fragment.proofs.Rising.{front_passes, back_fails}
use Rattle.ss_fragment.proofs.Keys.{positions_total, is_before-position}
use Rattle.ss_fragment.proofs.Cells.{live_entries, same_tests}
use Rattle.ss_fragment.proofs.Steps.{live_two}
use Rattle.ss_fragment.proofs.Answered.{first_live_is}
use Rattle.ss_fragment.proofs.Cut.{retain_back}

-- a slot below `from` stands before a key exactly where its own key isn't greater
turned_test : (r : Ordering) (slot from : ℕ) → slot < from → is_lt (ordering_reverse r) ≡ not (is_lt (ordering_then r (nat_cmp slot from)))
turned_test Less slot from l = refl
turned_test Equal slot from l = let low : nat_cmp slot from ≡ Less = grind (arith, nat_tests, l) in ap (λ r. not (is_lt r)) (sym low)
turned_test Greater slot from l = refl

module _ (key : List ℕ) (cells : List Cell) (row : Row) (from : ℕ) (has : HasKey key row) (keyed : (slot : ℕ) (r : Row) → row_of cells slot ≡ Some r → HasKey key r) (most : length cells ≤ from) where
  tested_step : (b : Bool) (s : ℕ) (o : Option Cell) (es : List (Row × (ℕ × Row))) → slice_get cells s ≡ o → is_before_slot cells key false row from s ≡ b
      → AllByRecursion (λ e. is_lt (row_cmp (key_of key row) e.0) ≡ not b) es → AllByRecursion (λ e. is_lt (row_cmp (key_of key row) e.0) ≡ not b) (cons_option (live_entry key s o) es)
  tested_step b s None es e f h = h
  tested_step b s (Some (Free n)) es e f h = h
  tested_step b s (Some (Dead r)) es e f h = h
  tested_step b s (Some (Live r)) es e f h =
      let there : row_of cells s ≡ Some r = ap (option_and_then row_in) e in
      let below : s < length cells = slice_get_within cells s (Live r) e in
      let here : order_key cells key s ≡ (key_of key r, s) = ap (λ o. (option_map_or (key_of key) o [], s)) there in
      let test : is_lt (ordering_then (row_cmp (key_of key r) (key_of key row)) (nat_cmp s from)) ≡ b =
      ap (λ p. is_lt (order_cmp p (key_of key row, from))) (sym here) ∙ sym (is_before-position cells key false row from s r there (keyed s r there) (λ _. has)) ∙ f in
      ((ap is_lt (row_cmp_total.antisymm (key_of key row) (key_of key r)) ∙ turned_test (row_cmp (key_of key r) (key_of key row)) s from (omega (arith, below, most)) ∙ ap not test), h)

  tested : (b : Bool) (ss : List ℕ) → AllByRecursion (λ s. is_before_slot cells key false row from s ≡ b) ss → AllByRecursion (λ e. is_lt (row_cmp (key_of key row) e.0) ≡ not b) (live_list cells key ss)
  tested b [] a = tt
  tested b (s ∷ ss) a = tested_step b s (slice_get cells s) (live_list cells key ss) refl a.0 (tested b ss a.1)

  -- what a search finds behind all slots of a row's key
  pub behind_is : (slots : List ℕ) → IsFragment key cells slots
      → first_in (finite.entries (live_behind (finite.from_sorted (live_list cells key slots)) (key_of key row))) ≡ find (is_live cells) (drop (slot_rank cells key false row from slots) slots)
  behind_is slots t =
      let n : ℕ = slot_rank cells key false row from slots in
      let parts : slots ≡ take n slots ++ drop n slots = sym (take-append-drop n slots) in
      let lists : live_list cells key slots ≡ live_list cells key (take n slots) ++ live_list cells key (drop n slots) = ap (live_list cells key) parts ∙ live_two key cells (take n slots) (drop n slots) in
      ap first_in (retain_back row_cmp_total row_cmp-IsAntisymmetric (finite.from_sorted (live_list cells key slots)) (λ other. is_lt (row_cmp (key_of key row) other))
      (live_list cells key (take n slots)) (live_list cells key (drop n slots)) (live_entries key cells slots t ∙ lists)
      (tested true (take n slots) (front_passes (is_before_slot cells key false row from) slots))
      (tested false (drop n slots) (back_fails positions_total (order_key cells key) (is_before_slot cells key false row from) (key_of key row, from) slots (same_tests key cells slots false row from t (λ _. has)) t.rises)))
      ∙ first_live_is key cells (drop n slots)
