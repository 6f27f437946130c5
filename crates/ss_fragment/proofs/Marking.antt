-- A row made dead, and a dead row made live again.
use Rattle.std.proofs.Common.{◌≡◌, ℕ, ◌+◌, ◌-◌, true, cond, List, ◌∷◌, ◌++◌, length, refl, sym, ap, subst, ◌∙◌, Option, Some, None, T, arith, slice_get, slice_set, length-append}
use Rattle.std.specs.Option.{option_and_then, is_some, IfSome}
use Rattle.std.specs.Ordering.{nat_cmp, is_eq}
use Rattle.std.proofs.lemmas.Cmp.{tied_itself, nat_cmp_total}
use Rattle.std.specs.FinMap as finite
use Rattle.std.specs.FinMap.{nat_cmp-IsAntisymmetric}
use Rattle.std.specs.FinMap.Entries as entries
use Rattle.ss_value.specs.Order.{row_cmp}
use Rattle.ss_fragment.specs.declared.cell.Cell.{Cell}
use Rattle.ss_fragment.specs.declared.cell.Cell.TheVariants.{Live, Dead}
use Rattle.ss_fragment.specs.Cells.{row_of, row_in, live_row, dead_row}
use Rattle.ss_value.specs.Rows.{Row}
use Rattle.ss_value.specs.ValueOrder.{row_cmp_total, row_cmp-IsAntisymmetric}
use Rattle.ss_fragment.specs.FragmentValue.{FragmentValue, key_of, row_at, mark_dead, mark_dead_row, unmark, unmark_row}
use Rattle.ss_fragment.specs.Invariant.{live_list, dead_list, fragment_of, IsFragment, FragmentInvariant}
use Rattle.ss_fragment.proofs.Maps.{find-past}
use Rattle.ss_fragment.proofs.Cells.{dead_get, sorted_live, around}
use Rattle.ss_fragment.proofs.Steps.{minus_is, plus_is, minus_loose, plus_loose, Apart, apart_front, apart_back, no_dead}
use Rattle.ss_fragment.specs.declared.mark.PrefixedSlot.{PrefixedSlot}
use Rattle.ss_fragment.specs.Chunks.{slots_of}
use Rattle.ss_fragment.proofs.Answered.{row_at_is, dead_at_is}
use Rattle.ss_fragment.proofs.Cases.{if_some_at, length_set}
use Rattle.ss_fragment.proofs.Turned.{Turns, Becomes, becomes, fragment_same_keys, live_old, live_new, dead_old, dead_new, none_dead, live_before, same_keys_set, keyed_set, marked_same, positions_set, single_more, live_of_held, live_slot, dead_slot, row_some, settled, few_still}

-- ---- mark_dead

module _ (key : List ℕ) (cells : List Cell) (slot : ℕ) (row : Row) (is : slice_get cells slot ≡ Some (Live row)) where
  marked_at : (front back : List ℕ) → IsFragment key cells (front ++ slot ∷ back) → (n : ℕ) → n ≡ length (live_list cells key (front ++ slot ∷ back))
      → Turns key (slice_set cells slot (Dead row)) (front ++ slot ∷ back) (n - 1) (mark_dead (fragment_of key cells (front ++ slot ∷ back)) slot)
  marked_at front back t n counted =
      let k : Row = key_of key row in
      let in_front = apart_front key cells front slot back t.rises in
      let behind = apart_back key cells front slot back t.rises in
      let new : List Cell = slice_set cells slot (Dead row) in
      let fragment : IsFragment key new (front ++ slot ∷ back) = fragment_same_keys key new cells (front ++ slot ∷ back) (same_keys_set key cells slot (Live row) (Dead row) is refl) t
      (keyed_set key cells slot (Live row) (Dead row) is (λ r e. t.keyed slot r (ap (option_and_then row_in) is ∙ e)) t.keyed)
      (λ s u a b e f same. t.single s u a b (live_before cells slot (Live row) (Dead row) is refl s a e) (live_before cells slot (Live row) (Dead row) is refl u b f) same) in
      let old_list : live_list cells key (front ++ slot ∷ back) ≡ live_list cells key front ++ (k, (slot, row)) ∷ live_list cells key back = live_old key cells front slot back in_front behind (Live row) (Dead row) is in
      let new_list : live_list new key (front ++ slot ∷ back) ≡ live_list cells key front ++ live_list cells key back = live_new key cells front slot back in_front behind (Live row) (Dead row) is in
      let old_dead : dead_list cells (front ++ slot ∷ back) ≡ dead_list cells front ++ dead_list cells back = dead_old key cells front slot back in_front behind (Live row) (Dead row) is in
      let new_dead : dead_list new (front ++ slot ∷ back) ≡ dead_list cells front ++ (slot, row) ∷ dead_list cells back = dead_new key cells front slot back in_front behind (Live row) (Dead row) is in
      let live_is : finite.from_sorted {R = row_cmp} (live_list new key (front ++ slot ∷ back)) ≡ finite.remove (finite.from_sorted {R = row_cmp} (live_list cells key (front ++ slot ∷ back))) k =
      ap (finite.from_sorted {R = row_cmp}) new_list
      ∙ minus_is row_cmp row_cmp_total row_cmp-IsAntisymmetric (live_list cells key front) k (slot, row) (live_list cells key back)
      (subst (λ es. T (entries.is_sorted row_cmp es)) old_list (sorted_live key cells t.single (front ++ slot ∷ back) t.rises))
      (subst (λ es. T (entries.is_sorted row_cmp es)) new_list (sorted_live key new fragment.single (front ++ slot ∷ back) fragment.rises))
      ∙ sym (ap (λ es. finite.remove (finite.from_sorted {R = row_cmp} es) k) old_list) in
      let dead_is : finite.from_entries {R = nat_cmp} (dead_list new (front ++ slot ∷ back)) ≡ finite.insert (finite.from_entries {R = nat_cmp} (dead_list cells (front ++ slot ∷ back))) slot row =
      ap (finite.from_entries {R = nat_cmp}) new_dead
      ∙ plus_loose nat_cmp nat_cmp_total nat_cmp-IsAntisymmetric (dead_list cells front) slot row (dead_list cells back) (none_dead key cells front slot back in_front behind (Live row) (Dead row) is)
      ∙ sym (ap (λ es. finite.insert (finite.from_entries {R = nat_cmp} es) slot row) old_dead) in
      let h : FragmentValue = fragment_of key cells (front ++ slot ∷ back) in
      let row_is : row_at h.live slot ≡ Some row = row_at_is key cells (front ++ slot ∷ back) slot t ∙ ap live_row is in
      record {
        fragment = fragment;
        count_is = let a = ap length old_list in let b = ap length new_list in omega (arith, counted, a, b, length-append (live_list cells key front) ((k, (slot, row)) ∷ live_list cells key back), length-append (live_list cells key front) (live_list cells key back));
        view = (λ i. record { key = key; live = live_is i; dead = dead_is i }) ∙ sym (ap (mark_dead_row h slot) row_is);
      }

  pub marked_is : (slots : List ℕ) → IsFragment key cells slots → (n : ℕ) → n ≡ length (live_list cells key slots)
      → Turns key (slice_set cells slot (Dead row)) slots (n - 1) (mark_dead (fragment_of key cells slots) slot)
  marked_is slots t =
      let a = around slots slot (t.listed slot row (ap (option_and_then row_in) is)) in
      let P : List ℕ → Type 0 = λ s. IsFragment key cells s → (n : ℕ) → n ≡ length (live_list cells key s) → Turns key (slice_set cells slot (Dead row)) s (n - 1) (mark_dead (fragment_of key cells s) slot) in
      subst P (sym a.is) (marked_at a.front a.back) t

-- ---- unmark

module _ (key : List ℕ) (cells : List Cell) (slot : ℕ) (row : Row) (is : slice_get cells slot ≡ Some (Dead row)) where
  unmarked_at : (front back : List ℕ) → IsFragment key cells (front ++ slot ∷ back) → (n : ℕ) → n ≡ length (live_list cells key (front ++ slot ∷ back)) → entries.find row_cmp (key_of key row) (live_list cells key (front ++ slot ∷ back)) ≡ None
      → Turns key (slice_set cells slot (Live row)) (front ++ slot ∷ back) (n + 1) (unmark (fragment_of key cells (front ++ slot ∷ back)) slot)
  unmarked_at front back t n counted none =
      let k : Row = key_of key row in
      let in_front = apart_front key cells front slot back t.rises in
      let behind = apart_back key cells front slot back t.rises in
      let new : List Cell = slice_set cells slot (Live row) in
      let fragment : IsFragment key new (front ++ slot ∷ back) = fragment_same_keys key new cells (front ++ slot ∷ back) (same_keys_set key cells slot (Dead row) (Live row) is refl) t
      (keyed_set key cells slot (Dead row) (Live row) is (λ r e. t.keyed slot r (ap (option_and_then row_in) is ∙ e)) t.keyed)
      (single_more key cells (front ++ slot ∷ back) slot (Dead row) row t is none) in
      let old_list : live_list cells key (front ++ slot ∷ back) ≡ live_list cells key front ++ live_list cells key back = live_old key cells front slot back in_front behind (Dead row) (Live row) is in
      let new_list : live_list new key (front ++ slot ∷ back) ≡ live_list cells key front ++ (k, (slot, row)) ∷ live_list cells key back = live_new key cells front slot back in_front behind (Dead row) (Live row) is in
      let old_dead : dead_list cells (front ++ slot ∷ back) ≡ dead_list cells front ++ (slot, row) ∷ dead_list cells back = dead_old key cells front slot back in_front behind (Dead row) (Live row) is in
      let new_dead : dead_list new (front ++ slot ∷ back) ≡ dead_list cells front ++ dead_list cells back = dead_new key cells front slot back in_front behind (Dead row) (Live row) is in
      let live_is : finite.from_sorted {R = row_cmp} (live_list new key (front ++ slot ∷ back)) ≡ finite.insert (finite.from_sorted {R = row_cmp} (live_list cells key (front ++ slot ∷ back))) k (slot, row) =
      ap (finite.from_sorted {R = row_cmp}) new_list
      ∙ plus_is row_cmp row_cmp_total row_cmp-IsAntisymmetric (live_list cells key front) k (slot, row) (live_list cells key back)
      (subst (λ es. T (entries.is_sorted row_cmp es)) new_list (sorted_live key new fragment.single (front ++ slot ∷ back) fragment.rises))
      (subst (λ es. T (entries.is_sorted row_cmp es)) old_list (sorted_live key cells t.single (front ++ slot ∷ back) t.rises))
      ∙ sym (ap (λ es. finite.insert (finite.from_sorted {R = row_cmp} es) k (slot, row)) old_list) in
      let dead_is : finite.from_entries {R = nat_cmp} (dead_list new (front ++ slot ∷ back)) ≡ finite.remove (finite.from_entries {R = nat_cmp} (dead_list cells (front ++ slot ∷ back))) slot =
      ap (finite.from_entries {R = nat_cmp}) new_dead
      ∙ minus_loose nat_cmp nat_cmp_total nat_cmp-IsAntisymmetric (dead_list cells front) slot row (dead_list cells back) (none_dead key cells front slot back in_front behind (Dead row) (Live row) is)
      ∙ sym (ap (λ es. finite.remove (finite.from_entries {R = nat_cmp} es) slot) old_dead) in
      let h : FragmentValue = fragment_of key cells (front ++ slot ∷ back) in
      let row_is : finite.get h.dead slot ≡ Some row = dead_row_at key cells front slot back in_front behind (Dead row) (Live row) is row old_dead in
      record {
        fragment = fragment;
        count_is = let a = ap length old_list in let b = ap length new_list in omega (arith, counted, a, b, length-append (live_list cells key front) ((k, (slot, row)) ∷ live_list cells key back), length-append (live_list cells key front) (live_list cells key back));
        view = (λ i. record { key = key; live = live_is i; dead = dead_is i }) ∙ sym (ap (unmark_row h slot) row_is);
      }
    where
      dead_row_at : (key : List ℕ) (cells : List Cell) (front : List ℕ) (slot : ℕ) (back : List ℕ) (in_front : Apart slot front) (behind : Apart slot back) (was now : Cell) (is : slice_get cells slot ≡ Some was) (row : Row)
          → dead_list cells (front ++ slot ∷ back) ≡ dead_list cells front ++ (slot, row) ∷ dead_list cells back → finite.get (finite.from_entries {R = nat_cmp} (dead_list cells (front ++ slot ∷ back))) slot ≡ Some row
      dead_row_at key cells front slot back in_front behind was now is row list =
          dead_get cells (front ++ slot ∷ back) slot ∙ ap (entries.find nat_cmp slot) list ∙ find-past nat_cmp slot (dead_list cells front) ((slot, row) ∷ dead_list cells back) (no_dead cells slot front in_front)
          ∙ ap (λ r. cond (is_eq r) (Some row) (entries.find nat_cmp slot (dead_list cells back))) (tied_itself nat_cmp_total slot)

  pub unmarked_is : (slots : List ℕ) → IsFragment key cells slots → (n : ℕ) → n ≡ length (live_list cells key slots) → entries.find row_cmp (key_of key row) (live_list cells key slots) ≡ None
      → Turns key (slice_set cells slot (Live row)) slots (n + 1) (unmark (fragment_of key cells slots) slot)
  unmarked_is slots t =
      let a = around slots slot (t.listed slot row (ap (option_and_then row_in) is)) in
      let P : List ℕ → Type 0 = λ s. IsFragment key cells s → (n : ℕ) → n ≡ length (live_list cells key s) → entries.find row_cmp (key_of key row) (live_list cells key s) ≡ None → Turns key (slice_set cells slot (Live row)) s (n + 1) (unmark (fragment_of key cells s) slot) in
      subst P (sym a.is) (unmarked_at a.front a.back) t

-- ---- as the calls do it

module _ (key : List ℕ) (cells made : List Cell) (marks : List PrefixedSlot) (count spare : ℕ) (h : FragmentValue) (slot : ℕ) (kept : FragmentInvariant key cells marks count spare) (view : fragment_of key cells (slots_of marks) ≡ h) where
  pub mark_step : is_some (row_at h.live slot) ≡ true → IfSome (row_of cells slot) (λ row. made ≡ slice_set cells slot (Dead row)) → Becomes key made marks (count - 1) spare (mark_dead h slot)
  mark_step some wrote =
      let l = live_slot key cells (slots_of marks) h slot kept.fragment view some in
      let put : made ≡ slice_set cells slot (Dead l.0) = if_some_at (row_of cells slot) l.0 (λ row. made ≡ slice_set cells slot (Dead row)) (row_some cells slot (Live l.0) l.0 l.1 refl) wrote in
      becomes key made marks (count - 1) spare (mark_dead h slot)
      (settled key made (slice_set cells slot (Dead l.0)) (slots_of marks) (count - 1) (mark_dead h slot) put
      (subst (λ x. Turns key (slice_set cells slot (Dead l.0)) (slots_of marks) (count - 1) (mark_dead x slot)) view (marked_is key cells slot l.0 l.1 (slots_of marks) kept.fragment count kept.counted)))
      (marked_same key made cells marks (positions_set key cells made slot (Live l.0) (Dead l.0) l.1 refl put) kept.marked)
      (kept.spared ∙ sym (ap length put ∙ length_set cells slot (Dead l.0))) (few_still cells made slot (Dead l.0) put kept.few)

  pub unmark_step : is_some (finite.get h.dead slot) ≡ true → IfSome (finite.get h.dead slot) (λ row. finite.get h.live (key_of h.key row) ≡ None) → IfSome (row_of cells slot) (λ row. made ≡ slice_set cells slot (Live row)) → Becomes key made marks (count + 1) spare (unmark h slot)
  unmark_step some free wrote =
      let l = dead_slot key cells (slots_of marks) h slot kept.fragment view some in
      let put : made ≡ slice_set cells slot (Live l.0) = if_some_at (row_of cells slot) l.0 (λ row. made ≡ slice_set cells slot (Live row)) (row_some cells slot (Dead l.0) l.0 l.1 refl) wrote in
      let has : finite.get h.dead slot ≡ Some l.0 = sym (ap (λ (x : FragmentValue). finite.get x.dead slot) view) ∙ dead_at_is key cells (slots_of marks) slot kept.fragment ∙ ap dead_row l.1 in
      let gone : finite.get h.live (key_of h.key l.0) ≡ None = if_some_at (finite.get h.dead slot) l.0 (λ row. finite.get h.live (key_of h.key row) ≡ None) has free in
      let none : entries.find row_cmp (key_of key l.0) (live_list cells key (slots_of marks)) ≡ None = sym (live_of_held key cells (slots_of marks) h (key_of key l.0) kept.fragment view) ∙ ap (λ (x : FragmentValue). finite.get h.live (key_of x.key l.0)) view ∙ gone in
      becomes key made marks (count + 1) spare (unmark h slot)
      (settled key made (slice_set cells slot (Live l.0)) (slots_of marks) (count + 1) (unmark h slot) put
      (subst (λ x. Turns key (slice_set cells slot (Live l.0)) (slots_of marks) (count + 1) (unmark x slot)) view (unmarked_is key cells slot l.0 l.1 (slots_of marks) kept.fragment count kept.counted none)))
      (marked_same key made cells marks (positions_set key cells made slot (Dead l.0) (Live l.0) l.1 refl put) kept.marked)
      (kept.spared ∙ sym (ap length put ∙ length_set cells slot (Live l.0))) (few_still cells made slot (Live l.0) put kept.few)
