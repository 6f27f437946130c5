-- A row replaced by another of its key.
use Rattle.std.proofs.Common.{◌≡◌, ℕ, true, List, ◌∷◌, ◌++◌, length, refl, sym, ap, subst, ◌∙◌, Option, Some, T, inl, inr, arith, slice_get, slice_set, length-append}
use Rattle.std.specs.Option.{option_and_then, is_some, IfSome}
use Rattle.std.specs.Ordering.{nat_cmp}
use Rattle.std.specs.FinMap as finite
use Rattle.std.specs.FinMap.Entries as entries
use Rattle.ss_value.specs.Order.{row_cmp}
use Rattle.ss_fragment.specs.declared.cell.Cell.{Cell}
use Rattle.ss_fragment.specs.declared.cell.Cell.TheVariants.{Live}
use Rattle.ss_fragment.specs.Cells.{row_in, live_row}
use Rattle.ss_value.specs.Rows.{Row}
use Rattle.ss_value.specs.ValueOrder.{row_cmp_total, row_cmp-IsAntisymmetric}
use Rattle.ss_fragment.specs.FragmentValue.{FragmentValue, key_of, HasKey, row_at, replace}
use Rattle.ss_fragment.specs.Invariant.{live_list, dead_list, fragment_of, IsFragment, FragmentInvariant}
use Rattle.ss_fragment.proofs.Cells.{sorted_live, get_set_other, get_set_same, around}
use Rattle.ss_fragment.proofs.Steps.{swap_is, apart_front, apart_back}
use Rattle.ss_fragment.specs.declared.mark.PrefixedSlot.{PrefixedSlot}
use Rattle.ss_fragment.specs.Chunks.{slots_of}
use Rattle.ss_fragment.proofs.Answered.{row_at_is, is_same}
use Rattle.ss_fragment.proofs.Cases.{if_some_at, length_set}
use Rattle.ss_fragment.proofs.Turned.{Turns, Becomes, becomes, fragment_same_keys, live_old, live_new, dead_old, dead_new, same_keys_set, keyed_set, marked_same, positions_set, live_slot, settled, few_still}
use Rattle.ss_fragment.proofs.Keys.{has_same}

-- a row that is live after one row was replaced, under its key before
live_key_before : (key : List ℕ) (cells : List Cell) (slot : ℕ) (row other : Row) → slice_get cells slot ≡ Some (Live row) → key_of key other ≡ key_of key row → (s : ℕ) (a : Row) → slice_get (slice_set cells slot (Live other)) s ≡ Some (Live a)
    → (b : Row) × (slice_get cells s ≡ Some (Live b)) × (key_of key a ≡ key_of key b)
live_key_before key cells slot row other is keys s a e = elim (is_same s slot) [
  | inl q ↦ (row, (subst (λ t. slice_get cells t ≡ Some (Live row)) (sym q) is), ap (key_of key) (sym (here q)) ∙ keys)
  | inr n ↦ (a, (sym (get_set_other cells slot s (Live other) n) ∙ e), refl)
]
  where
    here : s ≡ slot → other ≡ a
    here p = let x : Some (Live other) ≡ Some (Live a) = sym (get_set_same cells slot (Live other) (Live row) is) ∙ subst (λ w. slice_get (slice_set cells slot (Live other)) w ≡ Some (Live a)) p e in cc

module _ (key : List ℕ) (cells : List Cell) (slot : ℕ) (row other : Row) (is : slice_get cells slot ≡ Some (Live row)) (has : HasKey key other) (keys : key_of key other ≡ key_of key row) where
  replaced_at : (front back : List ℕ) → IsFragment key cells (front ++ slot ∷ back) → (n : ℕ) → n ≡ length (live_list cells key (front ++ slot ∷ back))
      → Turns key (slice_set cells slot (Live other)) (front ++ slot ∷ back) n (replace (fragment_of key cells (front ++ slot ∷ back)) slot other)
  replaced_at front back t n counted =
      let k : Row = key_of key other in
      let in_front = apart_front key cells front slot back t.rises in
      let behind = apart_back key cells front slot back t.rises in
      let new : List Cell = slice_set cells slot (Live other) in
      let fragment : IsFragment key new (front ++ slot ∷ back) = fragment_same_keys key new cells (front ++ slot ∷ back) (same_keys_set key cells slot (Live row) (Live other) is (ap Some keys)) t
      (keyed_set key cells slot (Live row) (Live other) is (λ r e. subst (HasKey key) (let x : Some other ≡ Some r = e in cc) has) t.keyed)
      (λ s u a b e f same.
      let x = live_key_before key cells slot row other is keys s a e in
      let y = live_key_before key cells slot row other is keys u b f in
      t.single s u x.0 y.0 x.1 y.1 (sym x.2 ∙ same ∙ y.2)) in
      let old_list : live_list cells key (front ++ slot ∷ back) ≡ live_list cells key front ++ (k, (slot, row)) ∷ live_list cells key back =
      live_old key cells front slot back in_front behind (Live row) (Live other) is ∙ ap (λ q. live_list cells key front ++ (q, (slot, row)) ∷ live_list cells key back) (sym keys) in
      let new_list : live_list new key (front ++ slot ∷ back) ≡ live_list cells key front ++ (k, (slot, other)) ∷ live_list cells key back = live_new key cells front slot back in_front behind (Live row) (Live other) is in
      let old_dead : dead_list cells (front ++ slot ∷ back) ≡ dead_list cells front ++ dead_list cells back = dead_old key cells front slot back in_front behind (Live row) (Live other) is in
      let new_dead : dead_list new (front ++ slot ∷ back) ≡ dead_list cells front ++ dead_list cells back = dead_new key cells front slot back in_front behind (Live row) (Live other) is in
      let live_is : finite.from_sorted {R = row_cmp} (live_list new key (front ++ slot ∷ back)) ≡ finite.insert (finite.from_sorted {R = row_cmp} (live_list cells key (front ++ slot ∷ back))) k (slot, other) =
      ap (finite.from_sorted {R = row_cmp}) new_list
      ∙ swap_is row_cmp row_cmp_total row_cmp-IsAntisymmetric (live_list cells key front) k (slot, row) (live_list cells key back) (slot, other)
      (subst (λ es. T (entries.is_sorted row_cmp es)) old_list (sorted_live key cells t.single (front ++ slot ∷ back) t.rises))
      (subst (λ es. T (entries.is_sorted row_cmp es)) new_list (sorted_live key new fragment.single (front ++ slot ∷ back) fragment.rises))
      ∙ sym (ap (λ es. finite.insert (finite.from_sorted {R = row_cmp} es) k (slot, other)) old_list) in
      let dead_is : finite.from_entries {R = nat_cmp} (dead_list new (front ++ slot ∷ back)) ≡ finite.from_entries {R = nat_cmp} (dead_list cells (front ++ slot ∷ back)) = ap (finite.from_entries {R = nat_cmp}) (new_dead ∙ sym old_dead) in
      record {
        fragment = fragment;
        count_is = let a = ap length old_list in let b = ap length new_list in omega (arith, counted, a, b, length-append (live_list cells key front) ((k, (slot, row)) ∷ live_list cells key back), length-append (live_list cells key front) ((k, (slot, other)) ∷ live_list cells key back));
        view = λ i. record { key = key; live = live_is i; dead = dead_is i };
      }

  pub replaced_is : (slots : List ℕ) → IsFragment key cells slots → (n : ℕ) → n ≡ length (live_list cells key slots)
      → Turns key (slice_set cells slot (Live other)) slots n (replace (fragment_of key cells slots) slot other)
  replaced_is slots t =
      let a = around slots slot (t.listed slot row (ap (option_and_then row_in) is)) in
      let P : List ℕ → Type 0 = λ s. IsFragment key cells s → (n : ℕ) → n ≡ length (live_list cells key s) → Turns key (slice_set cells slot (Live other)) s n (replace (fragment_of key cells s) slot other) in
      subst P (sym a.is) (replaced_at a.front a.back) t

-- ---- as the call does it

module _ (key : List ℕ) (cells made : List Cell) (marks : List PrefixedSlot) (count spare : ℕ) (h : FragmentValue) (slot : ℕ) (kept : FragmentInvariant key cells marks count spare) (view : fragment_of key cells (slots_of marks) ≡ h) where
  pub replace_step : (other : Row) → is_some (row_at h.live slot) ≡ true → IfSome (row_at h.live slot) (λ old. key_of h.key other ≡ key_of h.key old) → made ≡ slice_set cells slot (Live other) → Becomes key made marks count spare (replace h slot other)
  replace_step other some same put =
      let l = live_slot key cells (slots_of marks) h slot kept.fragment view some in
      let row_is : row_at h.live slot ≡ Some l.0 = sym (ap (λ (x : FragmentValue). row_at x.live slot) view) ∙ row_at_is key cells (slots_of marks) slot kept.fragment ∙ ap live_row l.1 in
      let keys : key_of h.key other ≡ key_of h.key l.0 = if_some_at (row_at h.live slot) l.0 (λ old. key_of h.key other ≡ key_of h.key old) row_is same in
      let here : key ≡ h.key = ap (λ (x : FragmentValue). x.key) view in
      let Q : List ℕ → Type 0 = λ k. key_of k other ≡ key_of k l.0 in
      let alike : key_of key other ≡ key_of key l.0 = subst Q (sym here) keys in
      let has : HasKey key other = has_same key other l.0 (kept.fragment.keyed slot l.0 (ap (option_and_then row_in) l.1)) alike in
      becomes key made marks count spare (replace h slot other)
      (settled key made (slice_set cells slot (Live other)) (slots_of marks) count (replace h slot other) put
      (subst (λ x. Turns key (slice_set cells slot (Live other)) (slots_of marks) count (replace x slot other)) view (replaced_is key cells slot l.0 other l.1 has alike (slots_of marks) kept.fragment count kept.counted)))
      (marked_same key made cells marks (positions_set key cells made slot (Live l.0) (Live other) l.1 (ap Some alike) put) kept.marked)
      (kept.spared ∙ sym (ap length put ∙ length_set cells slot (Live other))) (few_still cells made slot (Live other) put kept.few)
