-- A slot freed.
use Rattle.std.proofs.Common.{◌≡◌, ℕ, suc, ◌+◌, ◌-◌, Bool, true, false, not, List, [], ◌∷◌, ◌++◌, length, map, refl, sym, ap, subst, ◌∙◌, Option, Some, None, T, inl, inr, arith, slice_get, slice_set, length-append}
use Rattle.std.specs.List.{AllByRecursion, remove}
use Rattle.std.specs.Prelude.{IsSome}
use Rattle.std.specs.Option.{option_map_or, option_and_then, is_some}
use Rattle.std.specs.Ordering.{nat_cmp, is_lt}
use Rattle.std.specs.declared.cmp.Ordering.TheVariants.{Less}
use Rattle.std.proofs.lemmas.Cmp.{tied_itself, nat_cmp_total}
use Rattle.std.specs.FinMap as finite
use Rattle.std.specs.FinMap.{nat_cmp-IsAntisymmetric}
use Rattle.std.specs.FinMap.Entries as entries
use Rattle.ss_value.specs.Order.{row_cmp}
use Rattle.ss_fragment.specs.declared.cell.Cell.{Cell}
use Rattle.ss_fragment.specs.declared.cell.Cell.TheVariants.{Free, Live, Dead}
use Rattle.ss_fragment.specs.Cells.{row_of, row_in, live_row}
use Rattle.ss_fragment.specs.Near.{LostMark}
use Rattle.ss_fragment.specs.Targets.{is_before_slot, slot_rank}
use Rattle.ss_value.specs.Rows.{Row}
use Rattle.ss_value.specs.ValueOrder.{row_cmp_total, row_cmp-IsAntisymmetric}
use Rattle.ss_fragment.specs.FragmentValue.{FragmentValue, key_of, HasKey, row_at, remove_fresh, remove_fresh_row, purge}
use Rattle.ss_fragment.specs.Invariant.{order_cmp, order_key, live_list, dead_list, fragment_of, Rises, Among, IsFragment, IsMark, FragmentInvariant}
use Rattle.ss_fragment.proofs.Rising.{every_with, every_map, every-append, every_front, every_back, rises_remove, rank_at}
use Rattle.ss_fragment.proofs.Keys.{positions_total}
use Rattle.ss_fragment.proofs.Cells.{sorted_live, get_set_other, get_set_same, among_less, same_tests}
use Rattle.ss_fragment.proofs.Steps.{minus_is, minus_loose, map_mid, map_two, Apart, apart_front, apart_back, before_front}
use Rattle.ss_fragment.specs.declared.mark.PrefixedSlot.{PrefixedSlot}
use Rattle.ss_fragment.specs.Chunks.{slots_of}
use Rattle.ss_fragment.proofs.Answered.{row_at_is}
use Rattle.ss_fragment.proofs.Cases.{length_set}
use Rattle.ss_fragment.proofs.Turned.{Turns, Becomes, becomes, live_old, live_gone, dead_old, dead_gone, none_dead, live_before, keyed_set, marked_off, positions_apart, live_slot, dead_slot, settled, few_still}

rank_step : (key : List ℕ) (cells : List Cell) (front : List ℕ) (slot : ℕ) (back : List ℕ) (row : Row) → IsFragment key cells (front ++ slot ∷ back) → row_of cells slot ≡ Some row → slot_rank cells key false row slot (front ++ slot ∷ back) ≡ length front
rank_step key cells front slot back row t e =
    let has : HasKey key row = t.keyed slot row e in
    let here : order_key cells key slot ≡ (key_of key row, slot) = ap (λ o. (option_map_or (key_of key) o [], slot)) e in
    let p : ℕ → Bool = is_before_slot cells key false row slot in
    let tests : AllByRecursion (λ s. is_before_slot cells key false row slot s ≡ is_lt (order_cmp (order_key cells key s) (key_of key row, slot))) (front ++ slot ∷ back) = same_tests key cells (front ++ slot ∷ back) false row slot t (λ _. has) in
    let in_front : AllByRecursion (λ s. is_before_slot cells key false row slot s ≡ true) front =
    every_with (λ s. is_before_slot cells key false row slot s ≡ is_lt (order_cmp (order_key cells key s) (key_of key row, slot))) (λ s. order_cmp (order_key cells key s) (order_key cells key slot) ≡ Less) (λ s. is_before_slot cells key false row slot s ≡ true) front
    (λ s same low. same ∙ ap is_lt (ap (order_cmp (order_key cells key s)) (sym here) ∙ low))
    (every_front (λ s. is_before_slot cells key false row slot s ≡ is_lt (order_cmp (order_key cells key s) (key_of key row, slot))) front (slot ∷ back) tests) (before_front key cells front slot back t.rises) in
    let rest = every_back (λ s. is_before_slot cells key false row slot s ≡ is_lt (order_cmp (order_key cells key s) (key_of key row, slot))) front (slot ∷ back) tests in
    let not_here : is_before_slot cells key false row slot slot ≡ false = rest.0 ∙ ap is_lt (ap (λ q. order_cmp q (key_of key row, slot)) here ∙ tied_itself positions_total (key_of key row, slot)) in
    rank_at (is_before_slot cells key false row slot) front slot back in_front not_here

remove_mid : {A : Type 0} (front : List A) (x : A) (back : List A) → remove (front ++ x ∷ back) (length front) ≡ front ++ back
remove_mid [] x back = refl
remove_mid (y ∷ ys) x back = ap (λ l. y ∷ l) (remove_mid ys x back)

slots_long : (marks : List PrefixedSlot) → length (slots_of marks) ≡ length marks
slots_long [] = refl
slots_long (m ∷ ms) = ap suc (slots_long ms)

slots_mid : (front : List PrefixedSlot) (mark : PrefixedSlot) (back : List PrefixedSlot) (slot : ℕ) → mark.slot ≡ slot → slots_of (front ++ mark ∷ back) ≡ slots_of front ++ slot ∷ slots_of back
slots_mid front mark back slot here = map_mid (λ (m : PrefixedSlot). m.slot) front mark back ∙ ap (λ s. slots_of front ++ s ∷ slots_of back) here

-- what is taken out at a slot's position is its mark
pub unlinked : (key : List ℕ) (cells : List Cell) (marks gone : List PrefixedSlot) (slot : ℕ) (row : Row) → IsFragment key cells (slots_of marks) → row_of cells slot ≡ Some row → gone ≡ remove marks (slot_rank cells key false row slot (slots_of marks))
    → (front back : List PrefixedSlot) (mark : PrefixedSlot) → marks ≡ front ++ mark ∷ back → mark.slot ≡ slot → gone ≡ front ++ back
unlinked key cells marks gone slot row t e is front back mark at here =
    let slots : slots_of marks ≡ slots_of front ++ slot ∷ slots_of back = ap slots_of at ∙ slots_mid front mark back slot here in
    let place : slot_rank cells key false row slot (slots_of marks) ≡ length front =
    ap (slot_rank cells key false row slot) slots ∙ rank_step key cells (slots_of front) slot (slots_of back) row (subst (IsFragment key cells) slots t) e ∙ slots_long front in
    is ∙ (λ i. remove (at i) (place i)) ∙ remove_mid front mark back

-- so is what is taken out as a slot's mark, wherever it was found
pub unlinked_near : (key : List ℕ) (cells : List Cell) (marks gone : List PrefixedSlot) (slot : ℕ) → IsFragment key cells (slots_of marks) → IsSome (row_of cells slot) → LostMark marks gone slot
    → (front back : List PrefixedSlot) (mark : PrefixedSlot) → marks ≡ front ++ mark ∷ back → mark.slot ≡ slot → gone ≡ front ++ back
unlinked_near key cells marks gone slot t some lost front back mark at here = by (row_of cells slot) refl some
  where
    by : (o : Option Row) → row_of cells slot ≡ o → IsSome o → gone ≡ front ++ back
    by None e s = cc
    by (Some row) e s =
        let place : List PrefixedSlot = remove marks (slot_rank cells key false row slot (slots_of marks)) in
        lost.is ∙ sym (unlinked key cells marks place slot row t e refl lost.front lost.back lost.mark lost.was lost.here) ∙ unlinked key cells marks place slot row t e refl front back mark at here

record AroundMark (marks : List PrefixedSlot) (slot : ℕ) : Type 0 where
  front : List PrefixedSlot
  mark : PrefixedSlot
  back : List PrefixedSlot
  is : marks ≡ front ++ mark ∷ back
  here : mark.slot ≡ slot

around_mark : (marks : List PrefixedSlot) (slot : ℕ) → Among slot (slots_of marks) → AroundMark marks slot
around_mark [] slot h = absurd h
around_mark (m ∷ ms) slot (inl e) = record { front = []; mark = m; back = ms; is = refl; here = e }
around_mark (m ∷ ms) slot (inr h) = let r = around_mark ms slot h in record { front = m ∷ r.front; mark = r.mark; back = r.back; is = ap (λ l. m ∷ l) r.is; here = r.here }

held_less : (cells : List Cell) (slot n : ℕ) (slots : List ℕ) → Apart slot slots → AllByRecursion (λ s. (row : Row) × (row_of cells s ≡ Some row)) slots → AllByRecursion (λ s. (row : Row) × (row_of (slice_set cells slot (Free n)) s ≡ Some row)) slots
held_less cells slot n slots a h = every_with (λ s. s ≡ slot → ⊥) (λ s. (row : Row) × (row_of cells s ≡ Some row)) (λ s. (row : Row) × (row_of (slice_set cells slot (Free n)) s ≡ Some row)) slots
    (λ s apart r. (r.0, (ap (option_and_then row_in) (get_set_other cells slot s (Free n) apart) ∙ r.1))) a h

module _ (key : List ℕ) (cells : List Cell) (front : List ℕ) (slot : ℕ) (back : List ℕ) (was : Cell) (n : ℕ) (is : slice_get cells slot ≡ Some was) (t : IsFragment key cells (front ++ slot ∷ back)) where
  pub fragment_less : IsFragment key (slice_set cells slot (Free n)) (front ++ back)
  fragment_less =
      let in_front = apart_front key cells front slot back t.rises in
      let behind = apart_back key cells front slot back t.rises in
      let held_rest = every_back (λ s. (row : Row) × (row_of cells s ≡ Some row)) front (slot ∷ back) t.held in
      let ups : Rises order_cmp (map (order_key cells key) front ++ map (order_key cells key) back) =
      rises_remove positions_total (map (order_key cells key) front) (map (order_key cells key) back) (order_key cells key slot) (subst (Rises order_cmp) (map_mid (order_key cells key) front slot back) t.rises) in
      let other : (s : ℕ) (row : Row) → row_of (slice_set cells slot (Free n)) s ≡ Some row → s ≡ slot → ⊥ = λ s row e q.
      let no : None ≡ Some row = sym (ap (option_and_then row_in) (get_set_same cells slot (Free n) was is)) ∙ subst (λ u. row_of (slice_set cells slot (Free n)) u ≡ Some row) q e in absurd (not_some row no) in
      record {
        held = every-append (λ s. (row : Row) × (row_of (slice_set cells slot (Free n)) s ≡ Some row)) front back
            (held_less cells slot n front in_front (every_front (λ s. (row : Row) × (row_of cells s ≡ Some row)) front (slot ∷ back) t.held))
            (held_less cells slot n back behind held_rest.1);
        listed = λ s row e. among_less front back slot s (other s row e) (t.listed s row (ap (option_and_then row_in) (sym (get_set_other cells slot s (Free n) (other s row e))) ∙ e));
        rises = subst (Rises order_cmp) (sym (map_two (order_key (slice_set cells slot (Free n)) key) front back ∙ (λ i. positions_apart key cells slot (Free n) front in_front i ++ positions_apart key cells slot (Free n) back behind i))) ups;
        keyed = keyed_set key cells slot was (Free n) is (λ r e. absurd (not_some r e)) t.keyed;
        single = λ s u a b e f same. t.single s u a b (live_before cells slot was (Free n) is refl s a e) (live_before cells slot was (Free n) is refl u b f) same;
      }
    where
      not_some : (r : Row) → None ≡ Some r → ⊥
      not_some r e = elim (subst (λ b. T (not b)) (ap is_some e) tt) [ ]

module _ (key : List ℕ) (cells : List Cell) (front : List ℕ) (slot : ℕ) (back : List ℕ) (row : Row) (next : ℕ) (t : IsFragment key cells (front ++ slot ∷ back)) (n : ℕ) (counted : n ≡ length (live_list cells key (front ++ slot ∷ back))) where
  removed_at : slice_get cells slot ≡ Some (Live row) → Turns key (slice_set cells slot (Free next)) (front ++ back) (n - 1) (remove_fresh (fragment_of key cells (front ++ slot ∷ back)) slot)
  removed_at is =
      let k : Row = key_of key row in
      let in_front = apart_front key cells front slot back t.rises in
      let behind = apart_back key cells front slot back t.rises in
      let made : List Cell = slice_set cells slot (Free next) in
      let fragment : IsFragment key made (front ++ back) = fragment_less key cells front slot back (Live row) next is t in
      let old_list : live_list cells key (front ++ slot ∷ back) ≡ live_list cells key front ++ (k, (slot, row)) ∷ live_list cells key back = live_old key cells front slot back in_front behind (Live row) (Free next) is in
      let new_list : live_list made key (front ++ back) ≡ live_list cells key front ++ live_list cells key back = live_gone key cells front slot back in_front behind (Live row) (Free next) is in
      let old_dead : dead_list cells (front ++ slot ∷ back) ≡ dead_list cells front ++ dead_list cells back = dead_old key cells front slot back in_front behind (Live row) (Free next) is in
      let new_dead : dead_list made (front ++ back) ≡ dead_list cells front ++ dead_list cells back = dead_gone key cells front slot back in_front behind (Live row) (Free next) is in
      let live_is : finite.from_sorted {R = row_cmp} (live_list made key (front ++ back)) ≡ finite.remove (finite.from_sorted {R = row_cmp} (live_list cells key (front ++ slot ∷ back))) k =
      ap (finite.from_sorted {R = row_cmp}) new_list
      ∙ minus_is row_cmp row_cmp_total row_cmp-IsAntisymmetric (live_list cells key front) k (slot, row) (live_list cells key back)
      (subst (λ es. T (entries.is_sorted row_cmp es)) old_list (sorted_live key cells t.single (front ++ slot ∷ back) t.rises))
      (subst (λ es. T (entries.is_sorted row_cmp es)) new_list (sorted_live key made fragment.single (front ++ back) fragment.rises))
      ∙ sym (ap (λ es. finite.remove (finite.from_sorted {R = row_cmp} es) k) old_list) in
      let h : FragmentValue = fragment_of key cells (front ++ slot ∷ back) in
      let row_is : row_at h.live slot ≡ Some row = row_at_is key cells (front ++ slot ∷ back) slot t ∙ ap live_row is in
      record {
        fragment = fragment;
        count_is = let a = ap length old_list in let b = ap length new_list in omega (arith, counted, a, b, length-append (live_list cells key front) ((k, (slot, row)) ∷ live_list cells key back), length-append (live_list cells key front) (live_list cells key back));
        view = (λ i. record { key = key; live = live_is i; dead = ap (finite.from_entries {R = nat_cmp}) (new_dead ∙ sym old_dead) i }) ∙ sym (ap (remove_fresh_row h) row_is);
      }

  purged_at : slice_get cells slot ≡ Some (Dead row) → Turns key (slice_set cells slot (Free next)) (front ++ back) n (purge (fragment_of key cells (front ++ slot ∷ back)) slot)
  purged_at is =
      let in_front = apart_front key cells front slot back t.rises in
      let behind = apart_back key cells front slot back t.rises in
      let made : List Cell = slice_set cells slot (Free next) in
      let fragment : IsFragment key made (front ++ back) = fragment_less key cells front slot back (Dead row) next is t in
      let old_list : live_list cells key (front ++ slot ∷ back) ≡ live_list cells key front ++ live_list cells key back = live_old key cells front slot back in_front behind (Dead row) (Free next) is in
      let new_list : live_list made key (front ++ back) ≡ live_list cells key front ++ live_list cells key back = live_gone key cells front slot back in_front behind (Dead row) (Free next) is in
      let old_dead : dead_list cells (front ++ slot ∷ back) ≡ dead_list cells front ++ (slot, row) ∷ dead_list cells back = dead_old key cells front slot back in_front behind (Dead row) (Free next) is in
      let new_dead : dead_list made (front ++ back) ≡ dead_list cells front ++ dead_list cells back = dead_gone key cells front slot back in_front behind (Dead row) (Free next) is in
      let dead_is : finite.from_entries {R = nat_cmp} (dead_list made (front ++ back)) ≡ finite.remove (finite.from_entries {R = nat_cmp} (dead_list cells (front ++ slot ∷ back))) slot =
      ap (finite.from_entries {R = nat_cmp}) new_dead
      ∙ minus_loose nat_cmp nat_cmp_total nat_cmp-IsAntisymmetric (dead_list cells front) slot row (dead_list cells back) (none_dead key cells front slot back in_front behind (Dead row) (Free next) is)
      ∙ sym (ap (λ es. finite.remove (finite.from_entries {R = nat_cmp} es) slot) old_dead) in
      record {
        fragment = fragment;
        count_is = counted ∙ ap length (old_list ∙ sym new_list);
        view = λ i. record { key = key; live = ap (finite.from_sorted {R = row_cmp}) (new_list ∙ sym old_list) i; dead = dead_is i };
      }

-- ---- as the calls do it

module _ (key : List ℕ) (cells made : List Cell) (marks left : List PrefixedSlot) (count spare next : ℕ) (h : FragmentValue) (slot : ℕ) (kept : FragmentInvariant key cells marks count spare) (view : fragment_of key cells (slots_of marks) ≡ h)
    (wrote : made ≡ slice_set cells slot (Free next)) (out : (front back : List PrefixedSlot) (mark : PrefixedSlot) → marks ≡ front ++ mark ∷ back → mark.slot ≡ slot → left ≡ front ++ back) where
  around_slots : (a : AroundMark marks slot) → slots_of marks ≡ slots_of a.front ++ slot ∷ slots_of a.back
  around_slots a = ap slots_of a.is ∙ slots_mid a.front a.mark a.back slot a.here

  around_fragment : (a : AroundMark marks slot) → IsFragment key cells (slots_of a.front ++ slot ∷ slots_of a.back)
  around_fragment a = subst (IsFragment key cells) (around_slots a) kept.fragment

  left_slots : (a : AroundMark marks slot) → slots_of left ≡ slots_of a.front ++ slots_of a.back
  left_slots a = ap slots_of (out a.front a.back a.mark a.is a.here) ∙ map_two (λ (m : PrefixedSlot). m.slot) a.front a.back

  left_marked : (a : AroundMark marks slot) → AllByRecursion (IsMark key made) left
  left_marked a =
      let t = around_fragment a in
      let in_front : AllByRecursion (λ m. m.slot ≡ slot → ⊥) a.front = every_map (λ s. s ≡ slot → ⊥) (λ (m : PrefixedSlot). m.slot) a.front (apart_front key cells (slots_of a.front) slot (slots_of a.back) t.rises) in
      let behind : AllByRecursion (λ m. m.slot ≡ slot → ⊥) a.back = every_map (λ s. s ≡ slot → ⊥) (λ (m : PrefixedSlot). m.slot) a.back (apart_back key cells (slots_of a.front) slot (slots_of a.back) t.rises) in
      let all : AllByRecursion (IsMark key cells) (a.front ++ a.mark ∷ a.back) = subst (AllByRecursion (IsMark key cells)) a.is kept.marked in
      let rest = every_back (IsMark key cells) a.front (a.mark ∷ a.back) all in
      let both : AllByRecursion (IsMark key (slice_set cells slot (Free next))) (a.front ++ a.back) = every-append (IsMark key (slice_set cells slot (Free next))) a.front a.back
      (marked_off key cells slot (Free next) a.front in_front (every_front (IsMark key cells) a.front (a.mark ∷ a.back) all)) (marked_off key cells slot (Free next) a.back behind rest.1) in
      let P : List Cell → List PrefixedSlot → Type 0 = λ c m. AllByRecursion (IsMark key c) m in
      subst (λ c. P c left) (sym wrote) (subst (P (slice_set cells slot (Free next))) (sym (out a.front a.back a.mark a.is a.here)) both)

  left_spared : (a : AroundMark marks slot) → length (slots_of left) + (spare + 1) ≡ length made
  left_spared a =
      let gone = ap length (out a.front a.back a.mark a.is a.here) in
      let all = ap length a.is in
      let made_long = ap length wrote in
      let was = kept.spared in
      omega (arith, gone, all, made_long, was, slots_long left, slots_long marks, length_set cells slot (Free next), length-append a.front a.back, length-append a.front (a.mark ∷ a.back))

  pub remove_step : is_some (row_at h.live slot) ≡ true → Becomes key made left (count - 1) (spare + 1) (remove_fresh h slot)
  remove_step some =
      let l = live_slot key cells (slots_of marks) h slot kept.fragment view some in
      let a = around_mark marks slot (kept.fragment.listed slot l.0 (ap (option_and_then row_in) l.1)) in
      let P : List ℕ → Type 0 = λ s. IsFragment key cells s → count ≡ length (live_list cells key s) → Turns key (slice_set cells slot (Free next)) (slots_of a.front ++ slots_of a.back) (count - 1) (remove_fresh (fragment_of key cells s) slot) in
      let b : Turns key (slice_set cells slot (Free next)) (slots_of a.front ++ slots_of a.back) (count - 1) (remove_fresh (fragment_of key cells (slots_of marks)) slot) =
      subst P (sym (around_slots a)) (λ u c. removed_at key cells (slots_of a.front) slot (slots_of a.back) l.0 next u count c l.1) kept.fragment kept.counted in
      becomes key made left (count - 1) (spare + 1) (remove_fresh h slot)
      (subst (λ s. Turns key made s (count - 1) (remove_fresh h slot)) (sym (left_slots a))
      (settled key made (slice_set cells slot (Free next)) (slots_of a.front ++ slots_of a.back) (count - 1) (remove_fresh h slot) wrote (subst (λ x. Turns key (slice_set cells slot (Free next)) (slots_of a.front ++ slots_of a.back) (count - 1) (remove_fresh x slot)) view b)))
      (left_marked a) (left_spared a) (few_still cells made slot (Free next) wrote kept.few)

  pub purge_step : is_some (finite.get h.dead slot) ≡ true → Becomes key made left count (spare + 1) (purge h slot)
  purge_step some =
      let l = dead_slot key cells (slots_of marks) h slot kept.fragment view some in
      let a = around_mark marks slot (kept.fragment.listed slot l.0 (ap (option_and_then row_in) l.1)) in
      let P : List ℕ → Type 0 = λ s. IsFragment key cells s → count ≡ length (live_list cells key s) → Turns key (slice_set cells slot (Free next)) (slots_of a.front ++ slots_of a.back) count (purge (fragment_of key cells s) slot) in
      let b : Turns key (slice_set cells slot (Free next)) (slots_of a.front ++ slots_of a.back) count (purge (fragment_of key cells (slots_of marks)) slot) =
      subst P (sym (around_slots a)) (λ u c. purged_at key cells (slots_of a.front) slot (slots_of a.back) l.0 next u count c l.1) kept.fragment kept.counted in
      becomes key made left count (spare + 1) (purge h slot)
      (subst (λ s. Turns key made s count (purge h slot)) (sym (left_slots a))
      (settled key made (slice_set cells slot (Free next)) (slots_of a.front ++ slots_of a.back) count (purge h slot) wrote (subst (λ x. Turns key (slice_set cells slot (Free next)) (slots_of a.front ++ slots_of a.back) count (purge x slot)) view b)))
      (left_marked a) (left_spared a) (few_still cells made slot (Free next) wrote kept.few)
