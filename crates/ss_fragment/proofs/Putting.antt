-- A row is inserted.
use Rattle.std.proofs.Common.{◌≡◌, ℕ, zero, suc, ◌+◌, ◌-◌, ◌≤◌, ◌^◌, Bool, true, false, not, List, [], ◌∷◌, ◌++◌, length, map, refl, sym, ap, subst, ◌∙◌, Option, Some, None, T, inl, inr, arith, slice_get, slice_set, length-append, take, drop, take-append-drop}
use Rattle.std.specs.List.{AllByRecursion, insert}
use Rattle.std.specs.Option.{option_map_or, option_and_then, is_some}
use Rattle.std.specs.Ordering.{nat_cmp, is_lt, ordering_then}
use Rattle.std.specs.declared.cmp.Ordering.{Ordering}
use Rattle.std.specs.declared.cmp.Ordering.TheVariants.{Less, Equal, Greater}
use Rattle.std.specs.Prelude.{Result, OnOk}
use Rattle.std.specs.Result.{is_err}
use Rattle.std.specs.FinMap as finite
use Rattle.std.specs.FinMap.{nat_cmp-IsAntisymmetric}
use Rattle.std.specs.FinMap.Entries as entries
use Rattle.ss_value.specs.Order.{row_cmp}
use Rattle.ss_fragment.specs.declared.cell.Cell.{Cell}
use Rattle.ss_fragment.specs.declared.cell.Cell.TheVariants.{Free, Live, Dead}
use Rattle.ss_fragment.specs.Cells.{row_of, row_in}
use Rattle.ss_fragment.specs.Targets.{is_before_slot, slot_rank}
use Rattle.ss_value.specs.Rows.{Row}
use Rattle.ss_value.specs.ValueOrder.{row_cmp_total, row_cmp-IsAntisymmetric}
use Rattle.ss_fragment.specs.FragmentValue.{FragmentValue, key_of, HasKey, insert as inserted, slot_with}
use Rattle.ss_fragment.specs.Invariant.{order_cmp, order_key, live_list, dead_list, fragment_of, Rises, Among, IsFragment, IsMark, FragmentInvariant, IsFree, Grown}
use Rattle.ss_fragment.proofs.Rising.{every_so, every_with, every_map, every-append, every_front, every_back, map_every, rises_insert, front_passes, back_fails, turned}
use Rattle.ss_fragment.proofs.Keys.{positions_total}
use Rattle.ss_fragment.proofs.Cells.{live_get, live_entries, sorted_live, get_set_other, get_set_same, among_here, among_more, same_tests}
use Rattle.ss_fragment.proofs.Steps.{plus_is, map_mid, map_two, Apart, live_two, dead_two, Agree, live_agree, dead_agree, position_agree}
use Rattle.ss_fragment.specs.declared.mark.PrefixedSlot.{PrefixedSlot}
use Rattle.ss_fragment.specs.Prefixes.{key_prefix}
use Rattle.ss_fragment.specs.Chunks.{slots_of}
use Rattle.ss_fragment.proofs.Answered.{is_same}
use Rattle.ss_fragment.proofs.Cases.{every_one, length_set, none_from, on_ok}
use Rattle.ss_fragment.proofs.Turned.{Turns, Becomes, becomes, live_new, dead_new, keyed_set, marked_same, marked_off, positions_apart, single_more, live_of_held, settled}
use Rattle.std.proofs.lemmas.List.{take-map, drop-map}
use Rattle.ss_lemmas.proofs.Results.{some_map}
use Rattle.ss_lemmas.proofs.Orderings.{less_test}
use Rattle.ss_fragment.specs.Targets.{linked_order, target_at, target_mark}
use Rattle.ss_fragment.proofs.Fronts.{row_prefix-key}

-- ---- more free cells

none_more : (more : List Cell) (s : ℕ) → AllByRecursion IsFree more → option_and_then row_in (slice_get more s) ≡ None
none_more [] s f = refl
none_more (Free n ∷ cs) zero f = refl
none_more (Live r ∷ cs) zero f = absurd f.0
none_more (Dead r ∷ cs) zero f = absurd f.0
none_more (c ∷ cs) (suc s) f = none_more cs s f.1

rows_more : (cells more : List Cell) (s : ℕ) → AllByRecursion IsFree more → row_of (cells ++ more) s ≡ row_of cells s
rows_more [] more s f = none_more more s f
rows_more (c ∷ cs) more zero f = refl
rows_more (c ∷ cs) more (suc s) f = rows_more cs more s f

get_more : (cells more : List Cell) (s : ℕ) (c : Cell) → slice_get cells s ≡ Some c → slice_get (cells ++ more) s ≡ slice_get cells s
get_more [] more s c e = cc
get_more (d ∷ ds) more zero c e = refl
get_more (d ∷ ds) more (suc s) c e = get_more ds more s c e

live_more : (cells more : List Cell) (s : ℕ) (a : Row) → AllByRecursion IsFree more → slice_get (cells ++ more) s ≡ Some (Live a) → slice_get cells s ≡ Some (Live a)
live_more [] more s a f e = let no : None ≡ Some a = sym (none_more more s f) ∙ ap (option_and_then row_in) e in cc
live_more (d ∷ ds) more zero a f e = e
live_more (d ∷ ds) more (suc s) a f e = live_more ds more s a f e

cell_some : (o : Option Cell) (row : Row) → option_and_then row_in o ≡ Some row → (c : Cell) × (o ≡ Some c)
cell_some None row e = cc
cell_some (Some c) row e = (c, refl)

pub grown_is : (key : List ℕ) (cells new : List Cell) (order : List ℕ) (before now n : ℕ) → IsFragment key cells order → Grown cells new before now → n ≡ length (live_list cells key order) → Turns key new order n (fragment_of key cells order)
grown_is key cells new order before now n t g counted = subst (λ s. Turns key s order n (fragment_of key cells order)) (sym g.is) (record {
  fragment = record {
    held = every_so (λ s. (row : Row) × (row_of cells s ≡ Some row)) (λ s. (row : Row) × (row_of (cells ++ g.more) s ≡ Some row)) order (λ s r. (r.0, (rows_more cells g.more s g.free ∙ r.1))) t.held;
    listed = λ s row e. t.listed s row (sym (rows_more cells g.more s g.free) ∙ e);
    rises = subst (Rises order_cmp) (sym (position_agree key (cells ++ g.more) cells order (every_one (λ s. row_of (cells ++ g.more) s ≡ row_of cells s) order (λ s. rows_more cells g.more s g.free)))) t.rises;
    keyed = λ s row e. t.keyed s row (sym (rows_more cells g.more s g.free) ∙ e);
    single = λ s u a b e f same. t.single s u a b (live_more cells g.more s a g.free e) (live_more cells g.more u b g.free f) same;
  };
  count_is = counted ∙ sym (ap length (live_agree key (cells ++ g.more) cells order agree));
  view = λ i. record { key = key; live = finite.from_sorted {R = row_cmp} (live_agree key (cells ++ g.more) cells order agree i); dead = finite.from_entries {R = nat_cmp} (dead_agree (cells ++ g.more) cells order agree i) };
})
  where
    agree : Agree (cells ++ g.more) cells order
    agree = every_so (λ s. (row : Row) × (row_of cells s ≡ Some row)) (λ s. slice_get (cells ++ g.more) s ≡ slice_get cells s) order (λ s r. let c = cell_some (slice_get cells s) r.0 r.1 in get_more cells g.more s c.0 c.1) t.held

-- the same fragment, with more free cells
pub grown_step : (key : List ℕ) (cells made : List Cell) (marks : List PrefixedSlot) (count spare now : ℕ) (h : FragmentValue) → FragmentInvariant key cells marks count spare → fragment_of key cells (slots_of marks) ≡ h → Grown cells made spare now → length made ≤ 2 ^ 56 → Becomes key made marks count now h
grown_step key cells made marks count spare now h kept view g few =
    let turns : Turns key made (slots_of marks) count (fragment_of key cells (slots_of marks)) = grown_is key cells made (slots_of marks) spare now count kept.fragment g kept.counted in
    let long = ap length g.is in
    let was = kept.spared in
    let more = g.counted in
    becomes key made marks count now h (subst (Turns key made (slots_of marks) count) view turns)
    (marked_same key made cells marks (λ s. ap (λ c. order_key c key s) g.is ∙ ap (λ o. (option_map_or (key_of key) o [], s)) (rows_more cells g.more s g.free)) kept.marked)
    (omega (arith, long, was, more, length-append cells g.more)) few

-- ---- insert

module _ (key : List ℕ) (cells : List Cell) (front : List ℕ) (slot : ℕ) (back : List ℕ) (row : Row) (m : ℕ) (is : slice_get cells slot ≡ Some (Free m)) (t : IsFragment key cells (front ++ back)) (has : HasKey key row)
    (none : entries.find row_cmp (key_of key row) (live_list cells key (front ++ back)) ≡ None) (lows : AllByRecursion (λ s. order_cmp (order_key cells key s) (key_of key row, slot) ≡ Less) front) (highs : AllByRecursion (λ s. order_cmp (key_of key row, slot) (order_key cells key s) ≡ Less) back) where
  free_slot : (s : ℕ) → (r : Row) × (row_of cells s ≡ Some r) → s ≡ slot → ⊥
  free_slot s r q = let no : None ≡ Some r.0 = sym (ap (option_and_then row_in) is) ∙ subst (λ u. row_of cells u ≡ Some r.0) q r.1 in elim (subst (λ b. T (not b)) (ap is_some no) tt) [ ]

  off_front : Apart slot front
  off_front = every_so (λ s. (r : Row) × (row_of cells s ≡ Some r)) (λ s. s ≡ slot → ⊥) front (λ s r. free_slot s r) (every_front (λ s. (r : Row) × (row_of cells s ≡ Some r)) front back t.held)

  off_back : Apart slot back
  off_back = every_so (λ s. (r : Row) × (row_of cells s ≡ Some r)) (λ s. s ≡ slot → ⊥) back (λ s r. free_slot s r) (every_back (λ s. (r : Row) × (row_of cells s ≡ Some r)) front back t.held)

  held_on : (slots : List ℕ) → Apart slot slots → AllByRecursion (λ s. (r : Row) × (row_of cells s ≡ Some r)) slots → AllByRecursion (λ s. (r : Row) × (row_of (slice_set cells slot (Live row)) s ≡ Some r)) slots
  held_on slots a h = every_with (λ s. s ≡ slot → ⊥) (λ s. (r : Row) × (row_of cells s ≡ Some r)) (λ s. (r : Row) × (row_of (slice_set cells slot (Live row)) s ≡ Some r)) slots
      (λ s apart r. (r.0, (ap (option_and_then row_in) (get_set_other cells slot s (Live row) apart) ∙ r.1))) a h

  here_row : row_of (slice_set cells slot (Live row)) slot ≡ Some row
  here_row = ap (option_and_then row_in) (get_set_same cells slot (Live row) (Free m) is)

  made_positions : map (order_key (slice_set cells slot (Live row)) key) (front ++ slot ∷ back) ≡ map (order_key cells key) front ++ (key_of key row, slot) ∷ map (order_key cells key) back
  made_positions = map_mid (order_key (slice_set cells slot (Live row)) key) front slot back
      ∙ (λ i. positions_apart key cells slot (Live row) front off_front i ++ (option_map_or (key_of key) (here_row i) [], slot) ∷ positions_apart key cells slot (Live row) back off_back i)

  fragment_more : IsFragment key (slice_set cells slot (Live row)) (front ++ slot ∷ back)
  fragment_more = record {
    held = every-append (λ s. (r : Row) × (row_of (slice_set cells slot (Live row)) s ≡ Some r)) front (slot ∷ back)
        (held_on front off_front (every_front (λ s. (r : Row) × (row_of cells s ≡ Some r)) front back t.held))
        ((row, here_row), held_on back off_back (every_back (λ s. (r : Row) × (row_of cells s ≡ Some r)) front back t.held));
    listed = λ s r e. elim (is_same s slot) [
      | inl q ↦ subst (λ u. Among u (front ++ slot ∷ back)) (sym q) (among_here front back slot)
      | inr n ↦ among_more front back slot s (t.listed s r (ap (option_and_then row_in) (sym (get_set_other cells slot s (Live row) n)) ∙ e))
    ];
    rises = subst (Rises order_cmp) (sym made_positions) (rises_insert positions_total (map (order_key cells key) front) (map (order_key cells key) back) (key_of key row, slot)
        (subst (Rises order_cmp) (map_two (order_key cells key) front back) t.rises)
        (map_every (λ p. order_cmp p (key_of key row, slot) ≡ Less) (order_key cells key) front lows)
        (map_every (λ p. order_cmp (key_of key row, slot) p ≡ Less) (order_key cells key) back highs));
    keyed = keyed_set key cells slot (Free m) (Live row) is (λ r e. subst (HasKey key) (let x : Some row ≡ Some r = e in cc) has) t.keyed;
    single = single_more key cells (front ++ back) slot (Free m) row t is none;
  }

  pub positioned_at : (n : ℕ) → n ≡ length (live_list cells key (front ++ back)) → Turns key (slice_set cells slot (Live row)) (front ++ slot ∷ back) (n + 1) (inserted (fragment_of key cells (front ++ back)) slot row)
  positioned_at n counted =
      let k : Row = key_of key row in
      let made : List Cell = slice_set cells slot (Live row) in
      let old_list : live_list cells key (front ++ back) ≡ live_list cells key front ++ live_list cells key back = live_two key cells front back in
      let new_list : live_list made key (front ++ slot ∷ back) ≡ live_list cells key front ++ (k, (slot, row)) ∷ live_list cells key back = live_new key cells front slot back off_front off_back (Free m) (Live row) is in
      let old_dead : dead_list cells (front ++ back) ≡ dead_list cells front ++ dead_list cells back = dead_two cells front back in
      let new_dead : dead_list made (front ++ slot ∷ back) ≡ dead_list cells front ++ dead_list cells back = dead_new key cells front slot back off_front off_back (Free m) (Live row) is in
      let live_is : finite.from_sorted {R = row_cmp} (live_list made key (front ++ slot ∷ back)) ≡ finite.insert (finite.from_sorted {R = row_cmp} (live_list cells key (front ++ back))) k (slot, row) =
      ap (finite.from_sorted {R = row_cmp}) new_list
      ∙ plus_is row_cmp row_cmp_total row_cmp-IsAntisymmetric (live_list cells key front) k (slot, row) (live_list cells key back)
      (subst (λ es. T (entries.is_sorted row_cmp es)) new_list (sorted_live key made fragment_more.single (front ++ slot ∷ back) fragment_more.rises))
      (subst (λ es. T (entries.is_sorted row_cmp es)) old_list (sorted_live key cells t.single (front ++ back) t.rises))
      ∙ sym (ap (λ es. finite.insert (finite.from_sorted {R = row_cmp} es) k (slot, row)) old_list) in
      record {
        fragment = fragment_more;
        count_is = let a = ap length old_list in let b = ap length new_list in omega (arith, counted, a, b, length-append (live_list cells key front) ((k, (slot, row)) ∷ live_list cells key back), length-append (live_list cells key front) (live_list cells key back));
        view = λ i. record { key = key; live = live_is i; dead = ap (finite.from_entries {R = nat_cmp}) (new_dead ∙ sym old_dead) i };
      }

module _ (key : List ℕ) (cells made : List Cell) (order put : List ℕ) (count : ℕ) (h : FragmentValue) (slot : ℕ) (row : Row) (m : ℕ) (t : IsFragment key cells order) (counted : count ≡ length (live_list cells key order)) (view : fragment_of key cells order ≡ h)
    (is : slice_get cells slot ≡ Some (Free m)) (has : HasKey key row) (free : finite.get h.live (key_of key row) ≡ None) (wrote : made ≡ slice_set cells slot (Live row)) (linked : put ≡ insert order (slot_rank cells key false row slot order) slot) where
  pub position_turns : Turns key made put (count + 1) (inserted h slot row) × (length made ≡ length cells) × (length put ≡ length order + 1)
  position_turns =
      let n : ℕ = slot_rank cells key false row slot order in
      let front : List ℕ = take n order in
      let back : List ℕ = drop n order in
      let parts : order ≡ take n order ++ drop n order = sym (take-append-drop n order) in
      let t_parts : IsFragment key cells (take n order ++ drop n order) = subst (IsFragment key cells) parts t in
      let p : ℕ → Bool = is_before_slot cells key false row slot in
      let Held_at : ℕ → Type 0 = λ s. (r : Row) × (row_of cells s ≡ Some r) in
      let Same : ℕ → Type 0 = λ s. is_before_slot cells key false row slot s ≡ is_lt (order_cmp (order_key cells key s) (key_of key row, slot)) in
      let tests : AllByRecursion Same (take n order ++ drop n order) = same_tests key cells (take n order ++ drop n order) false row slot t_parts (λ _. has) in
      let lows : AllByRecursion (λ s. order_cmp (order_key cells key s) (key_of key row, slot) ≡ Less) (take n order) =
      every_with Same (λ s. is_before_slot cells key false row slot s ≡ true) (λ s. order_cmp (order_key cells key s) (key_of key row, slot) ≡ Less) (take n order) (λ s same low. less_test _ (sym same ∙ low))
      (every_front Same (take n order) (drop n order) tests) (front_passes (is_before_slot cells key false row slot) order) in
      let fails : AllByRecursion (λ s. is_before_slot cells key false row slot s ≡ false) (drop n order) = back_fails positions_total (order_key cells key) (is_before_slot cells key false row slot) (key_of key row, slot) order (same_tests key cells order false row slot t (λ _. has)) t.rises in
      let not_tied : AllByRecursion (λ s. is_lt (order_cmp (order_key cells key s) (key_of key row, slot)) ≡ false) (drop n order) =
      every_with Same (λ s. is_before_slot cells key false row slot s ≡ false) (λ s. is_lt (order_cmp (order_key cells key s) (key_of key row, slot)) ≡ false) (drop n order) (λ s same high. sym same ∙ high)
      (every_back Same (take n order) (drop n order) tests) fails in
      let highs : AllByRecursion (λ s. order_cmp (key_of key row, slot) (order_key cells key s) ≡ Less) (drop n order) =
      every_with (λ s. is_lt (order_cmp (order_key cells key s) (key_of key row, slot)) ≡ false) Held_at (λ s. order_cmp (key_of key row, slot) (order_key cells key s) ≡ Less) (drop n order)
      (λ s high r. turned positions_total (order_key cells key s) (key_of key row, slot) high (λ tie. apart_slots s r.0 r.1 tie)) not_tied (every_back Held_at (take n order) (drop n order) t_parts.held) in
      let none : entries.find row_cmp (key_of key row) (live_list cells key (take n order ++ drop n order)) ≡ None =
      ap (λ s. entries.find row_cmp (key_of key row) (live_list cells key s)) (sym parts) ∙ sym (live_of_held key cells order h (key_of key row) t view) ∙ free in
      let b = positioned_at key cells (take n order) slot (drop n order) row m is t_parts has none lows highs count (counted ∙ ap (λ s. length (live_list cells key s)) parts) in
      let b_h : Turns key (slice_set cells slot (Live row)) (take n order ++ slot ∷ drop n order) (count + 1) (inserted h slot row) =
      subst (λ x. Turns key (slice_set cells slot (Live row)) (take n order ++ slot ∷ drop n order) (count + 1) (inserted x slot row)) (ap (fragment_of key cells) (sym parts) ∙ view) b in
      let put_is = ap length linked in
      let all_is = ap length parts in (
        subst (λ s. Turns key made s (count + 1) (inserted h slot row)) (sym linked) (settled key made (slice_set cells slot (Live row)) (take n order ++ slot ∷ drop n order) (count + 1) (inserted h slot row) wrote b_h),
        (ap length wrote ∙ length_set cells slot (Live row)),
        (omega (arith, put_is, all_is, length-append (take n order) (slot ∷ drop n order), length-append (take n order) (drop n order))),
      )
    where
      apart_slots : (s : ℕ) (r : Row) → row_of cells s ≡ Some r → order_cmp (order_key cells key s) (key_of key row, slot) ≡ Equal → ⊥
      apart_slots s r e tie = let no : None ≡ Some r = sym (ap (option_and_then row_in) is) ∙ ap (row_of cells) (sym (tied_slots (row_cmp (order_key cells key s).0 (key_of key row)) s slot tie)) ∙ e in elim (subst (λ b. T (not b)) (ap is_some no) tt) [ ]
        where
          tied_slots : (o : Ordering) (s u : ℕ) → ordering_then o (nat_cmp s u) ≡ Equal → s ≡ u
          tied_slots Less s u e = cc
          tied_slots Equal s u e = nat_cmp-IsAntisymmetric s u e
          tied_slots Greater s u e = cc

-- ---- as the call does it

module _ (key : List ℕ) (cells made : List Cell) (marks put : List PrefixedSlot) (count spare : ℕ) (h : FragmentValue) (slot : ℕ) (row : Row) (m : ℕ) (kept : FragmentInvariant key cells marks count spare) (view : fragment_of key cells (slots_of marks) ≡ h)
    (is : slice_get cells slot ≡ Some (Free m)) (has : HasKey key row) (free : finite.get h.live (key_of key row) ≡ None) (wrote : made ≡ slice_set cells slot (Live row))
    (linked : put ≡ insert marks (slot_rank cells key false row slot (slots_of marks)) (target_mark (target_at cells key false row slot))) (some : 1 ≤ spare) where
  put_slots : slots_of put ≡ insert (slots_of marks) (slot_rank cells key false row slot (slots_of marks)) slot
  put_slots =
      let n : ℕ = slot_rank cells key false row slot (slots_of marks) in
      ap slots_of linked ∙ map_mid (λ (x : PrefixedSlot). x.slot) (take n marks) (target_mark (target_at cells key false row slot)) (drop n marks)
      ∙ (λ i. sym (take-map (λ (x : PrefixedSlot). x.slot) n marks) i ++ slot ∷ sym (drop-map (λ (x : PrefixedSlot). x.slot) n marks) i)

  off_slots : AllByRecursion (λ x. x.slot ≡ slot → ⊥) marks
  off_slots = every_so (λ (x : PrefixedSlot). (r : Row) × (row_of cells x.slot ≡ Some r)) (λ (x : PrefixedSlot). x.slot ≡ slot → ⊥) marks
      (λ x r q. let no : None ≡ Some r.0 = sym (ap (option_and_then row_in) is) ∙ subst (λ u. row_of cells u ≡ Some r.0) q r.1 in elim (subst (λ b. T (not b)) (ap is_some no) tt) [ ])
      (every_map (λ s. (r : Row) × (row_of cells s ≡ Some r)) (λ (x : PrefixedSlot). x.slot) marks kept.fragment.held)

  put_here : IsMark key (slice_set cells slot (Live row)) (target_mark (target_at cells key false row slot))
  put_here = row_prefix-key key row has ∙ sym (ap (λ o. key_prefix (option_map_or (key_of key) (option_and_then row_in o) [])) (get_set_same cells slot (Live row) (Free m) is))

  put_marked : AllByRecursion (IsMark key made) put
  put_marked =
      let n : ℕ = slot_rank cells key false row slot (slots_of marks) in
      let P : PrefixedSlot → Type 0 = IsMark key (slice_set cells slot (Live row)) in
      let parts : AllByRecursion (IsMark key (slice_set cells slot (Live row))) (take n marks ++ drop n marks) =
      subst (AllByRecursion (IsMark key (slice_set cells slot (Live row)))) (sym (take-append-drop n marks)) (marked_off key cells slot (Live row) marks off_slots kept.marked) in
      let all : AllByRecursion (IsMark key (slice_set cells slot (Live row))) (take n marks ++ target_mark (target_at cells key false row slot) ∷ drop n marks) =
      every-append P (take n marks) (target_mark (target_at cells key false row slot) ∷ drop n marks) (every_front P (take n marks) (drop n marks) parts) (put_here, every_back P (take n marks) (drop n marks) parts) in
      subst (λ c. AllByRecursion (IsMark key c) put) (sym wrote) (subst (AllByRecursion (IsMark key (slice_set cells slot (Live row)))) (sym linked) all)

  pub position_step : Becomes key made put (count + 1) (spare - 1) (inserted h slot row)
  position_step =
      let t = position_turns key cells made (slots_of marks) (slots_of put) count h slot row m kept.fragment kept.counted view is has free wrote put_slots in
      let was = kept.spared in
      let cells_long = t.1 in
      let slots_long = t.2 in
      becomes key made put (count + 1) (spare - 1) (inserted h slot row) t.0 put_marked (omega (arith, was, cells_long, slots_long, some)) (omega (arith, cells_long, kept.few))

-- ---- whether a key is taken, and how many rows are live

pub taken_is : (key : List ℕ) (cells : List Cell) (order : List ℕ) (h : FragmentValue) (row : Row) → IsFragment key cells order → fragment_of key cells order ≡ h
    → finite.contains_key h.live (key_of h.key row) ≡ is_some (slot_with (key_of key row) (live_list cells key order))
taken_is key cells order h row t view =
    sym (ap (λ (x : FragmentValue). finite.contains_key x.live (key_of x.key row)) view)
    ∙ ap is_some (live_get key cells order t (key_of key row)) ∙ sym (some_map (λ (p : ℕ × Row). p.0) (entries.find row_cmp (key_of key row) (live_list cells key order)))

pub len_is : (key : List ℕ) (cells : List Cell) (order : List ℕ) (count : ℕ) (h : FragmentValue) → IsFragment key cells order → count ≡ length (live_list cells key order) → fragment_of key cells order ≡ h → count ≡ finite.len h.live
len_is key cells order count h t counted view =
    counted ∙ sym (finite.len-entries (fragment_of key cells order).live ∙ ap length (live_entries key cells order t)) ∙ ap (λ (x : FragmentValue). finite.len x.live) view

pub none_from_key : (key : List ℕ) (h : FragmentValue) (row : Row) → key ≡ h.key → finite.contains_key h.live (key_of h.key row) ≡ false → finite.get h.live (key_of key row) ≡ None
none_from_key key h row same gone = ap (λ k. finite.get h.live (key_of k row)) same ∙ none_from (finite.get h.live (key_of h.key row)) gone

-- ---- a row put in a free slot, where there may be more free cells than before

module _ (key : List ℕ) (cells made filled : List Cell) (marks put linked : List PrefixedSlot) (count spare now : ℕ) (h : FragmentValue) (slot : ℕ) (row : Row) where
  pub put_step : {A B E F : Type 0} (freed : Result A E) (did : Result B F) → FragmentInvariant key cells marks count spare → fragment_of key cells (slots_of marks) ≡ h → Grown cells made spare now → length made ≤ 2 ^ 56 → HasKey h.key row → finite.contains_key h.live (key_of h.key row) ≡ false
      → is_err freed ≡ false → OnOk freed ((m : ℕ) × (slice_get made slot ≡ Some (Free m))) → OnOk freed (1 ≤ now) → filled ≡ slice_set made slot (Live row)
      → is_err did ≡ false → OnOk did (put ≡ linked) → linked ≡ linked_order made key row slot marks → Becomes key filled put (count + 1) (now - 1) (inserted h slot row)
  put_step freed did kept view grown few has gone is_free free some wrote is_linked order place =
      let b = grown_step key cells made marks count spare now h kept view grown few in
      let at = on_ok freed ((m : ℕ) × (slice_get made slot ≡ Some (Free m))) is_free free in
      let here : key ≡ h.key = ap (λ (x : FragmentValue). x.key) view in
      position_step key made filled marks put count now h slot row at.0 b.kept b.view at.1
      (subst (λ k. HasKey k row) (sym here) has) (none_from_key key h row here gone) wrote (on_ok did (put ≡ linked) is_linked order ∙ place) (on_ok freed (1 ≤ now) is_free some)
