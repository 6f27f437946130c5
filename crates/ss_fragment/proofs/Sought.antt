-- The live row of a key: where a search for it ends.
use Rattle.std.proofs.Common.{◌≡◌, ℕ, Bool, true, false, cond, not, ◌||◌, List, [], ◌∷◌, ◌++◌, map, take, drop, refl, sym, ap, subst, ◌∙◌, Option, Some, None, arith, slice_get, option_map, take-append-drop}
use Rattle.std.specs.List.{AllByRecursion, cons_option, find}
use Rattle.std.specs.Option.{option_and_then}
use Rattle.std.specs.Ordering.{nat_cmp, is_lt, is_eq, ordering_then, ordering_reverse}
use Rattle.std.specs.declared.cmp.Ordering.{Ordering}
use Rattle.std.specs.declared.cmp.Ordering.TheVariants.{Less, Equal, Greater}
use Rattle.std.proofs.lemmas.Cmp.{ranked, alike_right}
use Rattle.std.specs.FinMap.Entries as entries
use Rattle.ss_lemmas.proofs.Orderings.{less_test}
use Rattle.ss_value.specs.Rows.{Row}
use Rattle.ss_value.specs.Order.{row_cmp}
use Rattle.ss_value.specs.ValueOrder.{row_cmp_total}
use Rattle.ss_fragment.specs.declared.cell.Cell.{Cell}
use Rattle.ss_fragment.specs.declared.cell.Cell.TheVariants.{Free, Live, Dead}
use Rattle.ss_fragment.specs.Cells.{row_of, row_in, by_sought, is_live_cell, hit_at}
use Rattle.ss_fragment.specs.Targets.{row_cmp_to, is_before_slot, slot_rank, is_past_row, slot_stops}
use Rattle.ss_fragment.specs.FragmentValue.{key_of, HasKey, sought_key, slot_with}
use Rattle.ss_fragment.specs.Invariant.{order_cmp, order_key, live_entry, live_list, Rises, IsFragment}
use Rattle.ss_fragment.proofs.Rising.{every_map, front_passes, back_fails}
use Rattle.ss_fragment.proofs.Keys.{positions_total, by_sought-key}
use Rattle.ss_fragment.proofs.Maps.{find-past}
use Rattle.ss_fragment.proofs.Cells.{position_in, same_tests}
use Rattle.ss_fragment.proofs.Steps.{live_two}

-- ---- behind a greater key

-- the key k stands before x, and x not behind the next row's key
none_step : (key : List ℕ) (k x : Row) (s t : ℕ) (o : Option Cell) (es : List (Row × (ℕ × Row))) → row_cmp k x ≡ Less → order_cmp (x, s) (position_in key t o) ≡ Less → entries.find row_cmp k es ≡ None → entries.find row_cmp k (cons_option (live_entry key t o) es) ≡ None
none_step key k x s t None es l p e = e
none_step key k x s t (Some (Free n)) es l p e = e
none_step key k x s t (Some (Live row)) es l p e = ap (λ r. cond (is_eq r) (Some (t, row)) (entries.find row_cmp k es)) (up (row_cmp x (key_of key row)) refl p) ∙ e
  where
    up : (r : Ordering) → row_cmp x (key_of key row) ≡ r → ordering_then r (nat_cmp s t) ≡ Less → row_cmp k (key_of key row) ≡ Less
    up Less h q = row_cmp_total.trans k x (key_of key row) l h
    up Equal h q = sym (alike_right row_cmp_total x (key_of key row) k h) ∙ l
    up Greater h q = cc
none_step key k x s t (Some (Dead row)) es l p e = e

none_behind : (key : List ℕ) (cells : List Cell) (k x : Row) (s : ℕ) (slots : List ℕ) → row_cmp k x ≡ Less → AllByRecursion (λ t. order_cmp (x, s) (order_key cells key t) ≡ Less) slots → entries.find row_cmp k (live_list cells key slots) ≡ None
none_behind key cells k x s [] l h = refl
none_behind key cells k x s (t ∷ ts) l h = none_step key k x s t (slice_get cells t) (live_list cells key ts) l h.0 (none_behind key cells k x s ts l h.1)

-- ---- one slot that doesn't stand before the key; r is how its row's key stands to it

live_hit : (k x : Row) (slot : ℕ) (row : Row) (es : List (Row × (ℕ × Row))) (r : Ordering) → row_cmp x k ≡ r → is_lt (ordering_then r (nat_cmp slot 0)) ≡ false → (row_cmp k x ≡ Less → entries.find row_cmp k es ≡ None)
    → option_map (λ (p : ℕ × Row). p.0) (cond (is_eq (row_cmp k x)) (Some (slot, row)) (entries.find row_cmp k es)) ≡ cond (is_eq r) (Some slot) None
live_hit k x slot row es Less e f h = cc
live_hit k x slot row es Equal e f h = let same : row_cmp k x ≡ Equal = row_cmp_total.antisymm k x ∙ ap ordering_reverse e in ap (λ o. option_map (λ (p : ℕ × Row). p.0) (cond (is_eq o) (Some (slot, row)) (entries.find row_cmp k es))) same
live_hit k x slot row es Greater e f h =
    let up : row_cmp k x ≡ Less = row_cmp_total.antisymm k x ∙ ap ordering_reverse e in
    ap (λ o. option_map (λ (p : ℕ × Row). p.0) (cond (is_eq o) (Some (slot, row)) (entries.find row_cmp k es))) up ∙ ap (option_map (λ (p : ℕ × Row). p.0)) (h up)

dead_hit : (k x : Row) (slot : ℕ) (es : List (Row × (ℕ × Row))) (r : Ordering) (rest : Option ℕ) → row_cmp x k ≡ r → is_lt (ordering_then r (nat_cmp slot 0)) ≡ false → (row_cmp k x ≡ Less → entries.find row_cmp k es ≡ None) → slot_with k es ≡ rest
    → slot_with k es ≡ cond (not (is_eq r)) None rest
dead_hit k x slot es Less rest e f h same = cc
dead_hit k x slot es Equal rest e f h same = same
dead_hit k x slot es Greater rest e f h same = ap (option_map (λ (p : ℕ × Row). p.0)) (h (row_cmp_total.antisymm k x ∙ ap ordering_reverse e))

module _ (key : List ℕ) (is_key : Bool) (sought : Row) (q : is_key ≡ false → HasKey key sought) where
  hit_step : (slot : ℕ) (o : Option Cell) (es : List (Row × (ℕ × Row))) (rest : Option ℕ) → ((row : Row) → option_and_then row_in o ≡ Some row → HasKey key row) → is_lt (row_cmp_to key is_key sought 0 slot (option_and_then row_in o)) ≡ false
      → (row_cmp (sought_key is_key key sought) (position_in key slot o).0 ≡ Less → entries.find row_cmp (sought_key is_key key sought) es ≡ None) → slot_with (sought_key is_key key sought) es ≡ rest
      → slot_with (sought_key is_key key sought) (cons_option (live_entry key slot o) es) ≡ cond (is_live_cell o || is_past_row key is_key sought (option_and_then row_in o)) (hit_at key is_key sought slot o) rest
  hit_step slot None es rest f b h same = same
  hit_step slot (Some (Free n)) es rest f b h same = same
  hit_step slot (Some (Live row)) es rest f b h same =
      live_hit (sought_key is_key key sought) (key_of key row) slot row es (by_sought is_key key row sought) (sym (by_sought-key is_key key row sought (f row refl) q)) b h
  hit_step slot (Some (Dead row)) es rest f b h same =
      dead_hit (sought_key is_key key sought) (key_of key row) slot es (by_sought is_key key row sought) rest (sym (by_sought-key is_key key row sought (f row refl) q)) b h same

  cond_and_then : (h : ℕ → Option ℕ) (b : Bool) (s : ℕ) (o : Option ℕ) → option_and_then h (cond b (Some s) o) ≡ cond b (h s) (option_and_then h o)
  cond_and_then h true s o = refl
  cond_and_then h false s o = refl

  -- slots that don't stand before the key
  find_hit : (cells : List Cell) (slots : List ℕ) → ((slot : ℕ) (row : Row) → row_of cells slot ≡ Some row → HasKey key row) → AllByRecursion (λ s. is_before_slot cells key is_key sought 0 s ≡ false) slots
      → Rises order_cmp (map (order_key cells key) slots) → slot_with (sought_key is_key key sought) (live_list cells key slots) ≡ option_and_then (λ s. hit_at key is_key sought s (slice_get cells s)) (find (slot_stops cells key is_key sought) slots)
  find_hit cells [] f b r = refl
  find_hit cells (s ∷ ss) f b r =
      hit_step s (slice_get cells s) (live_list cells key ss) (option_and_then (λ s. hit_at key is_key sought s (slice_get cells s)) (find (slot_stops cells key is_key sought) ss)) (f s) b.0
      (λ l. none_behind key cells (sought_key is_key key sought) (order_key cells key s).0 s ss l (every_map (λ p. order_cmp (order_key cells key s) p ≡ Less) (order_key cells key) ss r.0))
      (find_hit cells ss f b.1 r.1)
      ∙ sym (cond_and_then (λ s. hit_at key is_key sought s (slice_get cells s)) (slot_stops cells key is_key sought s) s (find (slot_stops cells key is_key sought) ss))

  first_less : (r : Ordering) (slot : ℕ) → is_lt (ordering_then r (nat_cmp slot 0)) ≡ true → r ≡ Less
  first_less Less slot e = refl
  first_less Equal slot e = let low : nat_cmp slot 0 ≡ Less = less_test _ e in absurd (let h = ranked slot 0 Less (sym low) in omega arith)
  first_less Greater slot e = cc

  front_step : (slot : ℕ) (o : Option Cell) (es : List (Row × (ℕ × Row))) → ((row : Row) → option_and_then row_in o ≡ Some row → HasKey key row) → is_lt (row_cmp_to key is_key sought 0 slot (option_and_then row_in o)) ≡ true
      → entries.find row_cmp (sought_key is_key key sought) es ≡ None → entries.find row_cmp (sought_key is_key key sought) (cons_option (live_entry key slot o) es) ≡ None
  front_step slot None es f b e = e
  front_step slot (Some (Free n)) es f b e = e
  front_step slot (Some (Live row)) es f b e =
      let by : by_sought is_key key row sought ≡ row_cmp (key_of key row) (sought_key is_key key sought) = by_sought-key is_key key row sought (f row refl) q in
      let low : by_sought is_key key row sought ≡ Less = first_less _ slot b in
      let up : row_cmp (sought_key is_key key sought) (key_of key row) ≡ Greater = row_cmp_total.antisymm (sought_key is_key key sought) (key_of key row) ∙ ap ordering_reverse (sym by ∙ low) in
      ap (λ r. cond (is_eq r) (Some (slot, row)) (entries.find row_cmp (sought_key is_key key sought) es)) up ∙ e
  front_step slot (Some (Dead row)) es f b e = e

  front_none : (cells : List Cell) (slots : List ℕ) → ((slot : ℕ) (row : Row) → row_of cells slot ≡ Some row → HasKey key row) → AllByRecursion (λ s. is_before_slot cells key is_key sought 0 s ≡ true) slots
      → entries.find row_cmp (sought_key is_key key sought) (live_list cells key slots) ≡ None
  front_none cells [] f b = refl
  front_none cells (s ∷ ss) f b = front_step s (slice_get cells s) (live_list cells key ss) (f s) b.0 (front_none cells ss f b.1)

  -- the live slot of a key, by a search
  pub live_with_is : (cells : List Cell) (slots : List ℕ) → IsFragment key cells slots
      → slot_with (sought_key is_key key sought) (live_list cells key slots) ≡ option_and_then (λ s. hit_at key is_key sought s (slice_get cells s)) (find (slot_stops cells key is_key sought) (drop (slot_rank cells key is_key sought 0 slots) slots))
  live_with_is cells slots t =
      let n : ℕ = slot_rank cells key is_key sought 0 slots in
      let parts : slots ≡ take n slots ++ drop n slots = sym (take-append-drop n slots) in
      let lists : live_list cells key slots ≡ live_list cells key (take n slots) ++ live_list cells key (drop n slots) = ap (live_list cells key) parts ∙ live_two key cells (take n slots) (drop n slots) in
      let ups : Rises order_cmp (map (order_key cells key) (drop n slots)) = rises_drop cells (take n slots) (drop n slots) (subst (λ s. Rises order_cmp (map (order_key cells key) s)) parts t.rises) in
      ap (slot_with (sought_key is_key key sought)) lists
      ∙ ap (option_map (λ (p : ℕ × Row). p.0)) (find-past row_cmp (sought_key is_key key sought) (live_list cells key (take n slots)) (live_list cells key (drop n slots))
      (front_none cells (take n slots) t.keyed (front_passes (is_before_slot cells key is_key sought 0) slots)))
      ∙ find_hit cells (drop n slots) t.keyed (back_fails positions_total (order_key cells key) (is_before_slot cells key is_key sought 0) (sought_key is_key key sought, 0) slots (same_tests key cells slots is_key sought 0 t q) t.rises) ups
    where
      rises_drop : (cells : List Cell) (xs ys : List ℕ) → Rises order_cmp (map (order_key cells key) (xs ++ ys)) → Rises order_cmp (map (order_key cells key) ys)
      rises_drop cells [] ys r = r
      rises_drop cells (x ∷ xs) ys r = rises_drop cells xs ys r.1
