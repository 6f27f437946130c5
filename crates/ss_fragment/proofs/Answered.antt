-- What the calls that change nothing of a fragment answer.
use Rattle.std.proofs.Common.{◌≡◌, ℕ, ◌+◌, Bool, true, false, cond, ◌==◌, List, [], ◌∷◌, ◌++◌, map, drop, refl, sym, ap, subst, ◌∙◌, Option, Some, None, T, ◌⊎◌, inl, inr, arith, slice_get, option_map}
use Rattle.std.specs.List.{AllByRecursion, cons_option, find, prefix_len}
use Rattle.std.specs.Option.{option_map_or, option_and_then}
use Rattle.std.specs.Ordering.{nat_cmp, is_lt, is_eq, ordering_then, ordering_reverse}
use Rattle.std.specs.declared.cmp.Ordering.{Ordering}
use Rattle.std.specs.declared.cmp.Ordering.TheVariants.{Less, Equal, Greater}
use Rattle.std.proofs.lemmas.Cmp.{tied_itself, nat_cmp_total, ranked}
use Rattle.std.specs.FinMap as finite
use Rattle.std.specs.FinMap.{nat_cmp-IsAntisymmetric}
use Rattle.std.specs.FinMap.Entries as entries
use Rattle.std.proofs.lemmas.Bool.Decides.{nat_tests}
use Rattle.ss_lemmas.proofs.Orderings.{equal_test}
use Rattle.ss_lemmas.proofs.Numbers.{eqb_self, eqb_apart}
use Rattle.ss_value.specs.Order.{row_cmp}
use Rattle.ss_fragment.specs.declared.cell.Cell.{Cell}
use Rattle.ss_fragment.specs.declared.cell.Cell.TheVariants.{Free, Live, Dead}
use Rattle.ss_fragment.specs.Cells.{row_in, is_live, is_live_cell, live_row, dead_row}
use Rattle.ss_fragment.specs.Targets.{is_before_slot, slot_rank}
use Rattle.ss_value.specs.Rows.{Row}
use Rattle.ss_value.specs.ValueOrder.{row_cmp_total}
use Rattle.ss_fragment.specs.FragmentValue.{key_of, HasKey, row_at, first_in, after_in, row_among}
use Rattle.ss_fragment.specs.Invariant.{order_cmp, order_key, live_entry, dead_entry, live_list, dead_list, Rises, Among, IsFragment}
use Rattle.ss_fragment.proofs.Rising.{every_with, every_front, every_back, drop_more}
use Rattle.ss_fragment.proofs.Keys.{positions_total}
use Rattle.ss_fragment.proofs.Cells.{live_entries, dead_get, same_tests, Around, around}
use Rattle.ss_fragment.proofs.Steps.{Apart, apart_front, before_front, before_back, live_mid}

-- ---- first

first_step : (key : List ℕ) (slot : ℕ) (o : Option Cell) (es : List (Row × (ℕ × Row))) (r : Option ℕ) → first_in es ≡ r → first_in (cons_option (live_entry key slot o) es) ≡ cond (is_live_cell o) (Some slot) r
first_step key slot None es r e = e
first_step key slot (Some (Free n)) es r e = e
first_step key slot (Some (Live row)) es r e = refl
first_step key slot (Some (Dead row)) es r e = e

pub first_live_is : (key : List ℕ) (cells : List Cell) (slots : List ℕ) → first_in (live_list cells key slots) ≡ find (is_live cells) slots
first_live_is key cells [] = refl
first_live_is key cells (s ∷ ss) = first_step key s (slice_get cells s) (live_list cells key ss) (find (is_live cells) ss) (first_live_is key cells ss)

-- ---- row

row_here : (key : List ℕ) (slot : ℕ) (o : Option Cell) (row : Row) (es : List (Row × (ℕ × Row))) → o ≡ Some (Live row) → row_among (cons_option (live_entry key slot o) es) slot ≡ Some row
row_here key slot o row es e = rw e (ap (λ b. option_map (λ (x : Row × (ℕ × Row)). x.1.1) (cond b (Some (key_of key row, (slot, row))) (find (λ x. x.1.0 == slot) es))) (eqb_self slot))

row_past : (key : List ℕ) (slot t : ℕ) (o : Option Cell) (es : List (Row × (ℕ × Row))) (r : Option Row) → (t ≡ slot → ⊥) → row_among es slot ≡ r → row_among (cons_option (live_entry key t o) es) slot ≡ r
row_past key slot t None es r n e = e
row_past key slot t (Some (Free k)) es r n e = e
row_past key slot t (Some (Live row)) es r n e = ap (λ b. option_map (λ (x : Row × (ℕ × Row)). x.1.1) (cond b (Some (key_of key row, (t, row))) (find (λ x. x.1.0 == slot) es))) (eqb_apart t slot n) ∙ e
row_past key slot t (Some (Dead row)) es r n e = e

row_none : (key : List ℕ) (slot : ℕ) (o : Option Cell) (es : List (Row × (ℕ × Row))) (r : Option Row) → live_row o ≡ None → row_among es slot ≡ r → row_among (cons_option (live_entry key slot o) es) slot ≡ r
row_none key slot None es r n e = e
row_none key slot (Some (Free k)) es r n e = e
row_none key slot (Some (Live row)) es r n e = cc
row_none key slot (Some (Dead row)) es r n e = e

pub is_same : (m n : ℕ) → (m ≡ n) ⊎ (m ≡ n → ⊥)
is_same m n = elim (m == n) as (λ b. (m == n) ≡ b → (m ≡ n) ⊎ (m ≡ n → ⊥)) [
  | true ↦ λ e. inl (grind (arith, nat_tests))
  | false ↦ λ e. inr (λ h. let q : true ≡ false = sym (eqb_self n) ∙ ap (λ k. k == n) (sym h) ∙ e in elim (subst (λ b. T b) q tt) [ ])
] refl

row_found : (key : List ℕ) (cells : List Cell) (slot : ℕ) (row : Row) (slots : List ℕ) → slice_get cells slot ≡ Some (Live row) → Among slot slots → row_among (live_list cells key slots) slot ≡ Some row
row_found key cells slot row [] e h = absurd h
row_found key cells slot row (s ∷ ss) e (inl h) = subst (λ t. row_among (cons_option (live_entry key t (slice_get cells t)) (live_list cells key ss)) slot ≡ Some row) (sym h) (row_here key slot (slice_get cells slot) row (live_list cells key ss) e)
row_found key cells slot row (s ∷ ss) e (inr h) =
    elim (is_same s slot) [
      | inl q ↦ subst (λ t. row_among (cons_option (live_entry key t (slice_get cells t)) (live_list cells key ss)) slot ≡ Some row) (sym q) (row_here key slot (slice_get cells slot) row (live_list cells key ss) e)
      | inr n ↦ row_past key slot s (slice_get cells s) (live_list cells key ss) (Some row) n (row_found key cells slot row ss e h)
    ]

row_missed : (key : List ℕ) (cells : List Cell) (slot : ℕ) (slots : List ℕ) → live_row (slice_get cells slot) ≡ None → row_among (live_list cells key slots) slot ≡ None
row_missed key cells slot [] e = refl
row_missed key cells slot (s ∷ ss) e =
    elim (is_same s slot) [
      | inl q ↦ subst (λ t. row_among (cons_option (live_entry key t (slice_get cells t)) (live_list cells key ss)) slot ≡ None) (sym q) (row_none key slot (slice_get cells slot) (live_list cells key ss) None e (row_missed key cells slot ss e))
      | inr n ↦ row_past key slot s (slice_get cells s) (live_list cells key ss) None n (row_missed key cells slot ss e)
    ]

row_among_is : (key : List ℕ) (cells : List Cell) (slots : List ℕ) (slot : ℕ) (o : Option Cell) → IsFragment key cells slots → slice_get cells slot ≡ o → row_among (live_list cells key slots) slot ≡ live_row o
row_among_is key cells slots slot None t e = row_missed key cells slot slots (ap live_row e)
row_among_is key cells slots slot (Some (Free n)) t e = row_missed key cells slot slots (ap live_row e)
row_among_is key cells slots slot (Some (Live row)) t e = row_found key cells slot row slots e (t.listed slot row (ap (option_and_then row_in) e))
row_among_is key cells slots slot (Some (Dead row)) t e = row_missed key cells slot slots (ap live_row e)

-- a live slot's row, as the view has it
pub row_at_is : (key : List ℕ) (cells : List Cell) (slots : List ℕ) (slot : ℕ) → IsFragment key cells slots → row_at (finite.from_sorted (live_list cells key slots)) slot ≡ live_row (slice_get cells slot)
row_at_is key cells slots slot t = ap (λ es. row_among es slot) (live_entries key cells slots t) ∙ row_among_is key cells slots slot (slice_get cells slot) t refl

-- ---- the live slot behind a slot

drop_known : (p : ℕ → Bool) (front : List ℕ) (slot : ℕ) (back : List ℕ) → AllByRecursion (λ t. p t ≡ true) front → p slot ≡ true → AllByRecursion (λ t. p t ≡ false) back
    → drop (prefix_len p (front ++ slot ∷ back)) (front ++ slot ∷ back) ≡ back
drop_known p [] slot [] a e b = ap (λ c. drop (cond c (1 + 0) 0) (slot ∷ [])) e
drop_known p [] slot (t ∷ ts) a e b = ap (λ c. drop (cond c (1 + prefix_len p (t ∷ ts)) 0) (slot ∷ t ∷ ts)) e ∙ ap (λ c. drop (1 + cond c (1 + prefix_len p ts) 0) (slot ∷ t ∷ ts)) b.0
drop_known p (x ∷ xs) slot back a e b = ap (λ c. drop (cond c (1 + prefix_len p (xs ++ slot ∷ back)) 0) (x ∷ (xs ++ slot ∷ back))) a.0 ∙ drop_more x (xs ++ slot ∷ back) (prefix_len p (xs ++ slot ∷ back)) ∙ drop_known p xs slot back a.1 e b

later_position : (r : Ordering) (s t : ℕ) → ordering_then r (nat_cmp s t) ≡ Less → is_lt (ordering_then (ordering_reverse r) (nat_cmp t (s + 1))) ≡ false
later_position Less s t e = refl
later_position Equal s t e = let low = ranked s t Less (sym e) in grind (arith, nat_tests)
later_position Greater s t e = cc

after_past : (key : List ℕ) (slot t : ℕ) (o : Option Cell) (es : List (Row × (ℕ × Row))) (r : Option ℕ) → (t ≡ slot → ⊥) → after_in es slot ≡ r → after_in (cons_option (live_entry key t o) es) slot ≡ r
after_past key slot t None es r n e = e
after_past key slot t (Some (Free k)) es r n e = e
after_past key slot t (Some (Live row)) es r n e = ap (λ b. cond b (first_in es) (after_in es slot)) (eqb_apart t slot n) ∙ e
after_past key slot t (Some (Dead row)) es r n e = e

after_front : (key : List ℕ) (cells : List Cell) (slot : ℕ) (front : List ℕ) (es : List (Row × (ℕ × Row))) → Apart slot front → after_in (live_list cells key front ++ es) slot ≡ after_in es slot
after_front key cells slot [] es a = refl
after_front key cells slot (t ∷ ts) es a = cons_two (live_entry key t (slice_get cells t)) ∙ after_past key slot t (slice_get cells t) (live_list cells key ts ++ es) (after_in es slot) a.0 (after_front key cells slot ts es a.1)
  where
    cons_two : (o : Option (Row × (ℕ × Row))) → after_in (cons_option o (live_list cells key ts) ++ es) slot ≡ after_in (cons_option o (live_list cells key ts ++ es)) slot
    cons_two None = refl
    cons_two (Some e) = refl

pub after_is : (key : List ℕ) (cells : List Cell) (slots : List ℕ) (slot : ℕ) (row : Row) → IsFragment key cells slots → slice_get cells slot ≡ Some (Live row)
    → after_in (live_list cells key slots) slot ≡ find (is_live cells) (drop (slot_rank cells key false row (slot + 1) slots) slots)
after_is key cells slots slot row t e =
    let at : Around slots slot = around slots slot (t.listed slot row (ap (option_and_then row_in) e)) in
    let front = at.front in
    let back = at.back in
    let p = is_before_slot cells key false row (slot + 1) in
    let here : order_key cells key slot ≡ (key_of key row, slot) = ap (λ o. (option_map_or (key_of key) (option_and_then row_in o) [], slot)) e in
    let has_key : HasKey key row = t.keyed slot row (ap (option_and_then row_in) e) in
    let rises : Rises order_cmp (map (order_key cells key) (front ++ slot ∷ back)) = subst (λ s. Rises order_cmp (map (order_key cells key) s)) at.is t.rises in
    let tests : AllByRecursion (λ s. p s ≡ is_lt (order_cmp (order_key cells key s) (key_of key row, slot + 1))) (front ++ slot ∷ back) =
    subst (AllByRecursion (λ s. p s ≡ is_lt (order_cmp (order_key cells key s) (key_of key row, slot + 1)))) at.is (same_tests key cells slots false row (slot + 1) t (λ _. has_key)) in
    let next : nat_cmp slot (slot + 1) ≡ Less = grind (arith, nat_tests) in
    let up : order_cmp (order_key cells key slot) (key_of key row, slot + 1) ≡ Less =
    ap (λ q. order_cmp q (key_of key row, slot + 1)) here ∙ ap (λ r. ordering_then r (nat_cmp slot (slot + 1))) (tied_itself row_cmp_total (key_of key row)) ∙ next in
    let in_front : AllByRecursion (λ s. p s ≡ true) front =
    every_with (λ s. p s ≡ is_lt (order_cmp (order_key cells key s) (key_of key row, slot + 1))) (λ s. order_cmp (order_key cells key s) (order_key cells key slot) ≡ Less) (λ s. p s ≡ true) front
    (λ s same low. same ∙ ap is_lt (positions_total.trans (order_key cells key s) (order_key cells key slot) (key_of key row, slot + 1) low up))
    (every_front (λ s. p s ≡ is_lt (order_cmp (order_key cells key s) (key_of key row, slot + 1))) front (slot ∷ back) tests) (before_front key cells front slot back rises) in
    let rest = every_back (λ s. p s ≡ is_lt (order_cmp (order_key cells key s) (key_of key row, slot + 1))) front (slot ∷ back) tests in
    let at_slot : p slot ≡ true = rest.0 ∙ ap is_lt up in
    let behind : AllByRecursion (λ s. p s ≡ false) back =
    every_with (λ s. p s ≡ is_lt (order_cmp (order_key cells key s) (key_of key row, slot + 1))) (λ s. order_cmp (order_key cells key slot) (order_key cells key s) ≡ Less) (λ s. p s ≡ false) back
    (λ s same low.
    let k_s : Row = (order_key cells key s).0 in
    let low_here : ordering_then (row_cmp (key_of key row) (order_key cells key s).0) (nat_cmp slot s) ≡ Less = ap (λ q. order_cmp q (order_key cells key s)) (sym here) ∙ low in
    same ∙ ap (λ r. is_lt (ordering_then r (nat_cmp s (slot + 1)))) (row_cmp_total.antisymm (order_key cells key s).0 (key_of key row)) ∙ later_position (row_cmp (key_of key row) (order_key cells key s).0) slot s low_here)
    rest.1 (before_back key cells front slot back rises) in
    ap (λ s. after_in (live_list cells key s) slot) at.is
    ∙ ap (λ es. after_in es slot) (live_mid key cells front slot back)
    ∙ after_front key cells slot front (cons_option (live_entry key slot (slice_get cells slot)) (live_list cells key back)) (apart_front key cells front slot back rises)
    ∙ ap (λ o. after_in (cons_option (live_entry key slot o) (live_list cells key back)) slot) e
    ∙ ap (λ b. cond b (first_in (live_list cells key back)) (after_in (live_list cells key back) slot)) (eqb_self slot)
    ∙ first_live_is key cells back
    ∙ sym (ap (λ s. find (is_live cells) (drop (slot_rank cells key false row (slot + 1) s) s)) at.is ∙ ap (find (is_live cells)) (drop_known p front slot back in_front at_slot behind))

-- the same, where it is known what stands behind the slot
pub after_here : (key : List ℕ) (cells : List Cell) (slots : List ℕ) (slot : ℕ) (row : Row) → IsFragment key cells slots → slice_get cells slot ≡ Some (Live row)
    → (front back : List ℕ) → slots ≡ front ++ slot ∷ back → after_in (live_list cells key slots) slot ≡ find (is_live cells) back
after_here key cells slots slot row t e front back is =
    let rises : Rises order_cmp (map (order_key cells key) (front ++ slot ∷ back)) = subst (λ s. Rises order_cmp (map (order_key cells key) s)) is t.rises in
    ap (λ s. after_in (live_list cells key s) slot) is
    ∙ ap (λ es. after_in es slot) (live_mid key cells front slot back)
    ∙ after_front key cells slot front (cons_option (live_entry key slot (slice_get cells slot)) (live_list cells key back)) (apart_front key cells front slot back rises)
    ∙ ap (λ o. after_in (cons_option (live_entry key slot o) (live_list cells key back)) slot) e
    ∙ ap (λ b. cond b (first_in (live_list cells key back)) (after_in (live_list cells key back) slot)) (eqb_self slot)
    ∙ first_live_is key cells back

-- ---- the row of a dead slot

nat_tie : (s : ℕ) → is_eq (nat_cmp s s) ≡ true
nat_tie s = ap is_eq (tied_itself nat_cmp_total s)

nat_split : (s t : ℕ) → (t ≡ s → ⊥) → is_eq (nat_cmp s t) ≡ false
nat_split s t n = elim (is_eq (nat_cmp s t)) as (λ b. is_eq (nat_cmp s t) ≡ b → b ≡ false) [
  | true ↦ λ e. absurd (n (sym (nat_cmp-IsAntisymmetric s t (equal_test _ e))))
  | false ↦ λ e. refl
] refl

dead_here : (slot : ℕ) (o : Option Cell) (row : Row) (es : List (ℕ × Row)) → o ≡ Some (Dead row) → entries.find nat_cmp slot (cons_option (dead_entry slot o) es) ≡ Some row
dead_here slot o row es e = rw e (ap (λ b. cond b (Some row) (entries.find nat_cmp slot es)) (nat_tie slot))

dead_off : (slot t : ℕ) (o : Option Cell) (es : List (ℕ × Row)) (r : Option Row) → (t ≡ slot → ⊥) → entries.find nat_cmp slot es ≡ r → entries.find nat_cmp slot (cons_option (dead_entry t o) es) ≡ r
dead_off slot t None es r n e = e
dead_off slot t (Some (Free k)) es r n e = e
dead_off slot t (Some (Live row)) es r n e = e
dead_off slot t (Some (Dead row)) es r n e = ap (λ b. cond b (Some row) (entries.find nat_cmp slot es)) (nat_split slot t n) ∙ e

dead_none : (slot : ℕ) (o : Option Cell) (es : List (ℕ × Row)) (r : Option Row) → dead_row o ≡ None → entries.find nat_cmp slot es ≡ r → entries.find nat_cmp slot (cons_option (dead_entry slot o) es) ≡ r
dead_none slot None es r n e = e
dead_none slot (Some (Free k)) es r n e = e
dead_none slot (Some (Live row)) es r n e = e
dead_none slot (Some (Dead row)) es r n e = cc

dead_found : (cells : List Cell) (slot : ℕ) (row : Row) (slots : List ℕ) → slice_get cells slot ≡ Some (Dead row) → Among slot slots → entries.find nat_cmp slot (dead_list cells slots) ≡ Some row
dead_found cells slot row [] e h = absurd h
dead_found cells slot row (s ∷ ss) e (inl h) = subst (λ t. entries.find nat_cmp slot (cons_option (dead_entry t (slice_get cells t)) (dead_list cells ss)) ≡ Some row) (sym h) (dead_here slot (slice_get cells slot) row (dead_list cells ss) e)
dead_found cells slot row (s ∷ ss) e (inr h) =
    elim (is_same s slot) [
      | inl q ↦ subst (λ t. entries.find nat_cmp slot (cons_option (dead_entry t (slice_get cells t)) (dead_list cells ss)) ≡ Some row) (sym q) (dead_here slot (slice_get cells slot) row (dead_list cells ss) e)
      | inr n ↦ dead_off slot s (slice_get cells s) (dead_list cells ss) (Some row) n (dead_found cells slot row ss e h)
    ]

dead_missed : (cells : List Cell) (slot : ℕ) (slots : List ℕ) → dead_row (slice_get cells slot) ≡ None → entries.find nat_cmp slot (dead_list cells slots) ≡ None
dead_missed cells slot [] e = refl
dead_missed cells slot (s ∷ ss) e =
    elim (is_same s slot) [
      | inl q ↦ subst (λ t. entries.find nat_cmp slot (cons_option (dead_entry t (slice_get cells t)) (dead_list cells ss)) ≡ None) (sym q) (dead_none slot (slice_get cells slot) (dead_list cells ss) None e (dead_missed cells slot ss e))
      | inr n ↦ dead_off slot s (slice_get cells s) (dead_list cells ss) None n (dead_missed cells slot ss e)
    ]

dead_among_is : (key : List ℕ) (cells : List Cell) (slots : List ℕ) (slot : ℕ) (o : Option Cell) → IsFragment key cells slots → slice_get cells slot ≡ o → entries.find nat_cmp slot (dead_list cells slots) ≡ dead_row o
dead_among_is key cells slots slot None t e = dead_missed cells slot slots (ap dead_row e)
dead_among_is key cells slots slot (Some (Free n)) t e = dead_missed cells slot slots (ap dead_row e)
dead_among_is key cells slots slot (Some (Live row)) t e = dead_missed cells slot slots (ap dead_row e)
dead_among_is key cells slots slot (Some (Dead row)) t e = dead_found cells slot row slots e (t.listed slot row (ap (option_and_then row_in) e))

pub dead_at_is : (key : List ℕ) (cells : List Cell) (slots : List ℕ) (slot : ℕ) → IsFragment key cells slots → finite.get (finite.from_entries {R = nat_cmp} (dead_list cells slots)) slot ≡ dead_row (slice_get cells slot)
dead_at_is key cells slots slot t = dead_get cells slots slot ∙ dead_among_is key cells slots slot (slice_get cells slot) t refl
