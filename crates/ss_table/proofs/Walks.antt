-- A walk over a table's rows, by those of its parts.
use Rattle.std.proofs.Common.{◌≡◌, ℕ, ◌+◌, ◌*◌, ◌/◌, ◌%◌, ◌<◌, ◌==◌, suc, Bool, true, false, cond, List, [], ◌∷◌, map, length, inl, inr, refl, sym, ap, subst, ◌∙◌, Option, Some, None, option_map, unwrap_or, slice_get, arith}
use Rattle.std.specs.List.{find, AllByRecursion}
use Rattle.std.specs.Ordering.{is_lt}
use Rattle.std.specs.Option.{option_or, is_some}
use Rattle.std.specs.FinMap as finite
use Rattle.ss_lemmas.proofs.Bools.{is_false, some_same}
use Rattle.ss_value.specs.Rows.{Row}
use Rattle.ss_value.specs.Order.{row_cmp}
use Rattle.ss_value.specs.ValueOrder.{row_cmp_total, row_cmp-IsAntisymmetric}
use Rattle.ss_table.specs.declared.route.Route.{Route}
use Rattle.ss_table.specs.declared.part.Part.{Part}
use Rattle.ss_table.specs.TableValue.{TableValue, LiveRows, key_of, HasKey, row_at, row_among, first_in, after_in}
use Rattle.ss_table.specs.Keyed.{AreKeyed, StandsAtKey}
use Rattle.ss_table.specs.Unions.{united, head}
use Rattle.ss_table.specs.Routes.{place_of}
use Rattle.ss_table.specs.Parts.{wide, to_wide, with_values, wide_live, live_of, parts_of, table_of, slot_home, is_beyond, live_beyond, AreKeyedPart, HasKeyIfAny, IsPart, IsUnited}
use Rattle.ss_table.proofs.Unions.{get_first, or_none, cut_all, same_numbers}
use Rattle.ss_table.proofs.Wide.{entries_with_values, get_with_values, each_at, home_of_one}
use Rattle.ss_table.proofs.Slots.{at_key, at_slot, one_key, from_part}
use Rattle.ss_fragment.proofs.CallerLemmas.{is_same}
use Rattle.ss_table.proofs.Rows.{narrow, own_row, row_none, rest_is, whole_is, apart_at}
use Rattle.ss_table.proofs.Entries.{rows_so, slots_so, after_cut}
use Rattle.ss_table.proofs.Firsts.{all_beyond, first_is}
use Rattle.ss_table.proofs.Own.{stands}
use Rattle.ss_table.proofs.Joining.{same_itself}

-- ---- the rows of a table stand at their keys, in slots of their own

module _ (by : Route) (key : List ℕ) (fs : List Part) (u : IsUnited by key fs) (all : AllByRecursion AreKeyedPart fs) where
  keyed_at : (q : Row) (v : ℕ × Row) → finite.get (live_of fs) q ≡ Some v → StandsAtKey key (q, v)
  keyed_at q v e =
      let there = from_part fs q v e in
      let f : Part = there.1 in
      let part : IsPart key f = each_at (IsPart key) fs there.0 f u.each there.2 in
      let keyed = each_at AreKeyedPart fs there.0 f all there.2 in
      let s = narrow f.number (finite.get f.rows.live q) v.0 v.1 (sym (get_with_values (to_wide f.number) f.rows.live q) ∙ there.3) in
      let at = stands f.rows.key f.rows.live q (s.0, v.1) keyed.keyed s.1 in
      (at.0 ∙ ap (λ c. key_of c v.1) part.same_key, subst (λ c. HasKey c v.1) part.same_key at.1)

  one_slot : (k l : Row) (s : ℕ) (a b : Row) → finite.get (live_of fs) k ≡ Some (s, a) → finite.get (live_of fs) l ≡ Some (s, b) → k ≡ l
  one_slot k l s a b p q =
      let there = from_part fs k (s, a) p in
      let f : Part = there.1 in
      let part : IsPart key f = each_at (IsPart key) fs there.0 f u.each there.2 in
      let n = narrow f.number (finite.get f.rows.live k) s a (sym (get_with_values (to_wide f.number) f.rows.live k) ∙ there.3) in
      let rest : s % 8 ≡ f.number = rest_is f.number n.0 s part.below n.2 in
      let place : slot_home fs s ≡ there.0 = ap (place_of (parts_of fs)) rest ∙ ap (λ o. or_zero o) (apart_at 0 (parts_of fs) fs there.0 f u.apart there.2 ∙ ap Some (omega arith)) in
      let own : slice_get fs (slot_home fs s) ≡ Some f = ap (slice_get fs) place ∙ there.2 in
      let keyed = each_at AreKeyedPart fs there.0 f all there.2 in
      one_key f.rows.live k l (s / 8) a b keyed.apart (own_row by key fs u s f own k a p).1 (own_row by key fs u s f own l b q).1
    where
      or_zero : Option ℕ → ℕ
      or_zero o = unwrap_or o 0

  pub are_keyed : (limit : Option ℕ) → AreKeyed (table_of limit by key fs)
  are_keyed limit = record { keyed = rows_so (StandsAtKey key) (live_of fs) keyed_at; apart = slots_so (live_of fs) one_slot }

-- ---- the slot behind a slot's

pub cut_live : (key : List ℕ) (bound : Option Row) (fs : List Part) → united (map (live_beyond key bound) fs) ≡ finite.retain_keys (live_of fs) (is_beyond key bound)
cut_live key bound fs = ap united (map-two fs) ∙ sym (cut_all row_cmp_total (λ _. 0) row_cmp-IsAntisymmetric (map wide_live fs) (is_beyond key bound))
  where
    map-two : (fs : List Part) → map (live_beyond key bound) fs ≡ map (λ m. finite.retain_keys m (is_beyond key bound)) (map wide_live fs)
    map-two [] = refl
    map-two (f ∷ fs) = ap (λ l. live_beyond key bound f ∷ l) (map-two fs)

pub after_beyond : (h : TableValue) (slot : ℕ) (row : Row) → AreKeyed h → row_at h.live slot ≡ Some row → HasKey h.key row × (after_in (finite.entries h.live) slot ≡ first_in (finite.entries (finite.retain_keys h.live (is_beyond h.key (Some row)))))
after_beyond h slot row keyed e =
    let cut = after_cut h.live slot row e in
    let at = stands h.key h.live cut.0 (slot, row) keyed.keyed cut.1 in
    (at.1, cut.2 ∙ ap (λ k. first_in (finite.entries (finite.retain_keys h.live (λ other. is_lt (row_cmp k other))))) at.0)

pub all_live : (key : List ℕ) (fs : List Part) → united (map (live_beyond key None) fs) ≡ live_of fs
all_live key fs = cut_live key None fs ∙ all_beyond key (live_of fs)

known : (o : Option Row) → is_some o ≡ true → (row : Row) × (o ≡ Some row)
known None e = cc
known (Some row) e = (row, refl)

module _ (limit : Option ℕ) (by : Route) (key : List ℕ) (fs : List Part) (h : TableValue) (view : table_of limit by key fs ≡ h) (keyed : AreKeyed h) (slot : ℕ) (bound : Option Row) (is : bound ≡ row_at h.live slot) (some : is_some (row_at h.live slot) ≡ true) where
  -- a live slot's row is sought by a key that it has
  pub bound_has : HasKeyIfAny key bound
  bound_has =
      let r = known (row_at h.live slot) some in
      subst (λ o. HasKeyIfAny key o) (sym (is ∙ r.1)) (subst (λ c. HasKey c r.0) (sym (ap (λ (x : TableValue). x.key) view)) (after_beyond h slot r.0 keyed r.1).0)

  -- the slot behind it is the first of the least key behind its row's
  pub after_head : after_in (finite.entries h.live) slot ≡ option_map (λ e. e.1.0) (head (finite.entries (united (map (live_beyond key bound) fs))))
  after_head =
      let r = known (row_at h.live slot) some in
      (after_beyond h slot r.0 keyed r.1).1
      ∙ ap (λ (x : TableValue). first_in (finite.entries (finite.retain_keys x.live (is_beyond x.key (Some r.0))))) (sym view)
      ∙ ap (λ (m : LiveRows). first_in (finite.entries m)) (sym (cut_live key (Some r.0) fs))
      ∙ first_is (finite.entries (united (map (live_beyond key (Some r.0)) fs)))
      ∙ ap (λ b. option_map (λ (e : Row × (ℕ × Row)). e.1.0) (head (finite.entries (united (map (live_beyond key b) fs))))) (sym (is ∙ r.1))

-- ---- a table of one part

pub live_of_one : (f : Part) → live_of (f ∷ []) ≡ wide_live f
live_of_one f = finite.same_map row_cmp_total row_cmp-IsAntisymmetric _ _ (λ q. get_first row_cmp_total (wide_live f) [] q ∙ ap (option_or (finite.get (wide_live f) q)) (finite.get-empty row_cmp q) ∙ or_none (finite.get (wide_live f) q))

first_wide : (n : ℕ) (es : List (Row × (ℕ × Row))) → first_in (map (λ e. (e.0, to_wide n e.1)) es) ≡ option_map (wide n) (first_in es)
first_wide n [] = refl
first_wide n (e ∷ es) = refl

after_wide : (n s : ℕ) (es : List (Row × (ℕ × Row))) → after_in (map (λ e. (e.0, to_wide n e.1)) es) (wide n s) ≡ option_map (wide n) (after_in es s)
after_wide n s [] = refl
after_wide n s (e ∷ es) = ap (λ b. cond b (first_in (map (λ e. (e.0, to_wide n e.1)) es)) (after_in (map (λ e. (e.0, to_wide n e.1)) es) (wide n s))) (same_test e.1.0 s)
    ∙ elim (e.1.0 == s) as (λ b. cond b (first_in (map (λ e. (e.0, to_wide n e.1)) es)) (after_in (map (λ e. (e.0, to_wide n e.1)) es) (wide n s)) ≡ option_map (wide n) (cond b (first_in es) (after_in es s))) [
      | true ↦ first_wide n es
      | false ↦ after_wide n s es
    ]
  where
    same_test : (a b : ℕ) → (wide n a == wide n b) ≡ (a == b)
    same_test a b = grind arith

pub first_near_is : (f : Part) → first_in (finite.entries (wide_live f)) ≡ option_map (wide f.number) (first_in (finite.entries f.rows.live))
first_near_is f = ap first_in (entries_with_values (to_wide f.number) f.rows.live) ∙ first_wide f.number (finite.entries f.rows.live)

pub after_near_is : (f : Part) (s : ℕ) → after_in (finite.entries (wide_live f)) (wide f.number s) ≡ option_map (wide f.number) (after_in (finite.entries f.rows.live) s)
after_near_is f s = ap (λ es. after_in es (wide f.number s)) (entries_with_values (to_wide f.number) f.rows.live) ∙ after_wide f.number s (finite.entries f.rows.live)

among_more : (e : Row × (ℕ × Row)) (es : List (Row × (ℕ × Row))) (t : ℕ) (row : Row) → row_among es t ≡ Some row → (r : Row) × (row_among (e ∷ es) t ≡ Some r)
among_more e es t row is = elim (e.1.0 == t) as (λ b. (r : Row) × (option_map (λ (x : Row × (ℕ × Row)). x.1.1) (cond b (Some e) (find (λ (x : Row × (ℕ × Row)). x.1.0 == t) es)) ≡ Some r)) [ true ↦ (e.1.1, refl) | false ↦ (row, is) ]

-- the first slot has a row, and so has the one behind a slot
pub first_among : (es : List (Row × (ℕ × Row))) (t : ℕ) → first_in es ≡ Some t → (r : Row) × (row_among es t ≡ Some r)
first_among [] t e = cc
first_among (x ∷ es) t e = (x.1.1, ap (λ b. option_map (λ (x : Row × (ℕ × Row)). x.1.1) (cond b (Some x) (find (λ (x : Row × (ℕ × Row)). x.1.0 == t) es))) (ap (λ a. a == t) (some_same _ _ e) ∙ same_itself t))

pub after_among : (es : List (Row × (ℕ × Row))) (s t : ℕ) → after_in es s ≡ Some t → (r : Row) × (row_among es t ≡ Some r)
after_among [] s t e = cc
after_among (x ∷ es) s t e =
    let rest : (r : Row) × (row_among es t ≡ Some r) = elim (x.1.0 == s) as (λ b. cond b (first_in es) (after_in es s) ≡ Some t → (r : Row) × (row_among es t ≡ Some r)) [
      | true ↦ λ e. first_among es t e
      | false ↦ λ e. after_among es s t e
    ] e in
    among_more x es t rest.0 rest.1

-- a slot of a part is one of its fragment
pub wide_slot : (f : Part) (slot : ℕ) → f.number ≡ slot % 8 → wide f.number (slot / 8) ≡ slot
wide_slot f slot own = ap (λ p. slot / 8 * 8 + p) own ∙ whole_is slot

pub some_narrow : (f : Part) (slot : ℕ) → f.number ≡ slot % 8 → is_some (row_at (wide_live f) slot) ≡ true → is_some (row_at f.rows.live (slot / 8)) ≡ true
some_narrow f slot own some =
    let r = known (row_at (wide_live f) slot) some in
    let k = at_key (wide_live f) slot r.0 r.1 in
    let n = narrow f.number (finite.get f.rows.live k.0) slot r.0 (sym (get_with_values (to_wide f.number) f.rows.live k.0) ∙ k.1) in
    let same : n.0 ≡ slot / 8 = sym (front_of f.number n.0 slot own n.2) in
    let there = at_slot f.rows.live k.0 n.0 r.0 n.1 in
    ap is_some (ap (row_at f.rows.live) (sym same) ∙ there.1)
  where
    front_of : (p s slot : ℕ) → p ≡ slot % 8 → s * 8 + p ≡ slot → slot / 8 ≡ s
    front_of p s slot own e = omega (arith, own, e)

-- a list that is empty as a test says
pub none_others : (os slice : List Part) (test : Bool) → slice ≡ os → test ≡ (length slice == 0) → test ≡ true → os ≡ []
none_others [] slice test s e t = refl
none_others (o ∷ os) slice test s e t = let no : true ≡ false = sym t ∙ e ∙ ap (λ (l : List Part). length l == 0) s ∙ not_zero (length os) in cc
  where
    not_zero : (n : ℕ) → (suc n == 0) ≡ false
    not_zero n = grind arith

-- in a table of one part each live slot is of it
pub own_of_one : (by : Route) (key : List ℕ) (f : Part) → IsUnited by key (f ∷ []) → (slot : ℕ) → is_some (row_at (live_of (f ∷ [])) slot) ≡ true → f.number ≡ slot % 8
own_of_one by key f u slot some =
    let r = known (row_at (live_of (f ∷ [])) slot) some in
    elim (is_same f.number (slot % 8)) [
      | inl own ↦ own
      | inr other ↦ absurd (none_row r.0 (sym (row_none by key (f ∷ []) u slot f (ap (slice_get (f ∷ [])) (home_of_one f (slot % 8))) other) ∙ r.1))
    ]
  where
    none_row : (row : Row) → None ≡ Some row → ⊥
    none_row row e = cc
