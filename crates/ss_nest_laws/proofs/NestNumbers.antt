-- The numbers that procedures have in a catalogue with nests, and whose windows a nest has.
use Rattle.std.proofs.Common.{◌≡◌, ◌≤◌, ◌<◌, ◌==◌, ◌&&◌, ◌+◌, ◌-◌, ◌⊎◌, ◌≢◌, inl, inr, nat_lt, ℕ, zero, suc, Bool, true, false, cond, List, [], ◌∷◌, map, length, get_or, slice_get, unwrap_or, refl, sym, ap, ◌∙◌, subst, Some, None, arith}
use Rattle.std.specs.declared.option.Option.{Option}
use Rattle.std.specs.List.{filter, flat_map, list_any, range_with_len}
use Rattle.std.specs.Option.{option_map}
use Rattle.std.proofs.lemmas.Bool.{ltb-true, ltb-false, or_left, or_right, or_parts}
use Rattle.std.proofs.lemmas.Bool.Decides.{eqb_tells}
use Rattle.std.proofs.lemmas.List.{length-append}
use Rattle.std.proofs.lemmas.List.Folds.{list_any-append}
use Rattle.std.proofs.lemmas.Option.{slice_get-map}
use Rattle.ss_model.specs.declared.catalog.Catalog.{Catalog}
use Rattle.ss_model.specs.declared.catalog.Nest.{Nest}
use Rattle.ss_model.specs.declared.catalog.WindowDef.{WindowDef}
use Rattle.ss_model.specs.Contents.{default_window}
use Rattle.ss_model.specs.Bodies.{is_batches_unit, is_closed_by, owned_batch_windows}
use Rattle.ss_model.specs.Nests.{numbers_apart, nest_head, stands_for, nested_number, nested_window, nested_catalog}
use Rattle.ss_lemmas.proofs.Bools.{first_of_two, some_same, is_false, either_so}
use Rattle.ss_lemmas.proofs.Numbers.{eqb_self, eqb_is}
use Rattle.ss_lemmas.proofs.Filtered.{filter_takes, filter_passes_by}
use Rattle.ss_nest_laws.proofs.Lists.{among, head_among, first_among, in_filtered, apart_behind, not_both}

abbrev pub all_members : List Nest → List ℕ
all_members nests = flat_map (λ (nest : Nest). nest.members) nests

pub among_all : (nests : List Nest) (i : ℕ) (nest : Nest) → slice_get nests i ≡ Some nest → (q : ℕ) → among q nest.members ≡ true → among q (all_members nests) ≡ true
among_all [] i nest is q a = cc
among_all (m ∷ ms) zero nest is q a =
    list_any-append (λ n. n == q) m.members (all_members ms) ∙ or_left (among q m.members) _ (subst (λ (z : Nest). among q z.members ≡ true) (sym (some_same m nest is)) a)
among_all (m ∷ ms) (suc i) nest is q a = list_any-append (λ n. n == q) m.members (all_members ms) ∙ or_right (among q m.members) _ (among_all ms i nest is q a)

-- one of all members is a member of some nest
pub record InNest (nests : List Nest) (q : ℕ) : Type 0 where
  pub place : ℕ
  pub nest : Nest
  pub there : slice_get nests place ≡ Some nest
  pub member : among q nest.members ≡ true

pub some_nest : (nests : List Nest) (q : ℕ) → among q (all_members nests) ≡ true → InNest nests q
some_nest [] q a = cc
some_nest (m ∷ ms) q a = by (some_nest ms q) (either_so _ _ (sym (list_any-append (λ n. n == q) m.members (all_members ms)) ∙ a))
  where
    by : (among q (all_members ms) ≡ true → InNest ms q) → (among q m.members ≡ true) ⊎ (among q (all_members ms) ≡ true) → InNest (m ∷ ms) q
    by later (inl here) = record { place = 0; nest = m; there = refl; member = here }
    by later (inr behind) = let k = later behind in record { place = suc k.place; nest = k.nest; there = k.there; member = k.member }

-- and of no other
pub same_place : (nests : List Nest) → numbers_apart (all_members nests) ≡ true → (q i j : ℕ) (nest other : Nest) → slice_get nests i ≡ Some nest → slice_get nests j ≡ Some other → among q nest.members ≡ true → among q other.members ≡ true → i ≡ j
same_place [] once q i j nest other is at a b = cc
same_place (m ∷ ms) once q zero zero nest other is at a b = refl
same_place (m ∷ ms) once q zero (suc j) nest other is at a b =
    absurd (not_both m.members (all_members ms) once q (subst (λ (z : Nest). among q z.members ≡ true) (sym (some_same m nest is)) a) (among_all ms j other at q b))
same_place (m ∷ ms) once q (suc i) zero nest other is at a b =
    absurd (not_both m.members (all_members ms) once q (subst (λ (z : Nest). among q z.members ≡ true) (sym (some_same m other at)) b) (among_all ms i nest is q a))
same_place (m ∷ ms) once q (suc i) (suc j) nest other is at a b = ap suc (same_place ms (apart_behind m.members (all_members ms) once) q i j nest other is at a b)

-- ---- who stands for a procedure

stands_in : (m : Nest) (ms : List Nest) (q : ℕ) → among q m.members ≡ true → stands_for (m ∷ ms) q ≡ unwrap_or (nest_head m) q
stands_in m ms q a = ap (λ b. cond b (unwrap_or (nest_head m) q) (stands_for ms q)) a

stands_out : (m : Nest) (ms : List Nest) (q : ℕ) → among q m.members ≡ false → stands_for (m ∷ ms) q ≡ stands_for ms q
stands_out m ms q a = ap (λ b. cond b (unwrap_or (nest_head m) q) (stands_for ms q)) a

-- a procedure in no nest stands for itself
pub stands_alone : (nests : List Nest) (q : ℕ) → among q (all_members nests) ≡ false → stands_for nests q ≡ q
stands_alone [] q out = refl
stands_alone (m ∷ ms) q out =
    let parts = or_parts _ _ (sym (list_any-append (λ n. n == q) m.members (all_members ms)) ∙ out) in
    stands_out m ms q parts.0 ∙ stands_alone ms q parts.1

-- itself, or a member of some nest
stands_where : (nests : List Nest) (q : ℕ) → (stands_for nests q ≡ q) ⊎ (among (stands_for nests q) (all_members nests) ≡ true)
stands_where [] q = inl refl
stands_where (m ∷ ms) q = by (among q m.members) refl (stands_where ms q)
  where
    by : (b : Bool) → among q m.members ≡ b → (stands_for ms q ≡ q) ⊎ (among (stands_for ms q) (all_members ms) ≡ true) → (stands_for (m ∷ ms) q ≡ q) ⊎ (among (stands_for (m ∷ ms) q) (all_members (m ∷ ms)) ≡ true)
    by true a later =
        inr (ap (λ z. among z (all_members (m ∷ ms))) (stands_in m ms q a)
        ∙ list_any-append (λ n. n == unwrap_or (nest_head m) q) m.members (all_members ms) ∙ or_left (among (unwrap_or (nest_head m) q) m.members) _ (first_among m.members q a))
    by false a (inl same) = inl (stands_out m ms q a ∙ same)
    by false a (inr there) =
        inr (ap (λ z. among z (all_members (m ∷ ms))) (stands_out m ms q a)
        ∙ list_any-append (λ n. n == stands_for ms q) m.members (all_members ms) ∙ or_right (among (stands_for ms q) m.members) _ there)

-- one outside the first nest is stood for by one outside it
still_outside : (m : Nest) (ms : List Nest) → numbers_apart (all_members (m ∷ ms)) ≡ true → (q : ℕ) → among q m.members ≡ false → among (stands_for ms q) m.members ≡ false
still_outside m ms once q a = is_false _ (λ inside. by inside (stands_where ms q))
  where
    by : among (stands_for ms q) m.members ≡ true → (stands_for ms q ≡ q) ⊎ (among (stands_for ms q) (all_members ms) ≡ true) → ⊥
    by inside (inl same) = let wrong : true ≡ false = sym inside ∙ ap (λ z. among z m.members) same ∙ a in cc
    by inside (inr there) = not_both m.members (all_members ms) once (stands_for ms q) inside there

pub stands_still : (nests : List Nest) → numbers_apart (all_members nests) ≡ true → (q : ℕ) → stands_for nests (stands_for nests q) ≡ stands_for nests q
stands_still [] once q = refl
stands_still (m ∷ ms) once q = by (among q m.members) refl (stands_still ms (apart_behind m.members (all_members ms) once) q)
  where
    same_head : (ms : List ℕ) (q z : ℕ) → among q ms ≡ true → unwrap_or (slice_get ms 0) z ≡ unwrap_or (slice_get ms 0) q
    same_head [] q z a = cc
    same_head (x ∷ xs) q z a = refl

    by : (b : Bool) → among q m.members ≡ b → stands_for ms (stands_for ms q) ≡ stands_for ms q → stands_for (m ∷ ms) (stands_for (m ∷ ms) q) ≡ stands_for (m ∷ ms) q
    by true a later =
        ap (stands_for (m ∷ ms)) (stands_in m ms q a) ∙ stands_in m ms (unwrap_or (nest_head m) q) (first_among m.members q a) ∙ same_head m.members q _ a ∙ sym (stands_in m ms q a)
    by false a later =
        ap (stands_for (m ∷ ms)) (stands_out m ms q a) ∙ stands_out m ms (stands_for ms q) (still_outside m ms once q a) ∙ later ∙ sym (stands_out m ms q a)

-- the first member stands for each member
pub stands_among : (nests : List Nest) → numbers_apart (all_members nests) ≡ true → (i : ℕ) (nest : Nest) → slice_get nests i ≡ Some nest → (head : ℕ) → nest_head nest ≡ Some head → (q : ℕ) → among q nest.members ≡ true → stands_for nests q ≡ head
stands_among [] once i nest is head at_head q a = cc
stands_among (m ∷ ms) once zero nest is head at_head q a =
    let same : m ≡ nest = some_same m nest is in
    stands_in m ms q (subst (λ (z : Nest). among q z.members ≡ true) (sym same) a) ∙ ap (λ (z : Nest). unwrap_or (nest_head z) q) same ∙ ap (λ o. unwrap_or o q) at_head
stands_among (m ∷ ms) once (suc i) nest is head at_head q a =
    stands_out m ms q (is_false _ (λ inside. not_both m.members (all_members ms) once q inside (among_all ms i nest is q a)))
    ∙ stands_among ms (apart_behind m.members (all_members ms) once) i nest is head at_head q a

-- and for no other procedure
pub stands_back : (nests : List Nest) → numbers_apart (all_members nests) ≡ true → (i : ℕ) (nest : Nest) → slice_get nests i ≡ Some nest → (head : ℕ) → nest_head nest ≡ Some head → (q : ℕ) → stands_for nests q ≡ head → among q nest.members ≡ true
stands_back [] once i nest is head at_head q e = cc
stands_back (m ∷ ms) once zero nest is head at_head q e = subst (λ (z : Nest). among q z.members ≡ true) same (by (among q m.members) refl)
  where
    same : m ≡ nest
    same = some_same m nest is

    head_there : among head m.members ≡ true
    head_there = head_among m.members head (ap (λ (z : Nest). nest_head z) same ∙ at_head)

    by : (b : Bool) → among q m.members ≡ b → among q m.members ≡ true
    by true a = a
    by false a =
        let out : among (stands_for ms q) m.members ≡ false = still_outside m ms once q a in
        let wrong : true ≡ false = sym head_there ∙ ap (λ z. among z m.members) (sym e ∙ stands_out m ms q a) ∙ out in cc
stands_back (m ∷ ms) once (suc i) nest is head at_head q e = by (among q m.members) refl (stands_back ms (apart_behind m.members (all_members ms) once) i nest is head at_head q)
  where
    by : (b : Bool) → among q m.members ≡ b → (stands_for ms q ≡ head → among q nest.members ≡ true) → among q nest.members ≡ true
    by true a later =
        absurd (not_both m.members (all_members ms) once head
        (subst (λ z. among z m.members ≡ true) (sym (stands_in m ms q a) ∙ e) (first_among m.members q a))
        (among_all ms i nest is head (head_among nest.members head at_head)))
    by false a later = later (sym (stands_out m ms q a) ∙ e)

-- ---- numbers

module _ (f : ℕ → Bool) where
  abbrev count : ℕ → ℕ
  count n = length (filter f (range_with_len 0 n))

  counted : (n : ℕ) → f n ≡ true → count (n + 1) ≡ count n + 1
  counted n e = ap length (sym (filter_takes f n e)) ∙ length-append (filter f (range_with_len 0 n)) (n ∷ [])

  count_next : (n : ℕ) → count n ≤ count (n + 1)
  count_next n = by (f n) refl
    where
      by : (b : Bool) → f n ≡ b → count n ≤ count (n + 1)
      by true e = let more : count (n + 1) ≡ count n + 1 = counted n e in omega arith
      by false e = let same : count n ≡ count (n + 1) = ap length (filter_passes_by f n e) in omega arith

  count_rises : (n k : ℕ) → count n ≤ count (n + k)
  count_rises n zero = let same : n + 0 ≡ n = omega arith in let still : count (n + 0) ≡ count n = ap count same in omega arith
  count_rises n (suc k) =
      let before : count n ≤ count (n + k) = count_rises n k in
      let next : count (n + k) ≤ count (n + k + 1) = count_next (n + k) in
      let same : n + k + 1 ≡ n + suc k = omega arith in
      let there : count (n + k + 1) ≡ count (n + suc k) = ap count same in
      omega arith

  count_above : (a b : ℕ) → f a ≡ true → a < b → count a < count b
  count_above a b e l =
      let more : count (a + 1) ≡ count a + 1 = counted a e in
      let rises : count (a + 1) ≤ count (a + 1 + (b - (a + 1))) = count_rises (a + 1) (b - (a + 1)) in
      let same : a + 1 + (b - (a + 1)) ≡ b = omega arith in
      let there : count (a + 1 + (b - (a + 1))) ≡ count b = ap count same in
      omega arith

  pub same_count : (a b : ℕ) → f a ≡ true → f b ≡ true → count a ≡ count b → a ≡ b
  same_count a b e g h = by (eqb_tells a b) (nat_lt a b) refl
    where
      by : ((a == b ≡ true) × (a ≡ b)) ⊎ ((a == b ≡ false) × (a ≢ b)) → (c : Bool) → nat_lt a b ≡ c → a ≡ b
      by (inl same) c is = same.1
      by (inr other) true is = let below : count a < count b = count_above a b e (ltb-true a b is) in absurd (omega arith)
      by (inr other) false is =
          let most : b ≤ a = ltb-false a b is in
          let less : b < a = (let apart = other.1 in grind arith) in
          let below : count b < count a = count_above b a g less in absurd (omega arith)

-- procedures with the same number are stood for by the same one
pub same_number : (nests : List Nest) → numbers_apart (all_members nests) ≡ true → (p q : ℕ) → nested_number nests p ≡ nested_number nests q → stands_for nests p ≡ stands_for nests q
same_number nests once p q e =
    same_count (λ n. stands_for nests n == n) (stands_for nests p) (stands_for nests q)
    (ap (λ z. z == stands_for nests p) (stands_still nests once p) ∙ eqb_self (stands_for nests p))
    (ap (λ z. z == stands_for nests q) (stands_still nests once q) ∙ eqb_self (stands_for nests q)) e

-- members have the number of their nest
pub number_same : (nests : List Nest) → numbers_apart (all_members nests) ≡ true → (i : ℕ) (nest : Nest) → slice_get nests i ≡ Some nest → (head : ℕ) → nest_head nest ≡ Some head → (q : ℕ) → among q nest.members ≡ true → nested_number nests q ≡ nested_number nests head
number_same nests once i nest is head at_head q a =
    ap (λ z. length (filter (λ n. stands_for nests n == n) (range_with_len 0 z)))
    (stands_among nests once i nest is head at_head q a ∙ sym (stands_among nests once i nest is head at_head head (head_among nest.members head at_head)))

-- ---- windows

pub windows_at : (nests : List Nest) (ds : List WindowDef) (n : ℕ) → get_or (map (nested_window nests) ds) n default_window ≡ record (get_or ds n default_window) { owner = (get_or (map (nested_window nests) ds) n default_window).owner }
windows_at nests [] n = refl
windows_at nests (d ∷ ds) zero = refl
windows_at nests (d ∷ ds) (suc n) = windows_at nests ds n

there_below : (ds : List WindowDef) (n : ℕ) (d : WindowDef) → slice_get ds n ≡ Some d → n < length ds
there_below [] n d is = cc
there_below (x ∷ ds) zero d is = omega arith
there_below (x ∷ ds) (suc n) d is = let l = there_below ds n d is in omega arith

filter_nothing : (f : ℕ → Bool) (ns : List ℕ) → ((n : ℕ) → f n ≡ false) → filter f ns ≡ []
filter_nothing f [] h = refl
filter_nothing f (n ∷ ns) h = ap (λ b. cond b (n ∷ filter f ns) (filter f ns)) (h n) ∙ filter_nothing f ns h

-- a nest whose members have no window of batches has none
pub nest_by_rows : (catalog : Catalog) (nests : List Nest) (text : List ℕ) → numbers_apart (all_members nests) ≡ true → (i : ℕ) (nest : Nest) → slice_get nests i ≡ Some nest → (head : ℕ) → nest_head nest ≡ Some head →
    ((q : ℕ) → among q nest.members ≡ true → owned_batch_windows catalog q ≡ []) → owned_batch_windows (nested_catalog catalog nests text) (nested_number nests head) ≡ []
nest_by_rows catalog nests text once i nest is head at_head by_rows =
    filter_nothing (λ n. is_closed_by (nested_number nests head) (slice_get (map (nested_window nests) catalog.windows) n)) _ (λ n.
    ap (is_closed_by (nested_number nests head)) (slice_get-map (nested_window nests) catalog.windows n) ∙ by n (slice_get catalog.windows n) refl)
  where
    other_unit : (b : Bool) → (b && false) ≡ false
    other_unit true = refl
    other_unit false = refl

    of : (n : ℕ) (d : WindowDef) → slice_get catalog.windows n ≡ Some d → (b : Bool) → is_batches_unit d.unit ≡ b → ((nested_number nests d.owner == nested_number nests head) && is_batches_unit d.unit) ≡ false
    of n d at_n false unit = ap (λ b. (nested_number nests d.owner == nested_number nests head) && b) unit ∙ other_unit _
    of n d at_n true unit = is_false _ (λ owned.
        let same : stands_for nests d.owner ≡ stands_for nests head = same_number nests once d.owner head (eqb_is _ _ (first_of_two _ _ owned)) in
        let member : among d.owner nest.members ≡ true = stands_back nests once i nest is head at_head d.owner (same ∙ stands_among nests once i nest is head at_head head (head_among nest.members head at_head)) in
        let own : is_closed_by d.owner (slice_get catalog.windows n) ≡ true = ap (is_closed_by d.owner) at_n ∙ ap (λ b. b && is_batches_unit d.unit) (eqb_self d.owner) ∙ unit in
        let there = in_filtered (λ n. is_closed_by d.owner (slice_get catalog.windows n)) (length catalog.windows) n (there_below catalog.windows n d at_n) own in
        let wrong : false ≡ true = sym (ap (list_any (λ i. i == n)) (by_rows d.owner member)) ∙ there in cc)

    by : (n : ℕ) (o : Option WindowDef) → slice_get catalog.windows n ≡ o → is_closed_by (nested_number nests head) (option_map (nested_window nests) o) ≡ false
    by n None at_n = refl
    by n (Some d) at_n = of n d at_n (is_batches_unit d.unit) refl
