-- What it says of a nest that no check of its streams, its touch sets and its windows refuses it.
use Rattle.std.proofs.Common.{◌≡◌, ◌∙◌, ◌==◌, ◌<◌, ◌≤◌, ◌+◌, ◌-◌, ◌&&◌, ◌⊎◌, not, ℕ, zero, suc, Bool, true, false, cond, List, [], ◌∷◌, ◌++◌, length, take, get_or, slice_get, Option, Some, None, refl, sym, ap, subst, inl, inr, append_assoc, length-append, arith}
use Rattle.std.specs.List.{filter, list_all, list_any, range_with_len}
use Rattle.std.specs.Option.{option_map}
use Rattle.std.proofs.Math.Seq.{take-append_seam}
use Rattle.std.proofs.lemmas.Bool.{and_parts, and_from, or_parts, both_ways, not-false, not_from_false, true_from_ne_false}
use Rattle.std.proofs.lemmas.List.{get_or_at}
use Rattle.std.proofs.lemmas.List.Folds.{list_any_at}
use Rattle.std.proofs.lemmas.List.FromFn.{get_or-range_with_len, length-range_with_len}
use Rattle.std.proofs.lemmas.Slice.Eq.{bytes_eq-Decides}
use Rattle.ss_lemmas.proofs.Bools.{either_so, first_of_two, second_of_two}
use Rattle.ss_lemmas.proofs.Numbers.{eqb_is}
use Rattle.ss_model.specs.declared.catalog.Catalog.{Catalog}
use Rattle.ss_model.specs.declared.catalog.Nest.{Nest}
use Rattle.ss_model.specs.declared.catalog.Procedure.{Procedure}
use Rattle.ss_model.specs.declared.catalog.Touch.{Touch}
use Rattle.ss_model.specs.declared.catalog.Touch.TheVariants.{Part, Arg, Multi, All}
use Rattle.ss_model.specs.declared.catalog.WindowDef.{WindowDef}
use Rattle.ss_model.specs.Bodies.{is_batches_unit, is_closed_by, owned_batch_windows}
use Rattle.ss_model.specs.Database.{takes_stream}
use Rattle.ss_model.specs.Orders.{procedure_has, procedure_emits, procedure_takes}
use Rattle.ss_model.specs.Nests.{FedBy, EachFed, IsClosed, members_emit, members_take, touch_of}
use Rattle.ss_nest.specs.Members.{stands_in}
use Rattle.ss_nest.specs.Joinable.{same_touch, is_fed, is_fed_at, is_closed, others_take, is_shared, is_open, touches, all_touch, has_two_touches, owns_batches, has_batches}

-- ---- lists

-- what passes at a number of a range
pub in_range : (f : ℕ → Bool) (n s : ℕ) → s < n → f s ≡ true → list_any f (range_with_len 0 n) ≡ true
in_range f n s h e =
    let within : s < length (range_with_len 0 n) = subst (λ k. s < k) (sym (length-range_with_len 0 n)) h in
    let number : 0 + s ≡ s = omega arith in
    list_any_at f (range_with_len 0 n) s 0 within (ap f (get_or-range_with_len 0 n s 0 h ∙ number) ∙ e)

-- what holds of all holds of one of them
pub of_one : (test : ℕ → Bool) (xs : List ℕ) (x : ℕ) → list_all test xs ≡ true → list_any (λ n. n == x) xs ≡ true → test x ≡ true
of_one test [] x all among = absurd (cc)
of_one test (y ∷ ys) x all among = by (either_so (y == x) _ among) (of_one test ys x (second_of_two _ _ all))
  where
    by : ((y == x) ≡ true) ⊎ (list_any (λ n. n == x) ys ≡ true) → (list_any (λ n. n == x) ys ≡ true → test x ≡ true) → test x ≡ true
    by (inl here) rest = subst (λ z. test z ≡ true) (eqb_is y x here) (first_of_two _ _ all)
    by (inr there) rest = rest there

-- and what holds of none of them does not
pub of_none : (test : ℕ → Bool) (xs : List ℕ) (x : ℕ) → list_any test xs ≡ false → list_any (λ n. n == x) xs ≡ true → test x ≡ false
of_none test [] x none among = absurd (cc)
of_none test (y ∷ ys) x none among = by (or_parts (test y) (list_any test ys) none) (either_so (y == x) _ among) (of_none test ys x)
  where
    by : (test y ≡ false) × (list_any test ys ≡ false) → ((y == x) ≡ true) ⊎ (list_any (λ n. n == x) ys ≡ true)
        → (list_any test ys ≡ false → list_any (λ n. n == x) ys ≡ true → test x ≡ false) → test x ≡ false
    by parts (inl here) rest = subst (λ z. test z ≡ false) (eqb_is y x here) parts.0
    by parts (inr there) rest = rest parts.1 there

-- one that passes
some_one : (test : ℕ → Bool) (xs : List ℕ) → list_any test xs ≡ true → (x : ℕ) × (test x ≡ true)
some_one test [] e = absurd (cc)
some_one test (x ∷ xs) e = by (either_so (test x) _ e) (some_one test xs)
  where
    by : (test x ≡ true) ⊎ (list_any test xs ≡ true) → (list_any test xs ≡ true → (y : ℕ) × (test y ≡ true)) → (y : ℕ) × (test y ≡ true)
    by (inl here) rest = (x, here)
    by (inr there) rest = rest there

empty_filter : (p : ℕ → Bool) (xs : List ℕ) → ((x : ℕ) → p x ≡ false) → filter p xs ≡ []
empty_filter p [] none = refl
empty_filter p (x ∷ xs) none = ap (λ b. cond b (x ∷ filter p xs) (filter p xs)) (none x) ∙ empty_filter p xs none

has_within : (test : Procedure → Bool) (ps : List Procedure) (q : ℕ) → procedure_has test (slice_get ps q) ≡ true → q < length ps
has_within test [] q h = absurd (cc)
has_within test (p ∷ ps) zero h = omega arith
has_within test (p ∷ ps) (suc q) h = let l = has_within test ps q h in omega arith

-- ---- touch sets

same_touch_is : (t u : Touch) → same_touch t u ≡ true → t ≡ u
same_touch_is (Part p) (Part q) e = ap Part (eqb_is p q e)
same_touch_is (Part p) (Arg q) e = absurd (cc)
same_touch_is (Part p) (Multi qs) e = absurd (cc)
same_touch_is (Part p) All e = absurd (cc)
same_touch_is (Arg p) (Part q) e = absurd (cc)
same_touch_is (Arg p) (Arg q) e = ap Arg (eqb_is p q e)
same_touch_is (Arg p) (Multi qs) e = absurd (cc)
same_touch_is (Arg p) All e = absurd (cc)
same_touch_is (Multi ps) (Part q) e = absurd (cc)
same_touch_is (Multi ps) (Arg q) e = absurd (cc)
same_touch_is (Multi ps) (Multi qs) e = ap Multi ((bytes_eq-Decides ps qs).0 e)
same_touch_is (Multi ps) All e = absurd (cc)
same_touch_is All (Part q) e = absurd (cc)
same_touch_is All (Arg q) e = absurd (cc)
same_touch_is All (Multi qs) e = absurd (cc)
same_touch_is All All e = refl

module _ (c : Catalog) where
  -- ---- streams

  fed_by : (before : List ℕ) (o : Option Procedure) → procedure_has (λ p. list_all (members_emit c before) p.inputs) o ≡ true → FedBy c before o
  fed_by before None h = absurd (cc)
  fed_by before (Some p) h = h

  each_fed : (before behind : List ℕ) (n : ℕ) → length before ≡ n → list_all (is_fed_at c (before ++ behind)) (range_with_len n (length behind)) ≡ true → EachFed c before behind
  each_fed before [] n count h = tt
  each_fed before (q ∷ qs) n count h =
      let parts = and_parts (is_fed_at c (before ++ q ∷ qs) n) (list_all (is_fed_at c (before ++ q ∷ qs)) (range_with_len (n + 1) (length qs))) h in
      let front : take n (before ++ q ∷ qs) ≡ before = ap (λ k. take k (before ++ q ∷ qs)) (sym count) ∙ take-append_seam before (q ∷ qs) in
      let item : get_or (before ++ q ∷ qs) n 0 ≡ q = get_or_at before q qs 0 n count in
      let here : is_fed c before q ≡ true = (λ i. is_fed c (sym front i) (sym item i)) ∙ parts.0 in
      let longer : length (before ++ q ∷ []) ≡ n + 1 = omega (arith, length-append before (q ∷ []), count) in
      let same : before ++ q ∷ qs ≡ (before ++ q ∷ []) ++ qs = sym (append_assoc before (q ∷ []) qs) in (
        fed_by before (slice_get c.procedures q) here,
        each_fed (before ++ q ∷ []) qs (n + 1) longer (subst (λ ms. list_all (is_fed_at c ms) (range_with_len (n + 1) (length qs)) ≡ true) same parts.1),
      )

  -- later members take what earlier ones emit
  pub closed_of : (members : List ℕ) → 2 ≤ length members → is_closed c members ≡ true → IsClosed c members
  closed_of [] several h = absurd (omega arith)
  closed_of (q ∷ qs) several h =
      let count : length (q ∷ qs) - 1 ≡ length qs = omega arith in
      each_fed (q ∷ []) qs 1 refl (subst (λ k. list_all (is_fed_at c (q ∷ qs)) (range_with_len 1 k) ≡ true) count h)

  -- a stream between members is no other's
  pub inside_of : (members : List ℕ) → ((m s : ℕ) → procedure_emits c m s ≡ true → s < length c.streams) → list_any (is_shared c members) (range_with_len 0 (length c.streams)) ≡ false
      → (s q : ℕ) → members_emit c members s ≡ true → members_take c members s ≡ true → procedure_takes c q s ≡ true → list_any (λ n. n == q) members ≡ true
  inside_of members there none s q emit take takes =
      true_from_ne_false (stands_in members q) (λ outside.
      let emitter = some_one (λ m. procedure_emits c m s) members emit in
      let other = in_range (λ p. procedure_takes c p s && not (stands_in members p)) (length c.procedures) q (has_within (takes_stream s) c.procedures q takes)
      (and_from (procedure_takes c q s) (not (stands_in members q)) takes (not_from_false _ outside)) in
      let shared = and_from (members_emit c members s && members_take c members s) (others_take c members s) (and_from (members_emit c members s) (members_take c members s) emit take) other in
      both_ways _ none (in_range (is_shared c members) (length c.streams) s (there emitter.0 s emitter.1) shared))

  -- a nest that is not open
  pub record NotOpen (members : List ℕ) : Type 0 where
    pub closed : is_closed c members ≡ true
    pub unshared : list_any (is_shared c members) (range_with_len 0 (length c.streams)) ≡ false

  pub not_open : (nest : Nest) → is_open c nest ≡ false → NotOpen nest.members
  not_open nest e =
      let parts = or_parts (not (is_closed c nest.members)) (list_any (is_shared c nest.members) (range_with_len 0 (length c.streams))) e in
      record { closed = not-false (is_closed c nest.members) parts.0; unshared = parts.1 }

  -- ---- touch sets

  touched : (t : Touch) (o : Option Procedure) → procedure_has (λ p. same_touch p.touch t) o ≡ true → option_map (λ (p : Procedure). p.touch) o ≡ Some t
  touched t None h = absurd (cc)
  touched t (Some p) h = ap Some (same_touch_is p.touch t h)

  touches_all : (members : List ℕ) (o : Option Procedure) → all_touch c members o ≡ true → (p q : ℕ) → list_any (λ n. n == p) members ≡ true → list_any (λ n. n == q) members ≡ true
      → touch_of c p ≡ touch_of c q
  touches_all members None h p q one other = absurd (cc)
  touches_all members (Some first) h p q one other =
      touched first.touch (slice_get c.procedures p) (of_one (touches c first.touch) members p h one)
      ∙ sym (touched first.touch (slice_get c.procedures q) (of_one (touches c first.touch) members q h other))

  -- members touch the same
  pub same_touch_of : (nest : Nest) → has_two_touches c nest ≡ false → (p q : ℕ) → list_any (λ n. n == p) nest.members ≡ true → list_any (λ n. n == q) nest.members ≡ true → touch_of c p ≡ touch_of c q
  same_touch_of nest e = touches_all nest.members (slice_get c.procedures (get_or nest.members 0 0)) (not-false _ e)

  -- ---- windows

  not_closed_by : (q : ℕ) (ds : List WindowDef) → list_any (λ d. (d.owner == q) && is_batches_unit d.unit) ds ≡ false → (w : ℕ) → is_closed_by q (slice_get ds w) ≡ false
  not_closed_by q [] e w = refl
  not_closed_by q (d ∷ ds) e zero = (or_parts ((d.owner == q) && is_batches_unit d.unit) (list_any (λ x. (x.owner == q) && is_batches_unit x.unit) ds) e).0
  not_closed_by q (d ∷ ds) e (suc w) = not_closed_by q ds (or_parts ((d.owner == q) && is_batches_unit d.unit) (list_any (λ x. (x.owner == q) && is_batches_unit x.unit) ds) e).1 w

  -- no member has a window of batches
  pub by_rows_of : (nest : Nest) → has_batches c nest ≡ false → (q : ℕ) → list_any (λ n. n == q) nest.members ≡ true → owned_batch_windows c q ≡ []
  by_rows_of nest e q among =
      empty_filter (λ n. is_closed_by q (slice_get c.windows n)) (range_with_len 0 (length c.windows)) (not_closed_by q c.windows (of_none (owns_batches c) nest.members q e among))
