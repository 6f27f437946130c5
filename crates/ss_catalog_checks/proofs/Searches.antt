-- What a search in a graph keeps true.
use Rattle.std.proofs.Common.{◌≡◌, ◌==◌, ◌<◌, ◌≤◌, ◌+◌, ◌⊎◌, inl, inr, ℕ, zero, suc, Bool, true, false, cond, ◌||◌, List, [], ◌∷◌, ◌++◌, length, set, get_or, replicate, Option, Some, None, arith, ap, refl, sym, subst, ◌∙◌}
use Rattle.std.specs.List.{find, range_with_len, sum_by}
use Rattle.std.proofs.lemmas.Bool.{cases_eq, cases_lt, eqb-true, eq-eqb, or_cases, or_left, or_right}
use Rattle.std.proofs.lemmas.List.{get_or-set_same, get_or_past, length-append, length-set, length-replicate}
use Rattle.std.proofs.lemmas.List.Folds.{list_any-append}
use Rattle.std.proofs.lemmas.List.Sums.{sum_by-cons}
use Rattle.ss_catalog_checks.specs.Graphs.{Reached, at_once, onward, is_among, has_edge, IsClosed, StartsWithin, with_flag, newly, fresh, FlagsReached}
use Rattle.ss_catalog_checks.proofs.Graphs.{or_none}

-- ---- flags

-- a set flag stays set
kept_by_set : (fs : List Bool) (n m : ℕ) → get_or fs n false ≡ true → get_or (set fs m true) n false ≡ true
kept_by_set [] n m h = h
kept_by_set (f ∷ fs) zero zero h = refl
kept_by_set (f ∷ fs) zero (suc m) h = h
kept_by_set (f ∷ fs) (suc n) zero h = h
kept_by_set (f ∷ fs) (suc n) (suc m) h = kept_by_set fs n m h

-- a set flag was set before, or is the one that was set
set_only : (fs : List Bool) (n m : ℕ) → get_or (set fs m true) n false ≡ true → (get_or fs n false ≡ true) ⊎ (n ≡ m)
set_only [] n m h = inl h
set_only (f ∷ fs) zero zero h = inr refl
set_only (f ∷ fs) zero (suc m) h = inl h
set_only (f ∷ fs) (suc n) zero h = inl h
set_only (f ∷ fs) (suc n) (suc m) h = elim (set_only fs n m h) [ inl y ↦ inl y | inr e ↦ inr (ap suc e) ]

-- no flag is set at first
none_set : (count n : ℕ) → get_or (replicate count false) n false ≡ true → ⊥
none_set zero n h = cc
none_set (suc count) zero h = cc
none_set (suc count) (suc n) h = none_set count n h

-- ---- flags of nodes

pub marked_length : (ns : List ℕ) (fs : List Bool) → length (with_flag fs ns) ≡ length fs
marked_length [] fs = refl
marked_length (n ∷ ns) fs = marked_length ns (set fs n true) ∙ length-set fs n true

kept_by_mark : (ns : List ℕ) (fs : List Bool) (n : ℕ) → get_or fs n false ≡ true → get_or (with_flag fs ns) n false ≡ true
kept_by_mark [] fs n h = h
kept_by_mark (m ∷ ns) fs n h = kept_by_mark ns (set fs m true) n (kept_by_set fs n m h)

mark_sets : (ns : List ℕ) (fs : List Bool) (n : ℕ) → is_among ns n ≡ true → n < length fs → get_or (with_flag fs ns) n false ≡ true
mark_sets [] fs n e h = absurd (cc)
mark_sets (m ∷ ns) fs n e h =
    elim (or_cases (n == m) (is_among ns n) e) [
      | inl y ↦ kept_by_mark ns (set fs m true) n (subst (λ k. get_or (set fs k true) n false ≡ true) (eqb-true n m y) (get_or-set_same fs n true false h))
      | inr y ↦ mark_sets ns (set fs m true) n y (subst (λ l. n < l) (sym (length-set fs m true)) h)
    ]

among_later : (n m : ℕ) (ns : List ℕ) → is_among ns n ≡ true → is_among (m ∷ ns) n ≡ true
among_later n m ns h = elim (n == m) as (λ b. (b || is_among ns n) ≡ true) [ true ↦ refl | false ↦ h ]

among_first : (n m : ℕ) (ns : List ℕ) → n ≡ m → is_among (m ∷ ns) n ≡ true
among_first n m ns e = ap (λ b. b || is_among ns n) (eq-eqb n m e)

mark_only : (ns : List ℕ) (fs : List Bool) (n : ℕ) → get_or (with_flag fs ns) n false ≡ true → (get_or fs n false ≡ true) ⊎ (is_among ns n ≡ true)
mark_only [] fs n h = inl h
mark_only (m ∷ ns) fs n h =
    elim (mark_only ns (set fs m true) n h) [
      | inl y ↦ elim (set_only fs n m y) [ inl z ↦ inl z | inr e ↦ inr (among_first n m ns e) ]
      | inr y ↦ inr (among_later n m ns y)
    ]

-- ---- nodes that are noted

-- a flag that is not set counts
abbrev pub unset : Bool → ℕ
unset b = cond b 0 1

-- as many are noted as flags are set
newly_counted : (fs : List Bool) (n : ℕ) → sum_by unset (set fs n true) + length (newly fs n) ≡ sum_by unset fs
newly_counted [] n = refl
newly_counted (true ∷ fs) zero = omega arith
newly_counted (false ∷ fs) zero =
    let a = sum_by-cons unset true fs in let b = sum_by-cons unset false fs in omega arith
newly_counted (f ∷ fs) (suc n) =
    let a = sum_by-cons unset f (set fs n true) in let b = sum_by-cons unset f fs in let r = newly_counted fs n in
    let e : length (newly (f ∷ fs) (suc n)) ≡ length (newly fs n) = shifted (get_or fs n true) in
    omega arith
  where
    shifted : (b : Bool) → length (cond b [] (suc n ∷ [])) ≡ length (cond b [] (n ∷ []))
    shifted true = refl
    shifted false = refl

pub fresh_counted : (ns : List ℕ) (fs : List Bool) → sum_by unset (with_flag fs ns) + length (fresh fs ns) ≡ sum_by unset fs
fresh_counted [] fs = omega arith
fresh_counted (n ∷ ns) fs =
    let r = fresh_counted ns (set fs n true) in let s = newly_counted fs n in
    let e = length-append (newly fs n) (fresh (set fs n true) ns) in
    omega arith

-- a number of two lists
pub among_front : (xs ys : List ℕ) (n : ℕ) → is_among xs n ≡ true → is_among (xs ++ ys) n ≡ true
among_front xs ys n h = list_any-append (λ m. n == m) xs ys ∙ or_left (is_among xs n) (is_among ys n) h

pub among_behind : (xs ys : List ℕ) (n : ℕ) → is_among ys n ≡ true → is_among (xs ++ ys) n ≡ true
among_behind xs ys n h = list_any-append (λ m. n == m) xs ys ∙ or_right (is_among xs n) (is_among ys n) h

pub among_either : (xs ys : List ℕ) (n : ℕ) → is_among (xs ++ ys) n ≡ true → (is_among xs n ≡ true) ⊎ (is_among ys n ≡ true)
among_either xs ys n h = or_cases (is_among xs n) (is_among ys n) (sym (list_any-append (λ m. n == m) xs ys) ∙ h)

-- what is noted is seen from then on, and what is seen then was seen before or is noted
newly_seen : (fs : List Bool) (n k : ℕ) → is_among (newly fs n) k ≡ true → (n ≡ k) × (n < length fs)
newly_seen fs n k h = by (get_or fs n true) refl h
  where
    by : (b : Bool) → get_or fs n true ≡ b → is_among (cond b [] (n ∷ [])) k ≡ true → (n ≡ k) × (n < length fs)
    by true e h = absurd (cc)
    by false e h = (sym (eqb-true k n (sym (or_none (k == n)) ∙ h)), inside (cases_lt n (length fs)) e)
      where
        inside : (n < length fs) ⊎ (length fs ≤ n) → get_or fs n true ≡ false → n < length fs
        inside (inl l) e = l
        inside (inr l) e = let z = get_or_past fs n true l in absurd (cc)

set_or_new : (fs : List Bool) (n k : ℕ) → get_or (set fs n true) k false ≡ true → (get_or fs k false ≡ true) ⊎ (is_among (newly fs n) k ≡ true)
set_or_new [] n k h = absurd (cc)
set_or_new (true ∷ fs) zero zero h = inl refl
set_or_new (false ∷ fs) zero zero h = inr refl
set_or_new (f ∷ fs) zero (suc k) h = inl h
set_or_new (f ∷ fs) (suc n) zero h = inl h
set_or_new (f ∷ fs) (suc n) (suc k) h = elim (set_or_new fs n k h) [ inl y ↦ inl y | inr y ↦ inr (shifted (get_or fs n true) y) ]
  where
    shifted : (b : Bool) → is_among (cond b [] (n ∷ [])) k ≡ true → is_among (cond b [] (suc n ∷ [])) (suc k) ≡ true
    shifted true y = absurd (cc)
    shifted false y = or_left (suc k == suc n) false (eq-eqb (suc k) (suc n) (ap suc (eqb-true k n (sym (or_none (k == n)) ∙ y))))

fresh_is_seen : (ns : List ℕ) (fs : List Bool) (k : ℕ) → is_among (fresh fs ns) k ≡ true → get_or (with_flag fs ns) k false ≡ true
fresh_is_seen [] fs k h = absurd (cc)
fresh_is_seen (n ∷ ns) fs k h =
    elim (among_either (newly fs n) (fresh (set fs n true) ns) k h) [
      | inl y ↦ let z = newly_seen fs n k y in kept_by_mark ns (set fs n true) k (subst (λ k. get_or (set fs n true) k false ≡ true) z.0 (get_or-set_same fs n true false z.1))
      | inr y ↦ fresh_is_seen ns (set fs n true) k y
    ]

seen_or_fresh : (ns : List ℕ) (fs : List Bool) (k : ℕ) → get_or (with_flag fs ns) k false ≡ true → (get_or fs k false ≡ true) ⊎ (is_among (fresh fs ns) k ≡ true)
seen_or_fresh [] fs k h = inl h
seen_or_fresh (n ∷ ns) fs k h =
    elim (seen_or_fresh ns (set fs n true) k h) [
      | inl y ↦ elim (set_or_new fs n k y) [ inl z ↦ inl z | inr z ↦ inr (among_front (newly fs n) (fresh (set fs n true) ns) k z) ]
      | inr y ↦ inr (among_behind (newly fs n) (fresh (set fs n true) ns) k y)
    ]

-- ---- a search

-- what is seen is reached, and what its edges lead to is seen where it isn't noted
pub record Search (graph : List (List ℕ)) (starts : List ℕ) (seen : List Bool) (todo : List ℕ) : Type 0 where
  pub seen_length : length seen ≡ length graph
  pub started : (n : ℕ) → is_among starts n ≡ true → get_or seen n false ≡ true
  pub sound : (n : ℕ) → get_or seen n false ≡ true → Reached (has_edge graph) (is_among starts) n
  pub noted : (n : ℕ) → is_among todo n ≡ true → get_or seen n false ≡ true
  pub followed : (n m : ℕ) → get_or seen n false ≡ true → has_edge graph n m ≡ true → (is_among todo n ≡ true) ⊎ (get_or seen m false ≡ true)

module _ (graph : List (List ℕ)) (starts : List ℕ) (closed : IsClosed graph (length graph)) (within : StartsWithin starts (length graph)) where
  -- at first, where the starts are seen and noted
  pub search_begins : Search graph starts (with_flag (replicate (length graph) false) starts) (fresh (replicate (length graph) false) starts)
  search_begins =
      let none = replicate (length graph) false in
      record {
        seen_length = marked_length starts none ∙ length-replicate (length graph) false;
        started = λ n e. mark_sets starts none n e (subst (λ l. n < l) (sym (length-replicate (length graph) false)) (within n e));
        sound = λ n h. elim (mark_only starts none n h) [ inl y ↦ absurd (none_set (length graph) n y) | inr y ↦ at_once y ];
        noted = λ n h. fresh_is_seen starts none n h;
        followed = λ n m h e. elim (seen_or_fresh starts none n h) [ inl y ↦ absurd (none_set (length graph) n y) | inr y ↦ inl y ];
      }

  -- where the edges of the last node that was noted are followed
  pub search_goes_on : (seen : List Bool) (todo : List ℕ) (n : ℕ) → Search graph starts seen (todo ++ n ∷ []) → Search graph starts (with_flag seen (get_or graph n [])) (todo ++ fresh seen (get_or graph n []))
  search_goes_on seen todo n s =
      let row = get_or graph n [] in
      let here : get_or seen n false ≡ true = s.noted n (among_behind todo (n ∷ []) n (or_left (n == n) false (eq-eqb n n refl))) in
      record {
        seen_length = marked_length row seen ∙ s.seen_length;
        started = λ m e. kept_by_mark row seen m (s.started m e);
        sound = λ m y. elim (mark_only row seen m y) [ inl z ↦ s.sound m z | inr z ↦ onward (s.sound n here) z ];
        noted = λ m h. elim (among_either todo (fresh seen row) m h) [ inl y ↦ kept_by_mark row seen m (s.noted m (among_front todo (n ∷ []) m y)) | inr y ↦ fresh_is_seen row seen m y ];
        followed = λ k m h e. elim (seen_or_fresh row seen k h) [ inl y ↦ followed_on k m e (s.followed k m y e) | inr y ↦ inl (among_behind todo (fresh seen row) k y) ];
      }
    where
      last : (k m : ℕ) → has_edge graph k m ≡ true → k ≡ n → get_or (with_flag seen (get_or graph n [])) m false ≡ true
      last k m e same =
          let f : has_edge graph n m ≡ true = subst (λ k. has_edge graph k m ≡ true) same e in
          mark_sets (get_or graph n []) seen m f (subst (λ l. m < l) (sym s.seen_length) (closed n m f))

      followed_on : (k m : ℕ) → has_edge graph k m ≡ true → (is_among (todo ++ n ∷ []) k ≡ true) ⊎ (get_or seen m false ≡ true) →
          (is_among (todo ++ fresh seen (get_or graph n [])) k ≡ true) ⊎ (get_or (with_flag seen (get_or graph n [])) m false ≡ true)
      followed_on k m e (inr y) = inr (kept_by_mark (get_or graph n []) seen m y)
      followed_on k m e (inl y) =
          elim (among_either todo (n ∷ []) k y) [
            | inl z ↦ inl (among_front todo (fresh seen (get_or graph n [])) k z)
            | inr z ↦ inr (last k m e (eqb-true k n (sym (or_none (k == n)) ∙ z)))
          ]

  -- where nothing is noted any more
  all_seen : (seen : List Bool) → Search graph starts seen [] → (n : ℕ) → Reached (has_edge graph) (is_among starts) n → get_or seen n false ≡ true
  all_seen seen s n (at_once e) = s.started _ e
  all_seen seen s n (onward r e) = elim (s.followed _ _ (all_seen seen s _ r) e) [ inl y ↦ absurd (cc) | inr y ↦ y ]

  pub search_ends : (seen : List Bool) → Search graph starts seen [] → FlagsReached (has_edge graph) (is_among starts) seen
  search_ends seen s n = (s.sound n, all_seen seen s n)

  -- a node is done with, and the nodes that it makes noted are no longer unset
  pub search_shrinks : (seen : List Bool) (todo : List ℕ) (n : ℕ) →
      sum_by unset (with_flag seen (get_or graph n [])) + length (todo ++ fresh seen (get_or graph n [])) < sum_by unset seen + length (todo ++ n ∷ [])
  search_shrinks seen todo n =
      let row = get_or graph n [] in
      let c = fresh_counted row seen in
      let a = length-append todo (fresh seen row) in let b = length-append todo (n ∷ []) in
      omega arith

-- ---- the first number that passes

found_by : (p : ℕ → Bool) (a n x : ℕ) (r : Option ℕ) → (r ≡ Some x → (p x ≡ true) × (a + 1 ≤ x) × (x < a + 1 + n)) → (b : Bool) → p a ≡ b → cond b (Some a) r ≡ Some x → (p x ≡ true) × (a ≤ x) × (x < a + suc n)
found_by p a n x r rest true e h = let same : a ≡ x = cc in (subst (λ k. p k ≡ true) same e, omega arith, omega arith)
found_by p a n x r rest false e h = let y = rest h in (y.0, omega (arith, y.1), omega (arith, y.2))

pub found_passes : (p : ℕ → Bool) (a n x : ℕ) → find p (range_with_len a n) ≡ Some x → (p x ≡ true) × (a ≤ x) × (x < a + n)
found_passes p a zero x h = absurd (cc)
found_passes p a (suc n) x h = found_by p a n x (find p (range_with_len (a + 1) n)) (found_passes p (a + 1) n x) (p a) refl h

none_by : (p : ℕ → Bool) (a n k : ℕ) (r : Option ℕ) → (r ≡ None → a + 1 ≤ k → k < a + 1 + n → p k ≡ false) → a ≤ k → k < a + suc n →
    (b : Bool) → p a ≡ b → cond b (Some a) r ≡ None → (k ≡ a) ⊎ (k ≡ a → ⊥) → p k ≡ false
none_by p a n k r rest l u true e h c = absurd (cc)
none_by p a n k r rest l u false e h (inl s) = ap p s ∙ e
none_by p a n k r rest l u false e h (inr d) = rest h (omega arith) (omega arith)

pub none_passes : (p : ℕ → Bool) (a n : ℕ) → find p (range_with_len a n) ≡ None → (k : ℕ) → a ≤ k → k < a + n → p k ≡ false
none_passes p a zero h k l u = absurd (omega arith)
none_passes p a (suc n) h k l u = none_by p a n k (find p (range_with_len (a + 1) n)) (λ r. none_passes p (a + 1) n r k) l u (p a) refl h (cases_eq k a)
