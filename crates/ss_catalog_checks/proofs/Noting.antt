-- Each procedure counts once at a stream, and all of them give what a count of the list gives.
use Rattle.std.proofs.Common.{◌≡◌, ◌<◌, ◌≤◌, ◌+◌, ◌-◌, ◌||◌, nat_lt, ℕ, zero, suc, Bool, true, false, cond, List, [], ◌∷◌, length, slice_get, arith, refl, ap, sym, subst, ◌∙◌}
use Rattle.std.specs.List.{count_by, list_any, range_with_len}
use Rattle.std.proofs.lemmas.Bool.{ltb-true, lt-ltb, le-ltb}
use Rattle.ss_model.specs.declared.catalog.Procedure.{Procedure}
use Rattle.ss_model.specs.Orders.{procedure_has}
use Rattle.ss_catalog_checks.specs.declared.tallies.Count.{Count}
use Rattle.ss_catalog_checks.specs.Tallies.{count_with, tally, count_at, StayBelow}
use Rattle.ss_lemmas.proofs.Counts.{tick, count_cons}
use Rattle.ss_lemmas.proofs.Firsts.{range_on, range_done}

-- a mark that is counted counts no more
pub counted_twice : (m : ℕ) (t : Count) → count_with m (count_with m t) ≡ count_with m t
counted_twice m t = by (nat_lt t.below m) refl
  where
    by : (b : Bool) → nat_lt t.below m ≡ b → count_with m (cond b (record { count = suc t.count; below = m }) t) ≡ cond b (record { count = suc t.count; below = m }) t
    by true e = let f = le-ltb m m (omega arith) in ap (λ b. cond b (record { count = suc (suc t.count); below = m }) (record { count = suc t.count; below = m })) f
    by false e = ap (λ b. cond b (record { count = suc t.count; below = m }) t) e

-- a procedure that passes twice counts once
pub noted_twice : (a b : Bool) (m : ℕ) (t : Count) → tally b m (tally a m t) ≡ tally (a || b) m t
noted_twice true true m t = counted_twice m t
noted_twice true false m t = refl
noted_twice false true m t = refl
noted_twice false false m t = refl

-- no more are counted than the mark says
pub noted_below : (a : Bool) (m : ℕ) (t : Count) → t.count ≤ t.below → (tally a m t).count ≤ (tally a m t).below
noted_below false m t h = h
noted_below true m t h = by (nat_lt t.below m) refl
  where
    by : (b : Bool) → nat_lt t.below m ≡ b → (cond b (record { count = suc t.count; below = m }) t).count ≤ (cond b (record { count = suc t.count; below = m }) t).below
    by true e = let l = ltb-true t.below m e in omega arith
    by false e = h

-- the tallies that a procedure noted stay below their marks
pub stay_below : (passes : ℕ → Bool) (m : ℕ) (before after : List Count) → StayBelow before → ((s : ℕ) → count_at after s ≡ tally (passes s) m (count_at before s)) → StayBelow after
stay_below passes m before after h e = λ s. subst (λ t. t.count ≤ t.below) (sym (e s)) (noted_below (passes s) m (count_at before s) (h s))

-- ---- all procedures

module _ (has : ℕ → Bool) (n p total : ℕ) (h : p < n) (t u : Count) (e : u ≡ tally (has p) (suc p) t) (below : t.below ≤ p) where
  -- one more procedure, of those that are still to be counted
  pub count_on : t.count + count_by has (range_with_len p (n - p)) ≡ total → u.count + count_by has (range_with_len (p + 1) (n - (p + 1))) ≡ total
  count_on c =
      let rest = count_by has (range_with_len (p + 1) (n - (p + 1))) in
      let d : count_by has (range_with_len p (n - p)) ≡ tick (has p) + rest = ap (count_by has) (range_on n p h) ∙ count_cons has p (range_with_len (p + 1) (n - (p + 1))) in
      ap (λ v. v.count + rest) e ∙ by (has p) rest (ap (λ k. t.count + k) (sym d) ∙ c)
    where
      by : (b : Bool) (rest : ℕ) → t.count + (tick b + rest) ≡ total → (tally b (suc p) t).count + rest ≡ total
      by true rest c = let l = lt-ltb t.below (suc p) (omega arith) in ap (λ b. (cond b (record { count = suc t.count; below = suc p }) t).count + rest) l ∙ omega arith
      by false rest c = omega arith

  pub below_on : u.below ≤ p + 1
  below_on = subst (λ v. v.below ≤ p + 1) (sym e) (by (has p))
    where
      by : (b : Bool) → (tally b (suc p) t).below ≤ p + 1
      by true = let l = lt-ltb t.below (suc p) (omega arith) in subst (λ b. (cond b (record { count = suc t.count; below = suc p }) t).below ≤ p + 1) (sym l) (omega arith)
      by false = omega arith

-- where none is left, all are counted
pub all_counted : (has : ℕ → Bool) (n p total : ℕ) (t : Count) → n ≤ p → t.count + count_by has (range_with_len p (n - p)) ≡ total → t.count ≡ total
all_counted has n p total t h c =
    let d : count_by has (range_with_len p (n - p)) ≡ 0 = ap (count_by has) (range_done n p h) in
    omega arith

-- ---- a count by numbers

count_ranges : (f g : ℕ → Bool) (a b n : ℕ) → ((k : ℕ) → f (a + k) ≡ g (b + k)) → count_by f (range_with_len a n) ≡ count_by g (range_with_len b n)
count_ranges f g a b zero h = refl
count_ranges f g a b (suc n) h =
    let c = count_cons f a (range_with_len (a + 1) n) in
    let d = count_cons g b (range_with_len (b + 1) n) in
    let first : f a ≡ g b = ap f (sym (plus_none a)) ∙ h 0 ∙ ap g (plus_none b) in
    let t : tick (f a) ≡ tick (g b) = ap (λ v. tick v) first in
    let rest = count_ranges f g (a + 1) (b + 1) n (λ k. ap f (shift a k) ∙ h (suc k) ∙ ap g (sym (shift b k))) in
    c ∙ (let e : tick (f a) + count_by f (range_with_len (a + 1) n) ≡ tick (g b) + count_by g (range_with_len (b + 1) n) = omega arith in e) ∙ sym d
  where
    plus_none : (m : ℕ) → m + 0 ≡ m
    plus_none m = omega arith

    shift : (m k : ℕ) → (m + 1) + k ≡ m + suc k
    shift m k = omega arith

-- a count of a list is that of its numbers
pub count_numbers : (test : Procedure → Bool) (ps : List Procedure) → count_by (λ p. procedure_has test (slice_get ps p)) (range_with_len 0 (length ps)) ≡ count_by test ps
count_numbers test [] = refl
count_numbers test (x ∷ ps) =
    let f = λ (p : ℕ). procedure_has test (slice_get (x ∷ ps) p) in
    let g = λ (p : ℕ). procedure_has test (slice_get ps p) in
    let c = count_cons f 0 (range_with_len 1 (length ps)) in
    let d = count_cons test x ps in
    let r = count_ranges f g 1 0 (length ps) (λ k. ap f (one_more k) ∙ ap g (sym (none_more k))) in
    let rest = count_numbers test ps in
    c ∙ ap (λ n. tick (test x) + n) (r ∙ rest) ∙ sym d
  where
    one_more : (k : ℕ) → 1 + k ≡ suc k
    one_more k = omega arith

    none_more : (k : ℕ) → 0 + k ≡ k
    none_more k = omega arith

-- one of a list passes where not none is counted
pub any_counted : {A : Type 0} (test : A → Bool) (xs : List A) → list_any test xs ≡ nat_lt 0 (count_by test xs)
any_counted test [] = refl
any_counted test (x ∷ xs) = by (test x) (any_counted test xs) ∙ ap (λ n. nat_lt 0 n) (sym (count_cons test x xs))
  where
    by : (b : Bool) → list_any test xs ≡ nat_lt 0 (count_by test xs) → (b || list_any test xs) ≡ nat_lt 0 (tick b + count_by test xs)
    by true e = sym (lt-ltb 0 (1 + count_by test xs) (omega arith))
    by false e = e ∙ ap (λ n. nat_lt 0 n) (let z : count_by test xs ≡ 0 + count_by test xs = omega arith in z)

-- ---- before the first procedure

pub none_below : (ts : List Count) (s : ℕ) → ts ≡ [] → (count_at ts s).count ≤ (count_at ts s).below
none_below ts s e = subst (λ us. (count_at us s).count ≤ (count_at us s).below) (sym e) (omega arith)

pub none_marked : (ts : List Count) (s : ℕ) → ts ≡ [] → (count_at ts s).below ≤ 0
none_marked ts s e = subst (λ us. (count_at us s).below ≤ 0) (sym e) (omega arith)

pub all_left : (has : ℕ → Bool) (n total : ℕ) (ts : List Count) (s : ℕ) → ts ≡ [] → count_by has (range_with_len 0 n) ≡ total → (count_at ts s).count + count_by has (range_with_len 0 (n - 0)) ≡ total
all_left has n total ts s e c =
    let z : n - 0 ≡ n = omega arith in
    let a : (count_at ts s).count ≡ 0 = ap (λ us. (count_at us s).count) e in
    let b : count_by has (range_with_len 0 (n - 0)) ≡ total = ap (λ k. count_by has (range_with_len 0 k)) z ∙ c in
    omega arith
