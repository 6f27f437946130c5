-- A finite graph in which no number leads to itself has levels.
use Rattle.std.proofs.Common.{◌≡◌, ◌<◌, ◌&&◌, ◌||◌, inl, inr, ℕ, zero, suc, Bool, true, false, arith, refl, subst}
use Rattle.std.specs.List.{count_by, range_with_len}
use Rattle.std.proofs.lemmas.Bool.{cases_eq, or_cases, or_left, or_right, and_parts, and_from, false_from_ne_true}
use Rattle.std.proofs.lemmas.List.FromFn.{length-range_with_len}
use Rattle.std.proofs.lemmas.List.Sums.{count_by-le-length}
use Rattle.ss_lemmas.proofs.Counts.{fewer_counted}
use Rattle.ss_catalog_checks.proofs.Ending.{range_at}

module _ (edge : ℕ → ℕ → Bool) where
  -- from one number to another through numbers below a bound
  abbrev leads : ℕ → ℕ → ℕ → Bool
  leads zero a b = edge a b
  leads (suc k) a b = leads k a b || (leads k a k && leads k k b)

  at_once : (k a b : ℕ) → edge a b ≡ true → leads k a b ≡ true
  at_once zero a b e = e
  at_once (suc k) a b e = or_left (leads k a b) _ (at_once k a b e)

  to_last : (k a : ℕ) → leads (suc k) a k ≡ true → leads k a k ≡ true
  to_last k a h = elim (or_cases (leads k a k) (leads k a k && leads k k k) h) [ inl y ↦ y | inr y ↦ (and_parts _ _ y).0 ]

  from_last : (k b : ℕ) → leads (suc k) k b ≡ true → leads k k b ≡ true
  from_last k b h = elim (or_cases (leads k k b) (leads k k k && leads k k b) h) [ inl y ↦ y | inr y ↦ (and_parts _ _ y).1 ]

  through_last : (k a b : ℕ) → leads k a k ≡ true → leads k k b ≡ true → leads (suc k) a b ≡ true
  through_last k a b p q = or_right (leads k a b) _ (and_from _ _ p q)

  -- one way, and then another
  joined : (k a c b : ℕ) → c < k → leads k a c ≡ true → leads k c b ≡ true → leads k a b ≡ true
  joined zero a c b l p q = absurd (omega arith)
  joined (suc k) a c b l p q =
      elim (cases_eq c k) [
        | inl e ↦ through_last k a b (to_last k a (subst (λ c. leads (suc k) a c ≡ true) e p)) (from_last k b (subst (λ c. leads (suc k) c b ≡ true) e q))
        | inr d ↦
            let m : c < k = below l d in
            elim (or_cases (leads k a c) (leads k a k && leads k k c) p) [
              | inl x ↦ elim (or_cases (leads k c b) (leads k c k && leads k k b) q) [
                | inl y ↦ or_left (leads k a b) _ (joined k a c b m x y)
                | inr y ↦ let z = and_parts (leads k c k) (leads k k b) y in through_last k a b (joined k a c k m x z.0) z.1
              ]
              | inr x ↦
                  let u = and_parts (leads k a k) (leads k k c) x in
                  elim (or_cases (leads k c b) (leads k c k && leads k k b) q) [
                    | inl y ↦ through_last k a b u.0 (joined k k c b m u.1 y)
                    | inr y ↦ through_last k a b u.0 ((and_parts (leads k c k) (leads k k b) y).1)
                  ]
            ]
      ]
    where
      below : c < suc k → (c ≡ k → ⊥) → c < k
      below l d = omega arith

-- edges between the numbers below a bound, along ways of which none comes back
module _ (edge : ℕ → ℕ → Bool) (Way : ℕ → ℕ → Type 0) (one : (a b : ℕ) → edge a b ≡ true → Way a b) (join : (a c b : ℕ) → Way a c → Way c b → Way a b) (none : (a : ℕ) → Way a a → ⊥) (count : ℕ) where
  is_way : (k a b : ℕ) → leads edge k a b ≡ true → Way a b
  is_way zero a b h = one a b h
  is_way (suc k) a b h =
      elim (or_cases (leads edge k a b) (leads edge k a k && leads edge k k b) h) [
        | inl y ↦ is_way k a b y
        | inr y ↦ let z = and_parts (leads edge k a k) (leads edge k k b) y in join a k b (is_way k a k z.0) (is_way k k b z.1)
      ]

  -- how many lead to a number
  pub level : ℕ → ℕ
  level b = count_by (λ a. leads edge count a b) (range_with_len 0 count)

  not_back : (a : ℕ) → leads edge count a a ≡ false
  not_back a = false_from_ne_true (leads edge count a a) (λ h. none a (is_way count a a h))

  pub level_grows : (a b : ℕ) → a < count → edge a b ≡ true → level a < level b
  unfolding level
  level_grows a b l e =
      let on = at_once edge count a b e in
      fewer_counted (λ x. leads edge count x a) (λ x. leads edge count x b) (λ x h. joined edge count x a b l h on) (range_with_len 0 count) a a (range_at count a l) (not_back a) on

  pub level_within : (a : ℕ) → a < count → level a < count
  unfolding level
  level_within a l =
      let f = fewer_counted (λ x. leads edge count x a) (λ x. true) (λ x h. refl) (range_with_len 0 count) a a (range_at count a l) (not_back a) refl in
      let g = count_by-le-length (λ (x : ℕ). true) (range_with_len 0 count) in
      let n = length-range_with_len 0 count in
      omega arith
