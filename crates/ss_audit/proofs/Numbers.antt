-- Numbers that are the same, either way round; the item behind a front; and numbers by clients.
use Rattle.std.proofs.Common.{◌≡◌, ◌∙◌, ◌<◌, ◌==◌, ◌⊎◌, inl, inr, ℕ, zero, suc, List, [], ◌∷◌, ◌++◌, length, get_or, replicate, set, slice_get, true, false, cond, Some, refl, sym, ap}
use Rattle.std.proofs.lemmas.Bool.{cases_Bool, eqb-false, eqb-true, eq-eqb}
use Rattle.std.proofs.lemmas.List.{get_or-set_other, get_or-set_same}

pub eq_flip : (a b : ℕ) → (a == b) ≡ (b == a)
eq_flip a b = by (cases_Bool (a == b)) (cases_Bool (b == a))
  where
    by : (a == b ≡ true) ⊎ (a == b ≡ false) → (b == a ≡ true) ⊎ (b == a ≡ false) → (a == b) ≡ (b == a)
    by (inl e) f = e ∙ sym (eq-eqb b a (sym (eqb-true a b e)))
    by (inr e) (inl f) = let same = eq-eqb a b (sym (eqb-true b a f)) in absurd (cc)
    by (inr e) (inr f) = e ∙ sym f

pub there : {A : Type 0} (front : List A) (x : A) (rest : List A) → slice_get (front ++ x ∷ rest) (length front) ≡ Some x
there [] x rest = refl
there (y ∷ front) x rest = there front x rest

pub no_number : (n q : ℕ) → ◌≡◌ {A = ℕ} (get_or (replicate n 0) q 0) 0
no_number zero q = refl
no_number (suc n) zero = refl
no_number (suc n) (suc q) = no_number n q

-- one number is another, and the rest are as they were
pub one_set : (xs : List ℕ) (n v other : ℕ) → n < length xs → get_or (set xs n v) other 0 ≡ cond (other == n) v (get_or xs other 0)
one_set xs n v other within = by (cases_Bool (other == n))
  where
    by : (other == n ≡ true) ⊎ (other == n ≡ false) → get_or (set xs n v) other 0 ≡ cond (other == n) v (get_or xs other 0)
    by (inl same) =
        ap (λ (k : ℕ). get_or (set xs n v) k 0) (eqb-true other n same)
        ∙ get_or-set_same xs n v 0 within
        ∙ sym (ap (λ b. cond b v (get_or xs other 0)) same)
    by (inr odd) = get_or-set_other xs n other v 0 (eqb-false other n odd) ∙ sym (ap (λ b. cond b v (get_or xs other 0)) odd)

-- functions that give the same everywhere are one
pub each_same : (f g : ℕ → ℕ) → ((n : ℕ) → f n ≡ g n) → f ≡ g
each_same f g h = λ k n. h n k
