-- Tests of numbers.
use Rattle.std.proofs.Common.{◌≡◌, ◌≤◌, ◌==◌, ◌/◌, ◌*◌, ℕ, zero, suc, Bool, true, false, refl, arith, ◌-◌, ◌≢◌, ◌∙◌, ◌⊎◌, inl, inr, sym}
use Rattle.std.proofs.lemmas.Bool.Decides.{nat_tests, eqb_tells}
use Rattle.std.proofs.lemmas.Nat.{le-div}
use Rattle.std.proofs.Math.Nat.{div-mul-le_self, mul-le-mul_right, le_trans}

pub eqb_self : (n : ℕ) → (n == n) ≡ true
eqb_self n = grind (arith, nat_tests)

pub eqb_is : (m n : ℕ) → (m == n) ≡ true → m ≡ n
eqb_is m n h = grind (arith, nat_tests)

pub eqb_apart : (m n : ℕ) → (m ≡ n → ⊥) → (m == n) ≡ false
eqb_apart m n apart = by (m == n) refl
  where
    by : (b : Bool) → (m == n) ≡ b → b ≡ false
    by true is = absurd (apart (let q : m ≡ n = grind (arith, nat_tests) in q))
    by false is = refl

pub multiples : (s x y : ℕ) → x ≤ y → x / s * s ≤ y / s * s
multiples zero x y h = omega arith
multiples (suc s) x y h = mul-le-mul_right (suc s) (le-div (x / suc s) y (suc s) (omega arith) (le_trans (div-mul-le_self x (suc s)) h))

pub eqb_turned : (m n : ℕ) → (m == n) ≡ (n == m)
eqb_turned m n = by (eqb_tells m n) (eqb_tells n m)
  where
    by : ((m == n ≡ true) × (m ≡ n)) ⊎ ((m == n ≡ false) × (m ≢ n)) → ((n == m ≡ true) × (n ≡ m)) ⊎ ((n == m ≡ false) × (n ≢ m)) → (m == n) ≡ (n == m)
    by (inl e) (inl f) = e.0 ∙ sym f.0
    by (inl e) (inr f) = absurd (f.1 (sym e.1))
    by (inr e) (inl f) = absurd (e.1 (sym f.1))
    by (inr e) (inr f) = e.0 ∙ sym f.0
