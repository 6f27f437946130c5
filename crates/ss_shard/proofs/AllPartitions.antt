-- The numbers of all partitions that run, and what is of each of them.
use Rattle.std.proofs.Common.{◌≡◌, ◌<◌, ◌≤◌, ◌+◌, ◌==◌, ◌||◌, ◌⊎◌, inl, inr, ◌≢◌, ℕ, zero, suc, true, false, List, [], ◌∷◌, ◌++◌, length, slice_get, slice_set, Some, refl, ap, subst, ◌∙◌, arith}
use Rattle.std.proofs.lemmas.Bool.{or_left}
use Rattle.std.proofs.lemmas.Bool.Decides.{eqb_tells}
use Rattle.std.specs.List.{range_with_len}
use Rattle.ss_lemmas.proofs.Numbers.{eqb_apart}
use Rattle.ss_shard.specs.Parts.{is_among, all_partitions}

range_more : (a k : ℕ) → range_with_len a (suc k) ≡ range_with_len a k ++ (a + k) ∷ []
range_more a zero = let same : a ≡ a + 0 = omega arith in ap (λ x. x ∷ []) same
range_more a (suc k) =
    let same : a + 1 + k ≡ a + suc k = omega arith in
    ap (λ xs. a ∷ xs) (range_more (a + 1) k ∙ ap (λ x. range_with_len (a + 1) k ++ x ∷ []) same)

-- one partition more
pub partitions_more : (k : ℕ) → all_partitions (suc k) ≡ all_partitions k ++ k ∷ []
partitions_more k = range_more 0 k ∙ (let same : 0 + k ≡ k = omega arith in ap (λ x. all_partitions k ++ x ∷ []) same)

above : (a k p : ℕ) → a + k ≤ p → is_among (range_with_len a k) p ≡ false
above a zero p h = refl
above a (suc k) p h =
    ap (λ b. b || is_among (range_with_len (a + 1) k) p) (eqb_apart a p (λ e. absurd (omega (arith, e))))
    ∙ above (a + 1) k p (omega arith)

pub not_among : (k p : ℕ) → k ≤ p → is_among (all_partitions k) p ≡ false
not_among k p h = above 0 k p (omega arith)

within : (a k p : ℕ) → a ≤ p → p < a + k → is_among (range_with_len a k) p ≡ true
within a zero p h l = absurd (omega arith)
within a (suc k) p h l = by (eqb_tells a p) (λ apart. within (a + 1) k p (omega (arith, apart)) (omega arith))
  where
    by : ((a == p ≡ true) × (a ≡ p)) ⊎ ((a == p ≡ false) × (a ≢ p)) → ((a ≢ p) → is_among (range_with_len (a + 1) k) p ≡ true) → ((a == p) || is_among (range_with_len (a + 1) k) p) ≡ true
    by (inl same) rest = or_left (a == p) _ same.0
    by (inr other) rest = ap (λ b. b || is_among (range_with_len (a + 1) k) p) other.0 ∙ rest other.1

pub among_all : (n p : ℕ) → p < n → is_among (all_partitions n) p ≡ true
among_all n p l = within 0 n p (omega arith) (omega arith)

-- ---- what holds of each item of a list, by its number

-- one item more
pub each_more : {A : Type 0} (P : ℕ → A → Type 0) (xs : List A) (x : A) → ((p : ℕ) (y : A) → slice_get xs p ≡ Some y → P p y) → P (length xs) x → (p : ℕ) (y : A) → slice_get (xs ++ x ∷ []) p ≡ Some y → P p y
each_more P [] x each last zero y at = let same : x ≡ y = cc in subst (P 0) same last
each_more P [] x each last (suc p) y at = absurd (cc)
each_more P (z ∷ zs) x each last zero y at = each zero y at
each_more P (z ∷ zs) x each last (suc p) y at = each_more (λ k. P (suc k)) zs x (λ k w is. each (suc k) w is) last p y at

-- another item at one place
pub each_set : {A : Type 0} (P : ℕ → A → Type 0) (xs : List A) (k : ℕ) (x : A) → ((p : ℕ) (y : A) → p ≢ k → slice_get xs p ≡ Some y → P p y) → P k x → (p : ℕ) (y : A) → slice_get (slice_set xs k x) p ≡ Some y → P p y
each_set P [] k x each new p y at = absurd (cc)
each_set P (z ∷ zs) zero x each new zero y at = let same : x ≡ y = cc in subst (P 0) same new
each_set P (z ∷ zs) zero x each new (suc p) y at = each (suc p) y (λ e. absurd (omega (arith, e))) at
each_set P (z ∷ zs) (suc k) x each new zero y at = each zero y (λ e. absurd (omega (arith, e))) at
each_set P (z ∷ zs) (suc k) x each new (suc p) y at =
    each_set (λ q. P (suc q)) zs k x (λ q w apart is. each (suc q) w (λ e. apart (omega (arith, e))) is) new p y at
