-- Lists of which some items change places, one place after another.
use Rattle.std.proofs.Common.{◌≡◌, ◌∙◌, ◌<◌, ◌≤◌, ◌+◌, ◌==◌, ◌&&◌, ◌⊎◌, inl, inr, ℕ, zero, suc, Bool, true, false, cond, not, nat_lt, List, [], ◌∷◌, length, slice_get, slice_set, Some, refl, sym, ap, subst, arith}
use Rattle.std.proofs.lemmas.Bool.{cases_eq, lt-ltb, le-ltb, ltb-true, ltb-false}
use Rattle.ss_lemmas.proofs.Numbers.{eqb_self, eqb_apart}
use Rattle.ss_shard.specs.Exchanges.{exchanged}

-- a test of one place alone
record IsOnly (at : ℕ → Bool) (n : ℕ) : Type 0 where
  here : at n ≡ true
  apart : (i : ℕ) → (i ≡ n → ⊥) → at i ≡ false

only_suc : (at : ℕ → Bool) (n : ℕ) → IsOnly at (suc n) → IsOnly (λ i. at (suc i)) n
only_suc at n only = record { here = only.here; apart = λ i differ. only.apart (suc i) (λ e. differ (omega (arith, e))) }

module _ {A : Type 0} where
  pub either_way : (b : Bool) (x : A) → cond b x x ≡ x
  either_way true x = refl
  either_way false x = refl

  -- where no place that both have passes the test, nothing changes
  pub none_exchanged : (at : ℕ → Bool) (xs ys : List A) → ((i : ℕ) → i < length xs → i < length ys → at i ≡ false) → exchanged at xs ys ≡ xs
  none_exchanged at [] ys none = refl
  none_exchanged at (x ∷ xs) [] none =
      let rest = none_exchanged (λ i. at (suc i)) xs [] (λ i h k. absurd (omega (arith, k))) in
      λ i. either_way (at 0) x i ∷ rest i
  none_exchanged at (x ∷ xs) (y ∷ ys) none =
      let first : cond (at 0) y x ≡ x = ap (λ b. cond b y x) (none 0 (omega arith) (omega arith)) in
      let rest = none_exchanged (λ i. at (suc i)) xs ys (λ i h k. none (suc i) (omega (arith, h)) (omega (arith, k))) in
      λ i. first i ∷ rest i

  -- two tests that say the same of each place
  pub same_tests : (p q : ℕ → Bool) (xs ys : List A) → ((i : ℕ) → i < length xs → p i ≡ q i) → exchanged p xs ys ≡ exchanged q xs ys
  same_tests p q [] ys same = refl
  same_tests p q (x ∷ xs) [] same =
      let first = same 0 (omega arith) in
      let rest = same_tests (λ i. p (suc i)) (λ i. q (suc i)) xs [] (λ i h. same (suc i) (omega (arith, h))) in
      λ i. cond (first i) x x ∷ rest i
  same_tests p q (x ∷ xs) (y ∷ ys) same =
      let first = same 0 (omega arith) in
      let rest = same_tests (λ i. p (suc i)) (λ i. q (suc i)) xs ys (λ i h. same (suc i) (omega (arith, h))) in
      λ i. cond (first i) y x ∷ rest i

  -- ---- one place

  put_there : (at : ℕ → Bool) (n : ℕ) → IsOnly at n → (xs ys : List A) (y : A) → slice_get ys n ≡ Some y → slice_set xs n y ≡ exchanged at xs ys
  put_there at n only [] ys y is = refl
  put_there at n only (x ∷ xs) [] y is = absurd (cc)
  put_there at zero only (x ∷ xs) (z ∷ ys) y is =
      let same : z ≡ y = cc in
      let first : cond (at 0) z x ≡ y = ap (λ b. cond b z x) only.here ∙ same in
      let rest = none_exchanged (λ i. at (suc i)) xs ys (λ i h k. only.apart (suc i) (λ e. omega (arith, e))) in
      sym (λ i. first i ∷ rest i)
  put_there at (suc n) only (x ∷ xs) (z ∷ ys) y is =
      let first : cond (at 0) z x ≡ x = ap (λ b. cond b z x) (only.apart 0 (λ e. omega (arith, e))) in
      let rest = put_there (λ i. at (suc i)) n (only_suc at n only) xs ys y is in
      λ i. sym first i ∷ rest i

  -- a list with the item of another at one place
  pub one_exchanged : (n : ℕ) (xs ys : List A) (y : A) → slice_get ys n ≡ Some y → slice_set xs n y ≡ exchanged (λ i. i == n) xs ys
  one_exchanged n xs ys y is = put_there (λ i. i == n) n (record { here = eqb_self n; apart = λ i differ. eqb_apart i n differ }) xs ys y is

  -- and as it was where the place is in one of them alone
  pub nothing_here : (n : ℕ) (xs ys : List A) → (n < length xs → ⊥) → xs ≡ exchanged (λ i. i == n) xs ys
  nothing_here n xs ys past = sym (none_exchanged (λ i. i == n) xs ys (λ i h k. eqb_apart i n (λ e. past (subst (λ k. k < length xs) e h))))

  pub nothing_there : (n : ℕ) (xs ys : List A) → (n < length ys → ⊥) → xs ≡ exchanged (λ i. i == n) xs ys
  nothing_there n xs ys past = sym (none_exchanged (λ i. i == n) xs ys (λ i h k. eqb_apart i n (λ e. past (subst (λ k. k < length ys) e k))))

  -- ---- one test after another

  after_two : (p q : Bool) (x y : A) → cond p (cond q x y) (cond q y x) ≡ cond (cond p (not q) q) y x
  after_two true true x y = refl
  after_two true false x y = refl
  after_two false true x y = refl
  after_two false false x y = refl

  twice_exchanged : (p q r : ℕ → Bool) (xs ys : List A) → length ys ≡ length xs → ((i : ℕ) → r i ≡ cond (p i) (not (q i)) (q i)) → exchanged p (exchanged q xs ys) (exchanged q ys xs) ≡ exchanged r xs ys
  twice_exchanged p q r [] [] alike is = refl
  twice_exchanged p q r [] (y ∷ ys) alike is = absurd (omega (arith, alike))
  twice_exchanged p q r (x ∷ xs) [] alike is = absurd (omega (arith, alike))
  twice_exchanged p q r (x ∷ xs) (y ∷ ys) alike is =
      let first : cond (p 0) (cond (q 0) x y) (cond (q 0) y x) ≡ cond (r 0) y x = after_two (p 0) (q 0) x y ∙ ap (λ b. cond b y x) (sym (is 0)) in
      let rest = twice_exchanged (λ i. p (suc i)) (λ i. q (suc i)) (λ i. r (suc i)) xs ys (omega (arith, alike)) (λ i. is (suc i)) in
      λ i. first i ∷ rest i

-- ---- the places below a number

-- a test of the places below
abbrev pub below : (ℕ → Bool) → ℕ → ℕ → Bool
below at n i = nat_lt i n && at i

below_next : (i n : ℕ) → (i ≡ n → ⊥) → nat_lt i (n + 1) ≡ nat_lt i n
below_next i n differ = by (nat_lt i n) refl
  where
    by : (b : Bool) → nat_lt i n ≡ b → nat_lt i (n + 1) ≡ b
    by true is = let less : i < n = ltb-true i n is in lt-ltb i (n + 1) (omega (arith, less))
    by false is = let more : n ≤ i = ltb-false i n is in le-ltb i (n + 1) (omega (arith, more, differ))

here_now : (at : ℕ → Bool) (n : ℕ) → below at (n + 1) n ≡ at n
here_now at n = ap (λ b. b && at n) (lt-ltb n (n + 1) (omega arith))

here_then : (at : ℕ → Bool) (n : ℕ) → below at n n ≡ false
here_then at n = ap (λ b. b && at n) (le-ltb n n (omega arith))

one_passed : (at : ℕ → Bool) (n : ℕ) → at n ≡ false → (i : ℕ) → below at (n + 1) i ≡ below at n i
one_passed at n off i = by (cases_eq i n)
  where
    by : (i ≡ n) ⊎ (i ≡ n → ⊥) → below at (n + 1) i ≡ below at n i
    by (inl e) = subst (λ k. below at (n + 1) k ≡ below at n k) (sym e) (here_now at n ∙ off ∙ sym (here_then at n))
    by (inr differ) = ap (λ b. b && at i) (below_next i n differ)

one_added : (at : ℕ → Bool) (n : ℕ) → at n ≡ true → (i : ℕ) → below at (n + 1) i ≡ cond (i == n) (not (below at n i)) (below at n i)
one_added at n on i = by (cases_eq i n)
  where
    by : (i ≡ n) ⊎ (i ≡ n → ⊥) → below at (n + 1) i ≡ cond (i == n) (not (below at n i)) (below at n i)
    by (inl e) =
        let then_true : cond (n == n) (not (below at n n)) (below at n n) ≡ true = (λ j. cond (eqb_self n j) (not (here_then at n j)) (below at n n)) in
        subst (λ k. below at (n + 1) k ≡ cond (k == n) (not (below at n k)) (below at n k)) (sym e) (here_now at n ∙ on ∙ sym then_true)
    by (inr differ) = ap (λ b. b && at i) (below_next i n differ) ∙ ap (λ b. cond b (not (below at n i)) (below at n i)) (sym (eqb_apart i n differ))

-- two lists of which the items changed places that stood where the test passes
pub record AreExchanged {A : Type 0} (at : ℕ → Bool) (xs ys ls ms : List A) : Type 0 where
  pub here : ls ≡ exchanged at xs ys
  pub there : ms ≡ exchanged at ys xs

module _ {A : Type 0} (at : ℕ → Bool) where
  none_yet : (xs ys : List A) → xs ≡ exchanged (below at 0) xs ys
  none_yet xs ys = sym (none_exchanged (below at 0) xs ys (λ i h k. ap (λ b. b && at i) (le-ltb i 0 (omega arith))))

  all_there : (xs ys : List A) (n : ℕ) → length xs ≤ n → exchanged (below at n) xs ys ≡ exchanged at xs ys
  all_there xs ys n all = same_tests (below at n) at xs ys (λ i h. ap (λ b. b && at i) (lt-ltb i n (omega (arith, all, h))))

  -- one place more, that stays or that changes
  one_stays : (xs ys : List A) (n : ℕ) → at n ≡ false → exchanged (below at n) xs ys ≡ exchanged (below at (n + 1)) xs ys
  one_stays xs ys n off = same_tests (below at n) (below at (n + 1)) xs ys (λ i h. sym (one_passed at n off i))

  one_goes : (xs ys : List A) (n : ℕ) → length ys ≡ length xs → at n ≡ true → exchanged (λ i. i == n) (exchanged (below at n) xs ys) (exchanged (below at n) ys xs) ≡ exchanged (below at (n + 1)) xs ys
  one_goes xs ys n alike on = twice_exchanged (λ i. i == n) (below at n) (below at (n + 1)) xs ys alike (one_added at n on)

  -- a loop over the places: at its begin, after a place that stays, after one that changes, and at its end
  module _ (xs ys : List A) where
    pub begun : AreExchanged (below at 0) xs ys xs ys
    begun = record { here = none_yet xs ys; there = none_yet ys xs }

    module _ (n : ℕ) (ls ms : List A) (before : AreExchanged (below at n) xs ys ls ms) where
      pub stayed : (here there : List A) → at n ≡ false → here ≡ ls → there ≡ ms → AreExchanged (below at (n + 1)) xs ys here there
      stayed here there off e f = record { here = e ∙ before.here ∙ one_stays xs ys n off; there = f ∙ before.there ∙ one_stays ys xs n off }

      pub went : length ys ≡ length xs → (here there : List A) → at n ≡ true → here ≡ exchanged (λ i. i == n) ls ms → there ≡ exchanged (λ i. i == n) ms ls → AreExchanged (below at (n + 1)) xs ys here there
      went alike here there on e f = record {
        here = e ∙ (λ j. exchanged (λ i. i == n) (before.here j) (before.there j)) ∙ one_goes xs ys n alike on;
        there = f ∙ (λ j. exchanged (λ i. i == n) (before.there j) (before.here j)) ∙ one_goes ys xs n (sym alike) on;
      }

      pub ended : length ys ≡ length xs → length xs ≤ n → AreExchanged at xs ys ls ms
      ended alike all = record { here = before.here ∙ all_there xs ys n all; there = before.there ∙ all_there ys xs n (omega (arith, alike, all)) }

-- a test of equality, as the code makes it
pub test_passes : (m n k : ℕ) → m ≡ n → m ≡ k → (n == k) ≡ true
test_passes m n k is e = ap (λ x. x == k) (sym is ∙ e) ∙ eqb_self k

pub test_fails : (m n k : ℕ) → m ≡ n → (m ≡ k → ⊥) → (n == k) ≡ false
test_fails m n k is apart = eqb_apart n k (λ e. apart (is ∙ e))
