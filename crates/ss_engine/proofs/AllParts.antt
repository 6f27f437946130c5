-- The set of all partitions that run, and the list of its members.
use Rattle.std.proofs.Common.{◌≡◌, ◌≤◌, ◌<◌, ◌+◌, ◌↔◌, ℕ, zero, suc, nat_lt, List, [], ◌∷◌, get_or, refl, ap, ◌∙◌, subst, arith}
use Rattle.std.specs.Int.{IsBitSet}
use Rattle.std.specs.List.{AllByRecursion, Contains, range_with_len}
use Rattle.std.specs.List.Sorted.{IsStrictlyIncreasing}
use Rattle.ss_lemmas.proofs.Mapped.{all_at}
use Rattle.std.proofs.lemmas.Bool.{lt-ltb, ltb-true}
use Rattle.ss_partition.specs.PartSets.{HasJust}
use Rattle.ss_shard.specs.Parts.{all_partitions}

-- ---- rising numbers

tail_rises : (x : ℕ) (xs : List ℕ) → IsStrictlyIncreasing (x ∷ xs) → IsStrictlyIncreasing xs
tail_rises x xs h = λ k lt. let e : suc k + 1 ≡ suc (k + 1) = omega arith in subst (λ n. get_or xs k 0 < get_or (x ∷ xs) n 0) e (h (suc k) (omega arith))

below_all : (x y : ℕ) (xs : List ℕ) → x < y → AllByRecursion (λ z. y < z) xs → AllByRecursion (λ z. x < z) xs
below_all x y [] lt all = tt
below_all x y (z ∷ xs) lt all = let above : y < z = all.0 in (omega arith, below_all x y xs lt all.1)

first_least : (x : ℕ) (xs : List ℕ) → IsStrictlyIncreasing (x ∷ xs) → AllByRecursion (λ y. x < y) xs
first_least x [] h = tt
first_least x (y ∷ ys) h = let lt : x < y = h 0 (omega arith) in (lt, below_all x y ys lt (first_least y ys (tail_rises x (y ∷ ys) h)))

-- what stands behind the first stands in the rest
in_rest : (x p : ℕ) (xs : List ℕ) → x < p → Contains (x ∷ xs) p → Contains xs p
in_rest x p xs above (zero, low, is) = let e : x ≡ p = is in absurd (omega (arith, e, above))
in_rest x p xs above (suc i, low, is) = (i, (omega arith), is)

-- a rising list of just the numbers of a range is the range
rising_is : (a k : ℕ) (xs : List ℕ) → IsStrictlyIncreasing xs → ((p : ℕ) → Contains xs p → (a ≤ p) × (p < a + k)) → ((p : ℕ) → a ≤ p → p < a + k → Contains xs p) → xs ≡ range_with_len a k
rising_is a zero [] up within there = refl
rising_is a zero (x ∷ xs) up within there = let w = within x (0, (omega arith), refl) in let l = w.0 in let h = w.1 in absurd (omega (arith, l, h))
rising_is a (suc k) [] up within there = none (there a (omega arith) (omega arith))
  where
    none : Contains [] a → [] ≡ range_with_len a (suc k)
    none (i, low, is) = absurd (omega (arith, low))
rising_is a (suc k) (x ∷ xs) up within there =
    ap (λ (p : ℕ). p ∷ xs) first ∙ ap (λ (l : List ℕ). a ∷ l) (rising_is (a + 1) k xs (tail_rises x xs up) later (λ p from to. in_rest x p xs (let e = first in omega (arith, e, from)) (there p (omega (arith, from)) (omega (arith, to)))))
  where
    least : AllByRecursion (λ y. x < y) xs
    least = first_least x xs up

    at_a : Contains (x ∷ xs) a → x ≡ a
    at_a (zero, low, is) = is
    at_a (suc i, low, is) = let above : x < get_or xs i a = all_at (λ y. x < y) xs i a least (omega (arith, low)) in let from = (within x (0, (omega arith), refl)).0 in let e : get_or xs i a ≡ a = is in absurd (omega (arith, above, from, e))

    first : x ≡ a
    first = at_a (there a (omega arith) (omega arith))

    later : (p : ℕ) → Contains xs p → (a + 1 ≤ p) × (p < (a + 1) + k)
    later p (i, low, is) =
        let w = within p (suc i, (omega (arith, low)), is) in
        let above : x < get_or xs i p = all_at (λ y. x < y) xs i p least low in
        let e : get_or xs i p ≡ p = is in
        let f = first in
        let h = w.1 in
        (omega (arith, above, e, f), omega (arith, h))

-- ---- all that run

module _ (n set : ℕ) (just : HasJust set (λ p. nat_lt p n)) where
  pub some_part : 1 ≤ n → (p : ℕ) × IsBitSet set p
  some_part some = (0, (just 0).1 (lt-ltb 0 n some))

  pub parts_run : (p : ℕ) → IsBitSet set p → p < n
  parts_run p member = ltb-true p n ((just p).0 member)

  pub all_held : (held : List ℕ) → IsStrictlyIncreasing held → ((p : ℕ) → IsBitSet set p ↔ Contains held p) → held ≡ all_partitions n
  all_held held up members = rising_is 0 n held up (λ p there. (omega arith, (let low = parts_run p ((members p).1 there) in omega (arith, low)))) (λ p from to. (members p).0 ((just p).1 (lt-ltb p n (omega (arith, to)))))
