-- All partitions that run, in order.
use Rattle.std.proofs.Common.{◌≡◌, ◌<◌, ◌+◌, ℕ, zero, suc, List, [], ◌∷◌, map, length, get_or, refl, ap, ◌∙◌, arith}
use Rattle.std.specs.List.{range_with_len}
use Rattle.std.specs.List.Sorted.{IsStrictlyIncreasing}
use Rattle.ss_party.specs.Tags.{TagsFrom}
use Rattle.ss_hand.specs.Partitions.{PartitionView, number_of}

pub numbers_are : (a : ℕ) (xs : List PartitionView) → TagsFrom number_of a xs → map number_of xs ≡ range_with_len a (length xs)
numbers_are a [] tags = refl
numbers_are a (x ∷ xs) tags =
    let next : suc a ≡ a + 1 = omega arith in
    ap (λ (p : ℕ). p ∷ map number_of xs) tags.0 ∙ ap (λ (l : List ℕ). a ∷ l) (numbers_are (suc a) xs tags.1 ∙ ap (λ (b : ℕ). range_with_len b (length xs)) next)

range_long : (a k : ℕ) → length (range_with_len a k) ≡ k
range_long a zero = refl
range_long a (suc k) = ap suc (range_long (a + 1) k)

range_at : (a k i : ℕ) → i < k → get_or (range_with_len a k) i 0 ≡ a + i
range_at a zero i low = absurd (omega arith)
range_at a (suc k) zero low = omega arith
range_at a (suc k) (suc i) low = range_at (a + 1) k i (omega arith) ∙ (omega arith)

pub range_rises : (a k : ℕ) → IsStrictlyIncreasing (range_with_len a k)
range_rises a k i within =
    let long = range_long a k in
    let here = range_at a k i (omega arith) in
    let next = range_at a k (i + 1) (omega arith) in
    omega arith
