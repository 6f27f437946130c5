-- Sets of partitions that are filled one by one.
use Rattle.std.proofs.Common.{◌≡◌, ◌<◌, ◌+◌, ◌==◌, ◌||◌, ◌↔◌, ◌⊎◌, inl, inr, ◌≢◌, ℕ, Bool, true, false, nat_lt, refl, sym, ◌∙◌, arith}
use Rattle.std.proofs.lemmas.Bool.{ltb-true, lt-ltb, or_left, or_right}
use Rattle.std.proofs.lemmas.Bool.Decides.{Decides-eqb, eqb_tells}
use Rattle.std.specs.Cmp.{both_ways}
use Rattle.std.specs.Int.{IsBitSet}
use Rattle.ss_lemmas.proofs.Bools.{either_so}
use Rattle.ss_partition.specs.PartSets.{HasJust}

pub none_in : HasJust 0 (λ p. false)
none_in p = (λ has. absurd (has refl), λ t. cc)

pub none_below : HasJust 0 (λ p. nat_lt p 0)
none_below p = (λ has. absurd (has refl), λ t. (let low : p < 0 = ltb-true p 0 t in absurd (omega arith)))

-- a set with one member more, and a test that one more passes
module _ (old new n : ℕ) (test more : ℕ → Bool) (was : HasJust old test) (is : (i : ℕ) → IsBitSet new i ↔ ((i ≡ n) ⊎ IsBitSet old i)) (joins : (i : ℕ) → more i ≡ (test i || (i == n))) where
  passes : (i : ℕ) → (i ≡ n) ⊎ IsBitSet old i → (test i || (i == n)) ≡ true
  passes i (inl e) = or_right (test i) (i == n) ((Decides-eqb i n).1 e)
  passes i (inr o) = or_left (test i) (i == n) ((was i).0 o)

  member : (i : ℕ) → (test i ≡ true) ⊎ ((i == n) ≡ true) → (i ≡ n) ⊎ IsBitSet old i
  member i (inl t) = inr ((was i).1 t)
  member i (inr e) = inl ((Decides-eqb i n).0 e)

  pub one_more : HasJust new more
  one_more i = (λ has. joins i ∙ passes i ((is i).0 has), λ t. (is i).1 (member i (either_so (test i) (i == n) (sym (joins i) ∙ t))))

-- a number that is below the next one is below this one, or is it
pub below_next : (i n : ℕ) → nat_lt i (n + 1) ≡ (nat_lt i n || (i == n))
below_next i n = both_ways (nat_lt i (n + 1)) (nat_lt i n || (i == n)) (λ t. to (ltb-true i (n + 1) t) (eqb_tells i n)) (λ t. from (either_so (nat_lt i n) (i == n) t))
  where
    to : i < n + 1 → ((i == n ≡ true) × (i ≡ n)) ⊎ ((i == n ≡ false) × (i ≢ n)) → (nat_lt i n || (i == n)) ≡ true
    to low (inl same) = or_right (nat_lt i n) (i == n) same.0
    to low (inr other) = let apart : i ≢ n = other.1 in or_left (nat_lt i n) (i == n) (lt-ltb i n (omega arith))

    from : (nat_lt i n ≡ true) ⊎ ((i == n) ≡ true) → nat_lt i (n + 1) ≡ true
    from (inl low) = let below : i < n = ltb-true i n low in lt-ltb i (n + 1) (omega arith)
    from (inr same) = let here : i ≡ n = (Decides-eqb i n).0 same in lt-ltb i (n + 1) (omega arith)
