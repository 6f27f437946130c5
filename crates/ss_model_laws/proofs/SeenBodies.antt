-- Which bodies the procedures have, where that is seen.
use Rattle.std.proofs.Common.{◌≡◌, ◌<◌, ◌≤◌, ◌+◌, ℕ, zero, suc, Bool, true, false, cond, ◌||◌, List, [], ◌∷◌, length, nat_lt, refl, ap, subst, ◌∙◌, arith}
use Rattle.std.proofs.lemmas.Bool.{ltb-true, ltb-false, or_left, or_right}
use Rattle.std.specs.List.{list_any, range_with_len}
use Rattle.ss_model.specs.declared.catalog.Catalog.{Catalog}
use Rattle.ss_model.specs.Results.{map_indexed}
use Rattle.ss_model.specs.Database.{own_text}
use Rattle.ss_model.specs.Partitions.{seen_bodies}
use Rattle.ss_model.specs.parts.HeldParts.{holds_some}

module _ (own : ℕ → List ℕ) where
  -- as `seen_bodies`, with these texts where the bodies are not seen
  abbrev seen : Bool → List (List ℕ) → List (List ℕ)
  seen b xs = map_indexed (λ q text. cond b text (own q)) xs

all_seen : (own : ℕ → List ℕ) (xs : List (List ℕ)) → seen own true xs ≡ xs
all_seen own [] = refl
all_seen own (x ∷ xs) = λ i. x ∷ all_seen (λ q. own (suc q)) xs i

none_seen : (own : ℕ → List ℕ) (xs ys : List (List ℕ)) → length xs ≡ length ys → seen own false xs ≡ seen own false ys
none_seen own [] [] e = refl
none_seen own [] (y ∷ ys) e = absurd (omega (arith, e))
none_seen own (x ∷ xs) [] e = absurd (omega (arith, e))
none_seen own (x ∷ xs) (y ∷ ys) e = λ i. own 0 ∷ none_seen (λ q. own (suc q)) xs ys (omega (arith, e)) i

as_many : (own : ℕ → List ℕ) (b : Bool) (xs : List (List ℕ)) → length (seen own b xs) ≡ length xs
as_many own b [] = refl
as_many own b (x ∷ xs) = ap suc (as_many (λ q. own (suc q)) b xs)

swapped : (a b : Bool) (x z : List ℕ) → cond a (cond b x z) z ≡ cond b (cond a x z) z
swapped true true x z = refl
swapped true false x z = refl
swapped false true x z = refl
swapped false false x z = refl

either_first : (own : ℕ → List ℕ) (a b : Bool) (xs : List (List ℕ)) → seen own a (seen own b xs) ≡ seen own b (seen own a xs)
either_first own a b [] = refl
either_first own a b (x ∷ xs) = λ i. swapped a b x (own 0) i ∷ either_first (λ q. own (suc q)) a b xs i

module _ (catalog : Catalog) where
  -- where they are seen they are what they are
  pub seen_all : (xs : List (List ℕ)) → seen_bodies catalog true xs ≡ xs
  seen_all xs = all_seen (own_text catalog) xs

  -- where they aren't, only how many there are counts
  pub seen_none : (xs ys : List (List ℕ)) → length xs ≡ length ys → seen_bodies catalog false xs ≡ seen_bodies catalog false ys
  seen_none xs ys e = none_seen (own_text catalog) xs ys e

  pub seen_length : (b : Bool) (xs : List (List ℕ)) → length (seen_bodies catalog b xs) ≡ length xs
  seen_length b xs = as_many (own_text catalog) b xs

  -- it does not matter which of two looks is the first
  pub seen_swap : (a b : Bool) (xs : List (List ℕ)) → seen_bodies catalog a (seen_bodies catalog b xs) ≡ seen_bodies catalog b (seen_bodies catalog a xs)
  seen_swap a b xs = either_first (own_text catalog) a b xs

  -- what is seen of what is seen there too
  pub seen_there : (b c : Bool) (xs : List (List ℕ)) → (b ≡ true → c ≡ true) → seen_bodies catalog b (seen_bodies catalog c xs) ≡ seen_bodies catalog b xs
  seen_there true c xs so = ap (λ c. seen_bodies catalog true (seen_bodies catalog c xs)) (so refl) ∙ ap (seen_bodies catalog true) (seen_all xs)
  seen_there false c xs so = seen_none (seen_bodies catalog c xs) xs (seen_length c xs)

-- a partition of a range that passes a test, and back
any_in : (test : ℕ → Bool) (k a p : ℕ) → a ≤ p → p < a + k → test p ≡ true → list_any test (range_with_len a k) ≡ true
any_in test zero a p l h t = absurd (omega arith)
any_in test (suc k) a p l h t = by (nat_lt a p) refl (λ m. any_in test k (a + 1) p m (omega arith) t)
  where
    by : (b : Bool) → nat_lt a p ≡ b → (a + 1 ≤ p → list_any test (range_with_len (a + 1) k) ≡ true) → (test a || list_any test (range_with_len (a + 1) k)) ≡ true
    by true e later = let below : a < p = ltb-true a p e in or_right (test a) _ (later (omega arith))
    by false e later = let same : p ≡ a = first_of a p l e in or_left (test a) _ (subst (λ z. test z ≡ true) same t)
      where
        first_of : (a p : ℕ) → a ≤ p → nat_lt a p ≡ false → p ≡ a
        first_of a p l e = let past : p ≤ a = ltb-false a p e in omega arith

pub record Found (test : ℕ → Bool) (n : ℕ) : Type 0 where
  pub at : ℕ
  pub below : at < n
  pub passes : test at ≡ true

some_in : (test : ℕ → Bool) (k a n : ℕ) → a + k ≡ n → list_any test (range_with_len a k) ≡ true → Found test n
some_in test zero a n e h = cc
some_in test (suc k) a n e h = by (test a) refl (some_in test k (a + 1) n (omega arith)) h
  where
    by : (b : Bool) → test a ≡ b → (list_any test (range_with_len (a + 1) k) ≡ true → Found test n) → (b || list_any test (range_with_len (a + 1) k)) ≡ true → Found test n
    by true t later h = record { at = a; below = omega arith; passes = t }
    by false t later h = later h

-- a partition that runs is held
pub held_is_some : (n : ℕ) (held : ℕ → Bool) (p : ℕ) → held p ≡ true → nat_lt p n ≡ true → holds_some n held ≡ true
held_is_some n held p h t = any_in held n 0 p (omega arith) (let below : p < n = ltb-true p n t in omega arith) h

pub some_is_held : (n : ℕ) (held : ℕ → Bool) → holds_some n held ≡ true → Found held n
some_is_held n held h = some_in held n 0 n (omega arith) h
