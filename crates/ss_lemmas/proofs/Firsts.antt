-- Firsts of lists.
use Rattle.std.proofs.Common.{◌≡◌, ℕ, ◌+◌, ◌-◌, ◌<◌, ◌≤◌, suc, Bool, true, false, cond, List, [], ◌∷◌, ◌++◌, Some, None, slice_get, arith, ap, refl, ◌∙◌}
use Rattle.std.specs.List.{filter, find, flat_map, range_with_len}

-- a range has its first number, and then the others
pub range_on : (n k : ℕ) → k < n → range_with_len k (n - k) ≡ k ∷ range_with_len (k + 1) (n - (k + 1))
range_on n k h = let e : n - k ≡ suc (n - (k + 1)) = omega arith in ap (range_with_len k) e

-- an empty range
pub range_done : (n k : ℕ) → n ≤ k → range_with_len k (n - k) ≡ []
range_done n k h = let e : n - k ≡ 0 = omega arith in ap (range_with_len k) e

-- what has no first is empty
pub empty_from_none : (xs : List ℕ) → slice_get xs 0 ≡ None → xs ≡ []
empty_from_none [] h = refl
empty_from_none (x ∷ xs) h = absurd (cc)

-- the first of a list comes before what is behind it
pub first_in_front : (xs ys : List ℕ) (x : ℕ) → slice_get xs 0 ≡ Some x → slice_get (xs ++ ys) 0 ≡ Some x
first_in_front [] ys x h = absurd (cc)
first_in_front (y ∷ xs) ys x h = h

-- the first of those that pass is what is found
pub found_is_first : (p : ℕ → Bool) (xs : List ℕ) → find p xs ≡ slice_get (filter p xs) 0
found_is_first p [] = refl
found_is_first p (x ∷ xs) = elim (p x) as (λ b. cond b (Some x) (find p xs) ≡ slice_get (cond b (x ∷ filter p xs) (filter p xs)) 0) [ true ↦ refl | false ↦ found_is_first p xs ]

module _ (f : ℕ → List ℕ) (n k : ℕ) where
  -- one number that gives nothing
  pub flat_goes_on : k < n → f k ≡ [] → flat_map f (range_with_len k (n - k)) ≡ flat_map f (range_with_len (k + 1) (n - (k + 1)))
  flat_goes_on h e = ap (flat_map f) (range_on n k h) ∙ ap (λ xs. xs ++ flat_map f (range_with_len (k + 1) (n - (k + 1)))) e

  -- one that gives something
  pub flat_stops : (x : ℕ) → k < n → slice_get (f k) 0 ≡ Some x → slice_get (flat_map f (range_with_len k (n - k))) 0 ≡ Some x
  flat_stops x h e = ap (λ ks. slice_get (flat_map f ks) 0) (range_on n k h) ∙ first_in_front (f k) _ x e

-- the first of three lists
pub first_of_three : (xs ys zs : List ℕ) (x : ℕ) → slice_get xs 0 ≡ Some x → slice_get (xs ++ ys ++ zs) 0 ≡ Some x
first_of_three xs ys zs x h = first_in_front (xs ++ ys) zs x (first_in_front xs ys x h)

pub second_of_three : (xs ys zs : List ℕ) (x : ℕ) → slice_get xs 0 ≡ None → slice_get ys 0 ≡ Some x → slice_get (xs ++ ys ++ zs) 0 ≡ Some x
second_of_three xs ys zs x n h = ap (λ us. slice_get (us ++ ys ++ zs) 0) (empty_from_none xs n) ∙ first_in_front ys zs x h

pub third_of_three : (xs ys zs : List ℕ) → slice_get xs 0 ≡ None → slice_get ys 0 ≡ None → slice_get (xs ++ ys ++ zs) 0 ≡ slice_get zs 0
third_of_three xs ys zs n m = ap (λ us. slice_get (us ++ ys ++ zs) 0) (empty_from_none xs n) ∙ ap (λ us. slice_get (us ++ zs) 0) (empty_from_none ys m)
