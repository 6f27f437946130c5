-- What is left of a list behind its first items, also where the list grows at its end.
use Rattle.std.proofs.Common.{◌≡◌, ℕ, zero, suc, ◌≤◌, List, [], ◌∷◌, ◌++◌, drop, refl, sym, subst, inl, inr, ◌⊎◌, arith}
use Rattle.std.specs.List.{AllByRecursion}

module _ {A : Type 0} where
  -- of a longer list as much is left, or more
  pub drop_longer : (n : ℕ) (xs ys : List A) → (more : List A) × (drop n (xs ++ ys) ≡ drop n xs ++ more)
  drop_longer zero xs ys = (ys, refl)
  drop_longer (suc n) [] ys = (drop (suc n) ys, refl)
  drop_longer (suc n) (x ∷ xs) ys = drop_longer n xs ys

  drop_nothing : (n : ℕ) → drop n (let xs : List A = [] in xs) ≡ []
  drop_nothing zero = refl
  drop_nothing (suc n) = refl

  -- of a list with one item more what was left and that item, or nothing
  pub drop_one_more : (n : ℕ) (xs : List A) (x : A) → (drop n (xs ++ x ∷ []) ≡ drop n xs ++ x ∷ []) ⊎ (drop n (xs ++ x ∷ []) ≡ [])
  drop_one_more zero xs x = inl refl
  drop_one_more (suc n) [] x = inr (drop_nothing n)
  drop_one_more (suc n) (y ∷ xs) x = drop_one_more n xs x

  module _ (P : A → Type 0) where
    all_left : (m : ℕ) (xs : List A) → AllByRecursion P xs → AllByRecursion P (drop m xs)
    all_left zero xs h = h
    all_left (suc m) [] h = tt
    all_left (suc m) (x ∷ xs) h = all_left m xs h.1

    -- what holds of all that is left behind n items holds behind more of them
    pub all_left_later : (n m : ℕ) (xs : List A) → n ≤ m → AllByRecursion P (drop n xs) → AllByRecursion P (drop m xs)
    all_left_later zero m xs l h = all_left m xs h
    all_left_later (suc n) zero xs l h = absurd (omega arith)
    all_left_later (suc n) (suc m) [] l h = tt
    all_left_later (suc n) (suc m) (x ∷ xs) l h = all_left_later n m xs (omega arith) h

    all_push : (xs : List A) (x : A) → AllByRecursion P xs → P x → AllByRecursion P (xs ++ x ∷ [])
    all_push [] x h p = (p, tt)
    all_push (y ∷ xs) x h p = (h.0, all_push xs x h.1 p)

    pub all_left_more : (n : ℕ) (xs : List A) (x : A) → AllByRecursion P (drop n xs) → P x → AllByRecursion P (drop n (xs ++ x ∷ []))
    all_left_more n xs x h p = by (drop_one_more n xs x)
      where
        by : (drop n (xs ++ x ∷ []) ≡ drop n xs ++ x ∷ []) ⊎ (drop n (xs ++ x ∷ []) ≡ []) → AllByRecursion P (drop n (xs ++ x ∷ []))
        by (inl e) = subst (AllByRecursion P) (sym e) (all_push (drop n xs) x h p)
        by (inr e) = subst (AllByRecursion P) (sym e) tt
