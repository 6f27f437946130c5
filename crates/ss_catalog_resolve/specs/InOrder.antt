-- What a list is read as whose items are read in order: all that they say, or the first fault.
use Rattle.std.specs.Prelude.{◌≡◌, ◌+◌, ◌⊎◌, ℕ, List, [], ◌∷◌, Result, Ok, Err}

-- `Reads n a r`: an item `a` at number `n` is read as `r`; `size a`: how many numbers it takes
module _ {A B E : Type 0} (size : A → ℕ) (Reads : ℕ → A → Result B E → Type 0) where
  -- each item is read, the first of them at number n
  abbrev pub AllRead : ℕ → List A → List B → Type 0
  AllRead n [] ys = ys ≡ []
  AllRead n (x ∷ xs) [] = ⊥
  AllRead n (x ∷ xs) (y ∷ ys) = Reads n x (Ok y) × AllRead (n + size x) xs ys

  -- the items before the first one with a fault are read, and this is its fault
  abbrev pub FirstFault : ℕ → List A → E → Type 0
  FirstFault n [] e = ⊥
  FirstFault n (x ∷ xs) e = Reads n x (Err e) ⊎ ((y : B) × Reads n x (Ok y) × FirstFault (n + size x) xs e)

  -- the one or the other
  abbrev pub InOrder : ℕ → List A → Result (List B) E → Type 0
  InOrder n xs (Ok ys) = AllRead n xs ys
  InOrder n xs (Err e) = FirstFault n xs e
