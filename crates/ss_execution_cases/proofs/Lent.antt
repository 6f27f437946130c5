-- A list that was lent whole, and came back with as many items.
use Rattle.std.proofs.Common.{◌≡◌, List, [], ◌∷◌, ◌++◌, length, take, refl, ap}

-- as many items of a list as it has are all of it
pub taken_all : {A : Type 0} (xs ys : List A) → take (length xs) (xs ++ ys) ≡ xs
taken_all [] ys = refl
taken_all (x ∷ xs) ys = ap (λ zs. x ∷ zs) (taken_all xs ys)
