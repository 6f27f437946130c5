-- A list with others behind it is both, one after the other.
use Rattle.std.proofs.Common.{◌≡◌, List, [], ◌∷◌, ◌++◌, refl, sym}
use Rattle.std.proofs.lemmas.List.{append-nil}
use Rattle.ss_model.specs.Results.{and_behind}

pub behind_is : {A : Type 0} (xs ys : List A) → and_behind xs ys ≡ xs ++ ys
behind_is xs [] = sym (append-nil xs)
behind_is xs (y ∷ ys) = refl
