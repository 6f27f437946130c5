-- Two lists of bytes compared: whether they are the same.
use Rattle.std.proofs.Common.{◌≡◌, ◌∙◌, ℕ, List, Bool, true, false, not, sym}
use Rattle.std.specs.Str.{bytes_eq}
use Rattle.std.proofs.lemmas.Bool.{not-true, not-false}
use Rattle.std.proofs.lemmas.Slice.Eq.{bytes_eq-Decides}

-- what `!=` says
pub not_other : (r : Bool) (xs ys : List ℕ) → r ≡ not (bytes_eq xs ys) → r ≡ false → xs ≡ ys
not_other r xs ys is no_difference = (bytes_eq-Decides xs ys).0 (not-false (bytes_eq xs ys) (sym is ∙ no_difference))

pub other : (r : Bool) (xs ys : List ℕ) → r ≡ not (bytes_eq xs ys) → r ≡ true → xs ≡ ys → ⊥
other r xs ys is difference same = let unequal = not-true (bytes_eq xs ys) (sym is ∙ difference) in let equal = (bytes_eq-Decides xs ys).1 same in cc
