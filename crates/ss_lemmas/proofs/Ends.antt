-- The last items of lists.
use Rattle.std.proofs.Common.{◌≡◌, List, [], ◌∷◌, ◌++◌, length, length-append, refl, ap, arith}

-- lists with one item behind each are the same where they are the same with it
pub ends_alike : {A : Type 0} (xs ys : List A) (x y : A) → xs ++ x ∷ [] ≡ ys ++ y ∷ [] → (xs ≡ ys) × (x ≡ y)
ends_alike [] [] x y e = (refl, cc)
ends_alike [] (b ∷ bs) x y e =
    let l : length (x ∷ []) ≡ length (b ∷ (bs ++ y ∷ [])) = ap length e in
    let m = length-append bs (y ∷ []) in
    absurd (omega arith)
ends_alike (a ∷ as') [] x y e =
    let l : length (a ∷ (as' ++ x ∷ [])) ≡ length (y ∷ []) = ap length e in
    let m = length-append as' (x ∷ []) in
    absurd (omega arith)
ends_alike (a ∷ as') (b ∷ bs) x y e =
    let h : a ≡ b = cc in
    let t : as' ++ x ∷ [] ≡ bs ++ y ∷ [] = cc in
    let r = ends_alike as' bs x y t in
    (λ i. h i ∷ r.0 i, r.1)
