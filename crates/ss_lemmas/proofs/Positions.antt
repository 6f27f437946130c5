-- The first position of an item that passes a test, in a list of one item more.
use Rattle.std.proofs.Common.{ℕ, [], ◌≡◌, ◌+◌, arith, ap, ◌∙◌, refl, Bool, true, false, List, ◌∷◌, ◌++◌, None, Some, length, sym}
use Rattle.std.specs.Prelude.{cond, position}
use Rattle.std.specs.List.{position_from}
use Rattle.std.specs.Option.{option_or}
use Rattle.std.proofs.lemmas.Iterator.Adapters.{position_from-zero}

pub position_from_push : {X : Type 0} (p : X → Bool) (i : ℕ) (xs : List X) (x : X) → position_from p i (xs ++ x ∷ []) ≡ option_or (position_from p i xs) (cond (p x) (Some (i + length xs)) None)
position_from_push p i [] x =
    let n : i ≡ i + 0 = omega arith in
    ap (λ k. cond (p x) (Some k) None) n
position_from_push p i (y ∷ xs) x = by (p y) (position_from_push p (i + 1) xs x)
  where
    by : (b : Bool) → position_from p (i + 1) (xs ++ x ∷ []) ≡ option_or (position_from p (i + 1) xs) (cond (p x) (Some (i + 1 + length xs)) None) → cond b (Some i) (position_from p (i + 1) (xs ++ x ∷ [])) ≡ option_or (cond b (Some i) (position_from p (i + 1) xs)) (cond (p x) (Some (i + length (y ∷ xs))) None)
    by true h = refl
    by false h =
        let n : i + 1 + length xs ≡ i + length (y ∷ xs) = omega arith in
        h ∙ ap (λ k. option_or (position_from p (i + 1) xs) (cond (p x) (Some k) None)) n

pub position_push : {X : Type 0} (p : X → Bool) (xs : List X) (x : X) → position p (xs ++ x ∷ []) ≡ option_or (position p xs) (cond (p x) (Some (length xs)) None)
position_push p xs x =
    let n : 0 + length xs ≡ length xs = omega arith in
    position_from-zero p (xs ++ x ∷ [])
    ∙ position_from_push p 0 xs x
    ∙ ap (λ k. option_or (position_from p 0 xs) (cond (p x) (Some k) None)) n
    ∙ ap (λ o. option_or o (cond (p x) (Some (length xs)) None)) (sym (position_from-zero p xs))
