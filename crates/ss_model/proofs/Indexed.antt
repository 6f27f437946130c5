-- What a function of the index and the item gives of each item of a list, one item more.
use Rattle.std.proofs.Common.{◌≡◌, ℕ, suc, ◌+◌, ◌<◌, List, [], ◌∷◌, ◌++◌, length, take, get_or, refl, sym, ap, ◌∙◌, arith}
use Rattle.std.proofs.lemmas.List.{take_more, length-take-le}
use Rattle.ss_model.specs.Results.{map_indexed}

pub indexed_push : {A B : Type 0} (f : ℕ → A → B) (xs : List A) (x : A) → map_indexed f (xs ++ x ∷ []) ≡ map_indexed f xs ++ f (length xs) x ∷ []
indexed_push f [] x = refl
indexed_push f (y ∷ xs) x = ap (λ ys. f 0 y ∷ ys) (indexed_push (λ i. f (suc i)) xs x)

pub indexed_more : {A B : Type 0} (f : ℕ → A → B) (xs : List A) (i : ℕ) (x : A) → i < length xs → x ≡ get_or xs i x → map_indexed f (take (i + 1) xs) ≡ map_indexed f (take i xs) ++ f i x ∷ []
indexed_more f xs i x within is =
    ap (map_indexed f) (take_more xs i x within)
    ∙ indexed_push f (take i xs) (get_or xs i x)
    ∙ ap (λ n. map_indexed f (take i xs) ++ f n (get_or xs i x) ∷ []) (length-take-le i xs (omega arith))
    ∙ ap (λ y. map_indexed f (take i xs) ++ f i y ∷ []) (sym is)
