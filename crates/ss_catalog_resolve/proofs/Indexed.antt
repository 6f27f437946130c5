-- What a function gives at each place, one place more.
use Rattle.std.proofs.Common.{◌≡◌, ℕ, ◌+◌, ◌<◌, List, [], ◌∷◌, ◌++◌, length, take, get_or, sym, ap, ◌∙◌, append_assoc}
use Rattle.ss_model.proofs.CallerLemmas.{indexed_more}
use Rattle.ss_model.specs.Results.{map_indexed}

-- one turn of a loop that adds them behind others
pub indexed_step : {A B : Type 0} (f : ℕ → A → B) (before : List B) (xs : List A) (i : ℕ) (x : A) (now after : List B) (y : B) → i < length xs → x ≡ get_or xs i x → now ≡ before ++ map_indexed f (take i xs) → y ≡ f i x → after ≡ now ++ y ∷ [] → after ≡ before ++ map_indexed f (take (i + 1) xs)
indexed_step f before xs i x now after y within is so_far made pushed =
    pushed
    ∙ ap (λ ys. ys ++ y ∷ []) so_far
    ∙ ap (λ z. (before ++ map_indexed f (take i xs)) ++ z ∷ []) made
    ∙ append_assoc before (map_indexed f (take i xs)) (f i x ∷ [])
    ∙ ap (λ ys. before ++ ys) (sym (indexed_more f xs i x within is))
