-- The item at hand of a loop, and what stands before and behind it.
use Rattle.std.proofs.Common.{◌≡◌, ℕ, ◌+◌, ◌<◌, sym, ap, ◌∙◌, List, [], ◌∷◌, ◌++◌, length, get_or, map, take, drop, append_assoc, zero, suc, slice_get, refl, Some, arith}
use Rattle.std.proofs.lemmas.List.{map_more, drop_more}

-- the item that a loop has reached, and what stands behind it
pub next : {X : Type 0} (xs : List X) (i : ℕ) (x : X) → i < length xs → x ≡ get_or xs i x → drop i xs ≡ x ∷ drop (i + 1) xs
next xs i x h e = drop_more xs i x h ∙ ap (λ y. y ∷ drop (i + 1) xs) (sym e)

-- behind a list, what another one is mapped to, with one item more
pub map_next_behind : {X Y : Type 0} (f : X → Y) (before : List Y) (xs : List X) (i : ℕ) (x : X) → i < length xs → x ≡ get_or xs i x → before ++ map f (take (i + 1) xs) ≡ (before ++ map f (take i xs)) ++ f x ∷ []
map_next_behind f before xs i x h e =
    ap (λ ys. before ++ ys) (map_more f xs i x h ∙ ap (λ y. map f (take i xs) ++ f y ∷ []) (sym e))
    ∙ sym (append_assoc before (map f (take i xs)) (f x ∷ []))

pub some_at : {A : Type 0} (xs : List A) (n : ℕ) → n < length xs → (x : A) × (slice_get xs n ≡ Some x)
some_at [] n h = absurd (omega arith)
some_at (x ∷ xs) zero h = (x, refl)
some_at (x ∷ xs) (suc n) h = some_at xs n (omega arith)

pub get_last : {A : Type 0} (xs : List A) (x : A) → slice_get (xs ++ x ∷ []) (length xs) ≡ Some x
get_last [] x = refl
get_last (y ∷ ys) x = get_last ys x

pub drop_at : {A : Type 0} (us : List A) (k : ℕ) (u : A) → slice_get us k ≡ Some u → drop k us ≡ u ∷ drop (suc k) us
drop_at [] k u e = cc
drop_at (x ∷ xs) zero u e = let same : x ≡ u = cc in ap (λ y. y ∷ xs) same
drop_at (x ∷ xs) (suc k) u e = drop_at xs k u e
