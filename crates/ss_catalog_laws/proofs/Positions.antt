-- Items of lists by their positions, and the positions of names.
use Rattle.std.proofs.Common.{◌≡◌, ◌<◌, ◌⊎◌, ◌||◌, ℕ, zero, suc, Bool, true, false, cond, List, [], ◌∷◌, ◌++◌, map, length, Option, Some, None, refl, sym, ap, subst, ◌∙◌, inl, inr}
use Rattle.std.specs.Prelude.{slice_get, Contains, find, unwrap_or}
use Rattle.std.specs.List.{list_any, position_or_len}
use Rattle.std.specs.Str.{bytes_eq}
use Rattle.std.specs.Cmp.Lexicographic.{bytes_decides}
use Rattle.std.proofs.lemmas.Bool.{lt-ltb, or_parts}
use Rattle.std.proofs.lemmas.List.Folds.{find_at}
use Rattle.std.proofs.lemmas.Option.{slice_get-get_or, slice_get_within, same_Some}
use Rattle.ss_model.specs.Results.{map_indexed}
use Rattle.ss_names.specs.Names.{is_among}
use Rattle.ss_catalog_resolve.specs.Numbers.{number_in}

-- it is at some position of the list
abbrev pub StandsIn : {X : Type 0} → List X → X → Type 0
StandsIn xs x = (k : ℕ) × (slice_get xs k ≡ Some x)

pub member_at : {X : Type 0} (xs : List X) (x : X) → Contains xs x → StandsIn xs x
member_at xs x c = (c.0, slice_get-get_or xs c.0 x c.1 ∙ ap Some c.2)

-- ---- two lists

further : {X : Type 0} (x : X) (xs ys : List X) (z : X) → StandsIn xs z ⊎ StandsIn ys z → StandsIn (x ∷ xs) z ⊎ StandsIn ys z
further x xs ys z (inl a) = inl (suc a.0, a.1)
further x xs ys z (inr b) = inr b

-- what is in two lists is in one of them
pub in_either : {X : Type 0} (xs ys : List X) (k : ℕ) (z : X) → slice_get (xs ++ ys) k ≡ Some z → StandsIn xs z ⊎ StandsIn ys z
in_either [] ys k z e = inr (k, e)
in_either (x ∷ xs) ys zero z e = inl (zero, e)
in_either (x ∷ xs) ys (suc k) z e = further x xs ys z (in_either xs ys k z e)

-- what is in a list of one is that one
pub only_one : {X : Type 0} (x : X) (k : ℕ) (z : X) → slice_get (x ∷ []) k ≡ Some z → x ≡ z
only_one x zero z e = same_Some x z e
only_one x (suc k) z e = absurd cc

-- ---- what is made of each item

-- made of the item at this position, and of the position
pub indexed_at : {A B : Type 0} (f : ℕ → A → B) (xs : List A) (k : ℕ) (y : B) → slice_get (map_indexed f xs) k ≡ Some y → (x : A) × (slice_get xs k ≡ Some x) × (f k x ≡ y)
indexed_at f [] k y e = absurd cc
indexed_at f (x ∷ xs) zero y e = (x, refl, same_Some (f 0 x) y e)
indexed_at f (x ∷ xs) (suc k) y e = indexed_at (λ i. f (suc i)) xs k y e

-- made of the item at this position
pub mapped_at : {A B : Type 0} (f : A → B) (xs : List A) (k : ℕ) (y : B) → slice_get (map f xs) k ≡ Some y → (x : A) × (slice_get xs k ≡ Some x) × (f x ≡ y)
mapped_at f [] k y e = absurd cc
mapped_at f (x ∷ xs) zero y e = (x, refl, same_Some (f x) y e)
mapped_at f (x ∷ xs) (suc k) y e = mapped_at f xs k y e

-- ---- searches

passes_step : {X : Type 0} (test : X → Bool) (x y : X) (b : Bool) (o : Option X) → test x ≡ b → (o ≡ Some y → test y ≡ true) → cond b (Some x) o ≡ Some y → test y ≡ true
passes_step test x y true o is rest e = subst (λ z. test z ≡ true) (same_Some x y e) is
passes_step test x y false o is rest e = rest e

-- what a search finds passes its test
pub found_passes : {X : Type 0} (test : X → Bool) (xs : List X) (y : X) → find test xs ≡ Some y → test y ≡ true
found_passes test [] y e = absurd cc
found_passes test (x ∷ xs) y e = passes_step test x y (test x) (find test xs) refl (found_passes test xs y) e

some_step : {X : Type 0} (x : X) (b any : Bool) (o : Option X) → (any ≡ true → (y : X) × (o ≡ Some y)) → (b || any) ≡ true → (y : X) × (cond b (Some x) o ≡ Some y)
some_step x true any o rest e = (x, refl)
some_step x false any o rest e = rest e

-- where some item passes, one is found
pub found_some : {X : Type 0} (test : X → Bool) (xs : List X) → list_any test xs ≡ true → (y : X) × (find test xs ≡ Some y)
found_some test [] e = absurd cc
found_some test (x ∷ xs) e = some_step x (test x) (list_any test xs) (find test xs) (found_some test xs) e

-- where no item passes, none at a position does
pub none_at : {X : Type 0} (test : X → Bool) (xs : List X) → list_any test xs ≡ false → (k : ℕ) (x : X) → slice_get xs k ≡ Some x → test x ≡ false
none_at test [] none k x e = absurd cc
none_at test (y ∷ ys) none zero x e = subst (λ z. test z ≡ false) (same_Some y x e) ((or_parts (test y) (list_any test ys) none).0)
none_at test (y ∷ ys) none (suc k) x e = none_at test ys ((or_parts (test y) (list_any test ys) none).1) k x e

-- ---- names

-- a name that is among others is there at its number
pub number_there : (names : List (List ℕ)) (name : List ℕ) → is_among names name ≡ true → slice_get names (number_in names name) ≡ Some name
number_there names name among =
    let p = position_or_len (bytes_eq name) names in
    let found = found_some (bytes_eq name) names among in
    let there : slice_get names p ≡ Some found.0 = sym (find_at (bytes_eq name) names) ∙ found.1 in
    let same : name ≡ found.0 = (bytes_decides name found.0).0 (found_passes (bytes_eq name) names found.0 found.1) in
    let within : p < length names = slice_get_within names p found.0 there in
    let number : number_in names name ≡ p = ap (λ b. unwrap_or (cond b (Some p) None) 0) (lt-ltb p (length names) within) in
    ap (slice_get names) number ∙ there ∙ ap Some (sym same)
