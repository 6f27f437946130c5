-- Where names stand in lists.
use Rattle.std.proofs.Common.{◌≡◌, ℕ, ◌+◌, ◌<◌, ◌≤◌, get_or, take, arith, sym, ap, ◌∙◌, refl, Bool, true, false, List, [], ◌∷◌, Option, None, Some, length}
use Rattle.std.specs.Prelude.{cond, position, is_some, ◌||◌}
use Rattle.std.specs.Borrow.{Bor}
use Rattle.std.specs.List.{position_from, list_any}
use Rattle.std.specs.Option.{option_or}
use Rattle.std.specs.Str.{bytes_eq}
use Rattle.std.proofs.lemmas.Cmp.{nat_list_eq_equiv}
use Rattle.std.proofs.lemmas.Iterator.Adapters.{position_from-zero}
use Rattle.std.proofs.lemmas.List.{length-map, length-take-le, map_more}
use Rattle.std.proofs.lemmas.List.Quantifiers.{position-Some}
use Rattle.ss_lemmas.proofs.Positions.{position_push}
use Rattle.ss_names.specs.Names.{is_among, bytes_behind}

-- ---- one item more

-- a name that is noted unless it is there, of a list with one name more
pub index_step : (names : List (Bor (List ℕ))) (i : ℕ) (d : Bor (List ℕ)) (other : List ℕ) (old new : Option ℕ) → i < length names → old ≡ position (bytes_eq other) (bytes_behind (take i names)) → new ≡ option_or old (cond (bytes_eq (get_or names i d).now other) (Some i) None) → new ≡ position (bytes_eq other) (bytes_behind (take (i + 1) names))
index_step names i d other old new h before noted =
    let done = bytes_behind (take i names) in
    let key : List ℕ = (get_or names i d).now in
    let now : Bor (List ℕ) → List ℕ = λ b. b.now in
    let n : length done ≡ i = length-map (take i names) now ∙ length-take-le i names (omega (arith, h)) in
    noted
    ∙ ap (λ o. option_or o (cond (bytes_eq key other) (Some i) None)) before
    ∙ ap (λ b. option_or (position (bytes_eq other) done) (cond b (Some i) None)) (nat_list_eq_equiv.symm key other)
    ∙ ap (λ k. option_or (position (bytes_eq other) done) (cond (bytes_eq other key) (Some k) None)) (sym n)
    ∙ sym (position_push (bytes_eq other) done key)
    ∙ ap (position (bytes_eq other)) (sym (map_more now names i d h))

-- ---- a name that is there, and one that is not

-- an item passes exactly where a first one does, of a list that starts at position i
any_from : {X : Type 0} (p : X → Bool) (i : ℕ) (xs : List X) → list_any p xs ≡ is_some (position_from p i xs)
any_from p i [] = refl
any_from p i (y ∷ xs) = by (p y) (any_from p (i + 1) xs)
  where
    by : (b : Bool) → list_any p xs ≡ is_some (position_from p (i + 1) xs) → (b || list_any p xs) ≡ is_some (cond b (Some i) (position_from p (i + 1) xs))
    by true h = refl
    by false h = h

-- a name is one of a list exactly where it has a position there
pub among_is : (names : List (List ℕ)) (name : List ℕ) → is_some (position (bytes_eq name) names) ≡ is_among names name
among_is names name = sym (any_from (bytes_eq name) 0 names ∙ ap is_some (sym (position_from-zero (bytes_eq name) names)))

-- a position is below the list's length
pub position_below : (names : List (List ℕ)) (name : List ℕ) (at most : ℕ) → Some at ≡ position (bytes_eq name) names → length names ≤ most → at < most
position_below names name at most e h = omega (arith, (position-Some (bytes_eq name) names at [] (sym e)).0, h)
