-- Sets of names.
use Rattle.std.proofs.Common.{◌≡◌, ℕ, ◌+◌, ◌<◌, sym, ap, ◌∙◌, refl, Bool, true, false, cond, ◌||◌, List, [], ◌∷◌, ◌++◌, length, get_or, map, take}
use Rattle.std.specs.Prelude.{nat_eq}
use Rattle.std.specs.Borrow.{Bor}
use Rattle.std.specs.Str.{bytes_eq}
use Rattle.std.specs.Cmp.Lexicographic.{pointwise, bytes_decides}
use Rattle.std.specs.List.{list_any}
use Rattle.std.proofs.lemmas.List.{map-append}
use Rattle.std.proofs.lemmas.List.Folds.{list_any-append}
use Rattle.ss_names.specs.Names.{is_among, AreSameNames, bytes_behind}
use Rattle.ss_lemmas.proofs.LoopItem.{map_next_behind}

-- references to the same bytes
abbrev pub same_behind : Bor (List ℕ) → Bor (List ℕ) → Bool
same_behind a b = pointwise nat_eq a.now b.now

-- a set of references has what the set of their bytes has
pub behind_any : (k : Bor (List ℕ)) (ks : List (Bor (List ℕ))) → list_any (same_behind k) ks ≡ is_among (bytes_behind ks) k.now
behind_any k [] = refl
behind_any k (b ∷ ks) = ap (λ r. same_behind k b || r) (behind_any k ks)

-- a name that is added unless it is there
abbrev pub with_name : List (List ℕ) → List ℕ → List (List ℕ)
with_name names name = cond (is_among names name) names (names ++ name ∷ [])

pub behind_insert : (ks : List (Bor (List ℕ))) (k : Bor (List ℕ)) → bytes_behind (cond (list_any (same_behind k) ks) ks (ks ++ k ∷ [])) ≡ with_name (bytes_behind ks) k.now
behind_insert ks k = by (list_any (same_behind k) ks) ∙ ap (λ b. cond b (bytes_behind ks) (bytes_behind ks ++ k.now ∷ [])) (behind_any k ks)
  where
    by : (b : Bool) → bytes_behind (cond b ks (ks ++ k ∷ [])) ≡ cond b (bytes_behind ks) (bytes_behind ks ++ k.now ∷ [])
    by true = refl
    by false = map-append (λ (b : Bor (List ℕ)). b.now) ks (k ∷ [])

-- the names of a set with one name more
pub with_name_any : (names : List (List ℕ)) (name other : List ℕ) → is_among (with_name names name) other ≡ is_among (names ++ name ∷ []) other
with_name_any names name other = by (is_among names name) refl
  where
    last : (b e : Bool) → (e ≡ true → b ≡ true) → b ≡ (b || (e || false))
    last true e h = refl
    last false true h = h refl
    last false false h = refl

    there : is_among names name ≡ true → bytes_eq other name ≡ true → is_among names other ≡ true
    there h e = ap (is_among names) ((bytes_decides other name).0 e) ∙ h

    by : (b : Bool) → is_among names name ≡ b → is_among (cond b names (names ++ name ∷ [])) other ≡ is_among (names ++ name ∷ []) other
    by true h = last (is_among names other) (bytes_eq other name) (there h) ∙ sym (list_any-append (bytes_eq other) names (name ∷ []))
    by false h = refl

-- one item more of a list whose names are added
pub added_step : {X : Type 0} (name : X → List ℕ) (before : List (List ℕ)) (xs : List X) (i : ℕ) (x : X) (old new : List (List ℕ)) → i < length xs → x ≡ get_or xs i x → AreSameNames old (before ++ map name (take i xs)) → new ≡ with_name old (name x) → AreSameNames new (before ++ map name (take (i + 1) xs))
added_step name before xs i x old new h e same grown other =
    let done = before ++ map name (take i xs) in
    ap (λ ns. is_among ns other) grown
    ∙ with_name_any old (name x) other
    ∙ list_any-append (bytes_eq other) old (name x ∷ [])
    ∙ ap (λ b. b || is_among (name x ∷ []) other) (same other)
    ∙ sym (list_any-append (bytes_eq other) done (name x ∷ []))
    ∙ ap (λ ns. is_among ns other) (sym (map_next_behind name before xs i x h e))
