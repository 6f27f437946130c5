-- Names without duplicates, and their numbers.
use Rattle.std.proofs.Common.{◌≡◌, ◌∙◌, ◌<◌, ◌==◌, not, ℕ, List, [], ◌∷◌, ◌++◌, length, map, Bool, true, false, cond, refl, sym, ap, subst, inl, inr, Some, None, get_or, unwrap_or, append_assoc, append-nil, arith}
use Rattle.std.specs.List.{AllByRecursion, list_any, position_or_len}
use Rattle.std.specs.Str.{bytes_eq}
use Rattle.std.proofs.lemmas.Bool.{and_parts, and_from, or_parts, or_from, not-true, not_from_false, both_ways, false_from_ne_true, cases_lt, lt-ltb, eqb-true}
use Rattle.std.proofs.lemmas.List.Folds.{list_any-append, Any-from_list_any}
use Rattle.std.proofs.lemmas.List.Sums.{fails_before_first, passes_at_first}
use Rattle.std.proofs.lemmas.Map.Text.{is_eq-slice_cmp}
use Rattle.std.proofs.lemmas.Slice.Eq.{bytes_eq-Decides}
use Rattle.ss_model.specs.CatalogForm.{names_equal, all_distinct, numbers_distinct}
use Rattle.ss_names.specs.Names.{is_among}
use Rattle.ss_catalog_outline.specs.Twice.{Standing, standing_behind, is_twice}
use Rattle.ss_catalog_resolve.specs.Numbers.{number_in}
use Rattle.ss_lemmas.proofs.EachOf.{all_parts}

-- ---- names without duplicates

-- names that differ differ the other way round
apart : (x y : List ℕ) → bytes_eq x y ≡ false → names_equal y x ≡ false
apart x y h = is_eq-slice_cmp y x ∙ false_from_ne_true (bytes_eq y x) (λ same. both_ways (bytes_eq x y) h ((bytes_eq-Decides x y).1 (sym ((bytes_eq-Decides y x).0 same))))

-- one name more, which is new
distinct_push : (xs : List (List ℕ)) (n : List ℕ) → all_distinct xs ≡ true → is_among xs n ≡ false → all_distinct (xs ++ n ∷ []) ≡ true
distinct_push [] n d new = refl
distinct_push (x ∷ xs) n d new =
    let parts = and_parts (not (list_any (names_equal x) xs)) (all_distinct xs) d in
    let others = or_parts (bytes_eq n x) (is_among xs n) new in
    and_from (not (list_any (names_equal x) (xs ++ n ∷ []))) (all_distinct (xs ++ n ∷ []))
    (not_from_false _ (list_any-append (names_equal x) xs (n ∷ []) ∙ or_from _ _ (not-true _ parts.0) (or_from _ _ (apart n x others.0) refl)))
    (distinct_push xs n parts.1 others.1)

-- the name did not occur before
abbrev pub StandsOnce : Standing → Type 0
StandsOnce s = is_twice s ≡ false

module _ {X : Type 0} (name : X → List ℕ) (inside : X → List Standing) where
  -- the names of a list, behind others
  pub standing_distinct : (before : List (List ℕ)) (xs : List X) → AllByRecursion StandsOnce (standing_behind name inside before xs) → all_distinct before ≡ true → all_distinct (before ++ map name xs) ≡ true
  standing_distinct before [] once d = ap all_distinct (append-nil before) ∙ d
  standing_distinct before (x ∷ xs) once d =
      ap all_distinct (sym (append_assoc before (name x ∷ []) (map name xs)))
      ∙ standing_distinct (before ++ name x ∷ []) xs ((all_parts StandsOnce (inside x) (standing_behind name inside (before ++ name x ∷ []) xs) once.1).1) (distinct_push before (name x) d once.0)

  -- those inside each
  pub standing_inside : (before : List (List ℕ)) (xs : List X) → AllByRecursion StandsOnce (standing_behind name inside before xs) → AllByRecursion (λ x. AllByRecursion StandsOnce (inside x)) xs
  standing_inside before [] once = tt
  standing_inside before (x ∷ xs) once =
      let parts = all_parts StandsOnce (inside x) (standing_behind name inside (before ++ name x ∷ []) xs) once.1 in
      (parts.0, standing_inside (before ++ name x ∷ []) xs parts.1)

-- ---- numbers of names

-- some item passes, and so the first that does is there
first_within : {A : Type 0} (p : A → Bool) (xs : List A) → list_any p xs ≡ true → position_or_len p xs < length xs
first_within p xs h =
    let a = Any-from_list_any p xs h in
    let k_in : a.0 < length xs = a.2 in
    elim (cases_lt (position_or_len p xs) (length xs)) [
      | inl l ↦ l
      | inr l ↦ absurd (both_ways (p (get_or xs a.0 a.1)) (fails_before_first p xs a.0 a.1 (omega arith)) (ap p a.3 ∙ a.4))
    ]

module _ (names : List (List ℕ)) (n : List ℕ) (known : is_among names n ≡ true) where
  number_is : number_in names n ≡ position_or_len (bytes_eq n) names
  number_is = ap (λ b. unwrap_or (cond b (Some (position_or_len (bytes_eq n) names)) None) 0) (lt-ltb _ _ (first_within (bytes_eq n) names known))

  -- a name that is there has a number below their count
  pub number_within : number_in names n < length names
  number_within = subst (λ k. k < length names) (sym number_is) (first_within (bytes_eq n) names known)

  -- and is there at that number
  number_there : get_or names (number_in names n) [] ≡ n
  number_there =
      ap (λ k. get_or names k []) number_is
      ∙ sym ((bytes_eq-Decides n _).0 (passes_at_first (bytes_eq n) names [] (first_within (bytes_eq n) names known)))

-- names with one number are one
pub number_apart : (names : List (List ℕ)) (a b : List ℕ) → is_among names a ≡ true → is_among names b ≡ true → number_in names a ≡ number_in names b → a ≡ b
number_apart names a b h g e = sym (number_there names a h) ∙ ap (λ k. get_or names k []) e ∙ number_there names b g

-- ---- numbers that differ where names do

module _ {X : Type 0} (P : X → Type 0) (name : X → List ℕ) (number : X → ℕ) (one : (x y : X) → P x → P y → number x ≡ number y → name x ≡ name y) where
  number_new : (x : X) → P x → (ys : List X) → AllByRecursion P ys → list_any (names_equal (name x)) (map name ys) ≡ false → list_any (λ m. number x == m) (map number ys) ≡ false
  number_new x p [] all h = refl
  number_new x p (y ∷ ys) all h =
      let parts = or_parts (names_equal (name x) (name y)) (list_any (names_equal (name x)) (map name ys)) h in
      or_from (number x == number y) (list_any (λ m. number x == m) (map number ys))
      (false_from_ne_true _ (λ same. both_ways _ parts.0 (is_eq-slice_cmp (name x) (name y) ∙ (bytes_eq-Decides (name x) (name y)).1 (one x y p all.0 (eqb-true (number x) (number y) same)))))
      (number_new x p ys all.1 parts.1)

  pub numbers_apart : (xs : List X) → AllByRecursion P xs → all_distinct (map name xs) ≡ true → numbers_distinct (map number xs) ≡ true
  numbers_apart [] all d = refl
  numbers_apart (x ∷ xs) all d =
      let parts = and_parts (not (list_any (names_equal (name x)) (map name xs))) (all_distinct (map name xs)) d in
      and_from (not (list_any (λ m. number x == m) (map number xs))) (numbers_distinct (map number xs))
      (not_from_false _ (number_new x all.0 xs all.1 (not-true _ parts.0)))
      (numbers_apart xs all.1 parts.1)
