-- The first unknown name.
use Rattle.std.proofs.Common.{◌≡◌, ℕ, ◌+◌, ◌<◌, sym, ap, ◌∙◌, refl, Bool, true, false, cond, List, [], ◌∷◌, ◌++◌, length, get_or, drop, Option, None, Some}
use Rattle.std.specs.Prelude.{not, option_map}
use Rattle.std.specs.List.{find, flat_map}
use Rattle.std.specs.Option.{option_or}
use Rattle.ss_names.specs.Names.{is_among, itself, AreSameNames}
use Rattle.ss_catalog_outline.specs.Unknown.{Used, names_in, is_unknown, first_unknown}
use Rattle.ss_lemmas.proofs.LoopItem.{next}

-- the first of two lists
pub first_unknown_append : (us vs : List Used) → first_unknown (us ++ vs) ≡ option_or (first_unknown us) (first_unknown vs)
first_unknown_append [] vs = refl
first_unknown_append (u ∷ us) vs = by (is_unknown u) (first_unknown_append us vs)
  where
    by : (b : Bool) → first_unknown (us ++ vs) ≡ option_or (first_unknown us) (first_unknown vs) → option_map (λ (u : Used). u.name) (cond b (Some u) (find is_unknown (us ++ vs))) ≡ option_or (option_map (λ (u : Used). u.name) (cond b (Some u) (find is_unknown us))) (first_unknown vs)
    by true h = refl
    by false h = h

-- one turn of a loop over what has uses of names
module _ {X : Type 0} (uses : X → List Used) (xs : List X) (i : ℕ) (x : X) (h : i < length xs) (e : x ≡ get_or xs i x) where
  pub uses_step : first_unknown (flat_map uses (drop i xs)) ≡ option_or (first_unknown (uses x)) (first_unknown (flat_map uses (drop (i + 1) xs)))
  uses_step = ap (λ ys. first_unknown (flat_map uses ys)) (next xs i x h e) ∙ first_unknown_append (uses x) (flat_map uses (drop (i + 1) xs))

-- the first name of a list that is none of these
pub used_find : {X : Type 0} (name : X → List ℕ) (known : List (List ℕ)) (xs : List X) → first_unknown (names_in name known xs) ≡ option_map name (find (λ x. not (is_among known (name x))) xs)
used_find name known [] = refl
used_find name known (x ∷ xs) = by (not (is_among known (name x))) (used_find name known xs)
  where
    by : (b : Bool) → first_unknown (names_in name known xs) ≡ option_map name (find (λ x. not (is_among known (name x))) xs) → option_map (λ (u : Used). u.name) (cond b (Some (record { known = known; name = name x })) (find is_unknown (names_in name known xs))) ≡ option_map name (cond b (Some x) (find (λ x. not (is_among known (name x))) xs))
    by true h = refl
    by false h = h

-- only which names are known matters
pub used_same : {X : Type 0} (name : X → List ℕ) (these those : List (List ℕ)) → AreSameNames these those → (xs : List X) → first_unknown (names_in name these xs) ≡ first_unknown (names_in name those xs)
used_same name these those same [] = refl
used_same name these those same (x ∷ xs) =
    first_unknown_append (record { known = these; name = name x } ∷ []) (names_in name these xs)
    ∙ ap (λ b. option_or (option_map (λ (u : Used). u.name) (cond (not b) (Some (record { known = these; name = name x })) None)) (first_unknown (names_in name these xs))) (same (name x))
    ∙ by (not (is_among those (name x)))
    ∙ ap (λ r. option_or (first_unknown (record { known = those; name = name x } ∷ [])) r) (used_same name these those same xs)
    ∙ sym (first_unknown_append (record { known = those; name = name x } ∷ []) (names_in name those xs))
  where
    by : (b : Bool) → option_or (option_map (λ (u : Used). u.name) (cond b (Some (record { known = these; name = name x })) None)) (first_unknown (names_in name these xs)) ≡ option_or (option_map (λ (u : Used). u.name) (cond b (Some (record { known = those; name = name x })) None)) (first_unknown (names_in name these xs))
    by true = refl
    by false = refl

-- uses that are alike one by one
pub uses_same : {X : Type 0} (these those : X → List Used) → ((x : X) → first_unknown (these x) ≡ first_unknown (those x)) → (xs : List X) → first_unknown (flat_map these xs) ≡ first_unknown (flat_map those xs)
uses_same these those same [] = refl
uses_same these those same (x ∷ xs) =
    first_unknown_append (these x) (flat_map these xs)
    ∙ ap (λ r. option_or r (first_unknown (flat_map these xs))) (same x)
    ∙ ap (λ r. option_or (first_unknown (those x)) r) (uses_same these those same xs)
    ∙ sym (first_unknown_append (those x) (flat_map those xs))

-- ---- the first item that is none of these

some_itself : (o : Option (List ℕ)) → option_map itself o ≡ o
some_itself None = refl
some_itself (Some n) = refl

pub used_itself : (known names : List (List ℕ)) (o : Option (List ℕ)) → o ≡ find (λ n. not (is_among known n)) names → o ≡ first_unknown (names_in itself known names)
used_itself known names o e = e ∙ sym (some_itself (find (λ n. not (is_among known n)) names)) ∙ sym (used_find itself known names)

pub used_mapped : {X : Type 0} (name : X → List ℕ) (known : List (List ℕ)) (xs : List X) (o : Option X) → o ≡ find (λ x. not (is_among known (name x))) xs → option_map name o ≡ first_unknown (names_in name known xs)
used_mapped name known xs o e = ap (option_map name) e ∙ sym (used_find name known xs)
