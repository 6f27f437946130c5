-- Numbers for names, in lists.
use Rattle.std.proofs.Common.{◌≡◌, ◌∙◌, ◌<◌, ◌==◌, ◌||◌, ℕ, List, [], ◌∷◌, ◌++◌, length, map, true, false, refl, ap, sym, subst, inl, inr}
use Rattle.std.specs.Prelude.{nat_lt}
use Rattle.std.specs.List.{AllByRecursion, list_all, list_any}
use Rattle.std.specs.Str.{bytes_eq}
use Rattle.std.proofs.lemmas.Bool.{or_cases, or_left, or_right, lt-ltb, eq-eqb}
use Rattle.std.proofs.lemmas.List.{length-map}
use Rattle.std.proofs.lemmas.List.Folds.{list_any-append}
use Rattle.std.proofs.lemmas.Slice.Eq.{bytes_eq-Decides}
use Rattle.ss_model.specs.CatalogForm.{numbers_distinct}
use Rattle.ss_names.specs.Names.{is_among, itself}
use Rattle.ss_catalog_resolve.specs.Numbers.{number_in}
use Rattle.ss_lemmas.proofs.EachOf.{all_map, all_pass}
use Rattle.ss_catalog_laws.proofs.Names.{number_within, number_apart, numbers_apart}
use Rattle.ss_catalog_laws.proofs.Once.{AreDistinct}
use Rattle.ss_catalog_laws.proofs.Known.{IsAmong}
use Rattle.ss_catalog_laws.proofs.Readings.{IsSome}

-- a number below a count
abbrev pub IsBelow : ℕ → ℕ → Type 0
IsBelow count n = nat_lt n count ≡ true

-- the number of a name of so many things
pub number_below : {X : Type 0} (name : X → List ℕ) (xs : List X) (n : List ℕ) → IsAmong (map name xs) n → IsBelow (length xs) (number_in (map name xs) n)
number_below name xs n known = lt-ltb _ _ (subst (λ count. number_in (map name xs) n < count) (length-map xs name) (number_within (map name xs) n known))

module _ {X : Type 0} (name : X → List ℕ) (xs : List X) (ns : List (List ℕ)) (known : AllByRecursion (IsAmong (map name xs)) ns) where
  -- the numbers of some of them
  pub numbers_below : list_all (λ n. nat_lt n (length xs)) (map (number_in (map name xs)) ns) ≡ true
  numbers_below =
      all_pass (IsBelow (length xs)) (λ n. nat_lt n (length xs)) (λ n h. h) (map (number_in (map name xs)) ns) (all_map (IsBelow (length xs)) (number_in (map name xs)) ns (each ns known))
    where
      each : (ns : List (List ℕ)) → AllByRecursion (IsAmong (map name xs)) ns → AllByRecursion (λ n. IsBelow (length xs) (number_in (map name xs) n)) ns
      each [] all = tt
      each (n ∷ ns) all = (number_below name xs n all.0, each ns all.1)

  pub numbers_once : AreDistinct itself ns → numbers_distinct (map (number_in (map name xs)) ns) ≡ true
  numbers_once distinct = numbers_apart (IsAmong (map name xs)) itself (number_in (map name xs)) (number_apart (map name xs)) ns known distinct

-- the number of one of them is among these
pub number_among : (number : List ℕ → ℕ) (name : List ℕ) (names : List (List ℕ)) → IsAmong names name → list_any (λ k. number name == k) (map number names) ≡ true
number_among number name [] known = known
number_among number name (n ∷ names) known =
    elim (or_cases (bytes_eq name n) (is_among names name) known) [
      | inl same ↦ or_left (number name == number n) _ (eq-eqb (number name) (number n) (ap number ((bytes_eq-Decides name n).0 same)))
      | inr other ↦ or_right (number name == number n) _ (number_among number name names other)
    ]

-- one of those that are all among these
pub among_these : (these names : List (List ℕ)) (name : List ℕ) → AllByRecursion (IsAmong these) names → IsAmong names name → IsAmong these name
among_these these [] name all known = absurd (cc)
among_these these (n ∷ names) name all known =
    elim (or_cases (bytes_eq name n) (is_among names name) known) [
      | inl same ↦ subst (IsAmong these) (sym ((bytes_eq-Decides name n).0 same)) all.0
      | inr other ↦ among_these these names name all.1 other
    ]

-- as many as before
pub some_map : {A B : Type 0} (f : A → B) (xs : List A) → IsSome xs → IsSome (map f xs)
some_map f [] h = h
some_map f (x ∷ xs) h = refl

-- of two lists it is in the second, if it is not in the first
pub in_second : (these those : List (List ℕ)) (name : List ℕ) → IsAmong (these ++ those) name → is_among these name ≡ false → IsAmong those name
in_second these those name h missing = ap (λ b. b || is_among those name) (sym missing) ∙ sym (list_any-append (bytes_eq name) these those) ∙ h
