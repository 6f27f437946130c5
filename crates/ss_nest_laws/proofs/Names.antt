-- Lists of names in which none is there twice.
use Rattle.std.proofs.Common.{◌≡◌, ◌+◌, not, ℕ, zero, suc, true, List, [], ◌∷◌, ◌++◌, map, length, slice_get, refl, sym, ap, ◌∙◌, Some, None, arith}
use Rattle.std.specs.declared.option.Option.{Option}
use Rattle.std.specs.Option.{option_map}
use Rattle.std.specs.List.{list_any}
use Rattle.std.proofs.lemmas.Bool.{and_from, not_from_false}
use Rattle.std.proofs.lemmas.Option.{slice_get-map}
use Rattle.std.proofs.lemmas.Map.Text.{is_eq-slice_cmp}
use Rattle.std.proofs.lemmas.Slice.Eq.{bytes_eq-Decides}
use Rattle.ss_model.specs.CatalogForm.{names_equal, all_distinct}
use Rattle.ss_lemmas.proofs.Bools.{first_of_two, second_of_two, some_same, any_at, is_false}
use Rattle.ss_model_laws.proofs.Workflows.{some_index}
use Rattle.ss_nest_laws.proofs.Lists.{off}

same_name : (a b : List ℕ) → names_equal a b ≡ true → a ≡ b
same_name a b e = (bytes_eq-Decides a b).0 (sym (is_eq-slice_cmp a b) ∙ e)

equal_names : (a b : List ℕ) → a ≡ b → names_equal a b ≡ true
equal_names a b e = is_eq-slice_cmp a b ∙ (bytes_eq-Decides a b).1 e

-- the same name is at the same place
pub one_place : (xs : List (List ℕ)) → all_distinct xs ≡ true → (i j : ℕ) (a b : List ℕ) → slice_get xs i ≡ Some a → slice_get xs j ≡ Some b → a ≡ b → i ≡ j
one_place [] d i j a b is at same = cc
one_place (x ∷ xs) d zero zero a b is at same = refl
one_place (x ∷ xs) d zero (suc j) a b is at same = absurd (off _ (first_of_two _ _ d) (any_at (names_equal x) xs j b at (equal_names x b (some_same x a is ∙ same))))
one_place (x ∷ xs) d (suc i) zero a b is at same = absurd (off _ (first_of_two _ _ d) (any_at (names_equal x) xs i a is (equal_names x a (some_same x b at ∙ sym same))))
one_place (x ∷ xs) d (suc i) (suc j) a b is at same = ap suc (one_place xs (second_of_two _ _ d) i j a b is at same)

-- and where each name has one place, none is there twice
pub distinct_by : (xs : List (List ℕ)) → ((i j : ℕ) (a b : List ℕ) → slice_get xs i ≡ Some a → slice_get xs j ≡ Some b → a ≡ b → i ≡ j) → all_distinct xs ≡ true
distinct_by [] h = refl
distinct_by (x ∷ xs) h =
    and_from (not (list_any (names_equal x) xs)) (all_distinct xs)
    (not_from_false _ (is_false _ (λ some.
    let (n, y, at, same) = some_index (names_equal x) xs some in
    let wrong : 0 ≡ suc n = h 0 (suc n) x y refl at (same_name x y same) in omega arith)))
    (distinct_by xs (λ i j a b is at same. let e : suc i ≡ suc j = h (suc i) (suc j) a b is at same in omega arith))

-- ---- places in what is made of a list, and in two lists

pub made_at : {A B : Type 0} (f : A → B) (xs : List A) (i : ℕ) (b : B) → slice_get (map f xs) i ≡ Some b → (a : A) × (slice_get xs i ≡ Some a) × (f a ≡ b)
made_at {A} {B} f xs i b is = by (slice_get xs i) refl (sym (slice_get-map f xs i) ∙ is)
  where
    by : (o : Option A) → slice_get xs i ≡ o → option_map f o ≡ Some b → (a : A) × (slice_get xs i ≡ Some a) × (f a ≡ b)
    by None at e = cc
    by (Some a) at e = (a, at, some_same _ b e)

pub in_first : {A : Type 0} (xs ys : List A) (i : ℕ) (a : A) → slice_get xs i ≡ Some a → slice_get (xs ++ ys) i ≡ Some a
in_first [] ys i a is = cc
in_first (x ∷ xs) ys zero a is = is
in_first (x ∷ xs) ys (suc i) a is = in_first xs ys i a is

pub in_second : {A : Type 0} (xs ys : List A) (j : ℕ) → slice_get (xs ++ ys) (length xs + j) ≡ slice_get ys j
in_second [] ys j = let same : 0 + j ≡ j = omega arith in ap (slice_get ys) same
in_second (x ∷ xs) ys j = let same : suc (length xs) + j ≡ suc (length xs + j) = omega arith in ap (slice_get ((x ∷ xs) ++ ys)) same ∙ in_second xs ys j
