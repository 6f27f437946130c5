-- What holds of each item of a list.
use Rattle.std.proofs.Common.{◌≡◌, ℕ, zero, suc, List, [], ◌∷◌, ◌++◌, map, Bool, true, false, cond, refl, ap, subst, Option, None, Some, slice_get, ◌&&◌, ◌∙◌, take}
use Rattle.std.specs.Prelude.{option_map}
use Rattle.std.specs.List.{AllByRecursion, find, flat_map, list_all, list_any}
use Rattle.std.proofs.lemmas.Bool.{and_from, or_parts}

module _ {A : Type 0} where
  -- each passes a test
  pub all_pass : (P : A → Type 0) (test : A → Bool) → ((x : A) → P x → test x ≡ true) → (xs : List A) → AllByRecursion P xs → list_all test xs ≡ true
  all_pass P test each [] all = refl
  all_pass P test each (x ∷ xs) all = and_from (test x) (list_all test xs) (each x all.0) (all_pass P test each xs all.1)

  -- and all that follows from what holds of it
  pub all_with : (P Q : A → Type 0) → ((x : A) → P x → Q x) → (xs : List A) → AllByRecursion P xs → AllByRecursion Q xs
  all_with P Q each [] all = tt
  all_with P Q each (x ∷ xs) all = (each x all.0, all_with P Q each xs all.1)

  pub all_such : (P : A → Type 0) → ((x : A) → P x) → (xs : List A) → AllByRecursion P xs
  all_such P each [] = tt
  all_such P each (x ∷ xs) = (each x, all_such P each xs)

  pub all_both : (P Q : A → Type 0) (xs : List A) → AllByRecursion P xs → AllByRecursion Q xs → AllByRecursion (λ x. P x × Q x) xs
  all_both P Q [] p q = tt
  all_both P Q (x ∷ xs) p q = ((p.0, q.0), all_both P Q xs p.1 q.1)

  -- what follows from three and four facts of each
  pub all_three : (P Q R S : A → Type 0) → ((x : A) → P x → Q x → R x → S x) → (xs : List A) → AllByRecursion P xs → AllByRecursion Q xs → AllByRecursion R xs → AllByRecursion S xs
  all_three P Q R S each [] p q r = tt
  all_three P Q R S each (x ∷ xs) p q r = (each x p.0 q.0 r.0, all_three P Q R S each xs p.1 q.1 r.1)

  pub all_four : (P Q R S T : A → Type 0) → ((x : A) → P x → Q x → R x → S x → T x) → (xs : List A) → AllByRecursion P xs → AllByRecursion Q xs → AllByRecursion R xs → AllByRecursion S xs → AllByRecursion T xs
  all_four P Q R S T each [] p q r s = tt
  all_four P Q R S T each (x ∷ xs) p q r s = (each x p.0 q.0 r.0 s.0, all_four P Q R S T each xs p.1 q.1 r.1 s.1)

  -- of the item of a number
  pub all_at : (P : A → Type 0) (xs : List A) → AllByRecursion P xs → (n : ℕ) (x : A) → slice_get xs n ≡ Some x → P x
  all_at P [] all n x is = absurd (cc)
  all_at P (y ∷ ys) all zero x is = let same : y ≡ x = cc in subst P same all.0
  all_at P (y ∷ ys) all (suc n) x is = all_at P ys all.1 n x is

  -- the parts of a list
  pub all_parts : (P : A → Type 0) (xs ys : List A) → AllByRecursion P (xs ++ ys) → AllByRecursion P xs × AllByRecursion P ys
  all_parts P [] ys all = (tt, all)
  all_parts P (x ∷ xs) ys all = let rest = all_parts P xs ys all.1 in ((all.0, rest.0), rest.1)

  pub three_parts : (P : A → Type 0) (xs ys zs : List A) → AllByRecursion P (xs ++ ys ++ zs) → AllByRecursion P xs × AllByRecursion P ys × AllByRecursion P zs
  three_parts P xs ys zs all =
      let outer = all_parts P (xs ++ ys) zs all in
      let inner = all_parts P xs ys outer.0 in
      (inner.0, inner.1, outer.1)

  -- where a search finds nothing, or no item passes
  pub none_found : (test : A → Bool) (xs : List A) → find test xs ≡ None → AllByRecursion (λ x. test x ≡ false) xs
  none_found test [] e = tt
  none_found test (x ∷ xs) e = by (test x) refl e (none_found test xs)
    where
      by : (b : Bool) → test x ≡ b → cond b (Some x) (find test xs) ≡ None → (find test xs ≡ None → AllByRecursion (λ x. test x ≡ false) xs) → (test x ≡ false) × AllByRecursion (λ x. test x ≡ false) xs
      by true is f rest = absurd (cc)
      by false is f rest = (is, rest f)

  pub none_passes : (test : A → Bool) (xs : List A) → list_any test xs ≡ false → AllByRecursion (λ x. test x ≡ false) xs
  none_passes test [] e = tt
  none_passes test (x ∷ xs) e = let parts = or_parts (test x) (list_any test xs) e in (parts.0, none_passes test xs parts.1)

module _ {A B : Type 0} where
  -- what each is changed to
  pub all_map : (P : B → Type 0) (f : A → B) (xs : List A) → AllByRecursion (λ x. P (f x)) xs → AllByRecursion P (map f xs)
  all_map P f [] all = tt
  all_map P f (x ∷ xs) all = (all.0, all_map P f xs all.1)

  pub all_unmap : (P : B → Type 0) (f : A → B) (xs : List A) → AllByRecursion P (map f xs) → AllByRecursion (λ x. P (f x)) xs
  all_unmap P f [] all = tt
  all_unmap P f (x ∷ xs) all = (all.0, all_unmap P f xs all.1)

  -- the lists of a list
  pub all_flat : (P : B → Type 0) (f : A → List B) (xs : List A) → AllByRecursion P (flat_map f xs) → AllByRecursion (λ x. AllByRecursion P (f x)) xs
  all_flat P f [] all = tt
  all_flat P f (x ∷ xs) all = let parts = all_parts P (f x) (flat_map f xs) all in (parts.0, all_flat P f xs parts.1)

pub none_from_map : {A B : Type 0} (f : A → B) (a : Option A) → option_map f a ≡ None → a ≡ None
none_from_map f None e = refl
none_from_map f (Some a) e = absurd (cc)

pub map_map : {A B C : Type 0} (g : B → C) (f : A → B) (xs : List A) → map g (map f xs) ≡ map (λ x. g (f x)) xs
map_map g f [] = refl
map_map g f (x ∷ xs) = ap (λ ys. g (f x) ∷ ys) (map_map g f xs)

pub all_from : {A : Type 0} (g : A → Bool) (xs : List A) → ((n : ℕ) (x : A) → slice_get xs n ≡ Some x → g x ≡ true) → list_all g xs ≡ true
all_from g [] f = refl
all_from g (x ∷ xs) f = ap (λ b. b && list_all g xs) (f zero x refl) ∙ all_from g xs (λ n y e. f (suc n) y e)

pub all_take : {A : Type 0} (P : A → Type 0) (n : ℕ) (xs : List A) → AllByRecursion P xs → AllByRecursion P (take n xs)
all_take P zero [] h = tt
all_take P (suc n) [] h = tt
all_take P zero (x ∷ xs) h = tt
all_take P (suc n) (x ∷ xs) h = (h.0, all_take P n xs h.1)
