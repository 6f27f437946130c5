-- Tests: their conjunctions, and those of all numbers below one or of all of a list.
use Rattle.std.proofs.Common.{◌≡◌, ◌<◌, ◌==◌, ◌&&◌, ◌||◌, ◌⊎◌, inl, inr, not, cond, ℕ, zero, suc, Bool, true, false, List, [], ◌∷◌, slice_get, Some, unwrap_or, refl, sym, ap, subst, arith, ◌∙◌, T}
use Rattle.std.specs.List.{AllByRecursion, filter, list_all, list_any}
use Rattle.std.proofs.lemmas.Bool.{eqb-true, eqb-false, and_parts}

-- a test of each number below
abbrev pub all_below : ℕ → (ℕ → Bool) → Bool
all_below zero f = true
all_below (suc n) f = f n && all_below n f

-- a number below that passes
abbrev pub some_below : ℕ → (ℕ → Bool) → Bool
some_below zero f = false
some_below (suc n) f = f n || some_below n f

abbrev pub implies : Bool → Bool → Bool
implies a b = not a || b

pub implied : (a b : Bool) → implies a b ≡ true → a ≡ true → b ≡ true
implied true b h e = h
implied false b h e = cc

pub first_of_two : (a b : Bool) → (a && b) ≡ true → a ≡ true
first_of_two a b e = (and_parts a b e).0

pub second_of_two : (a b : Bool) → (a && b) ≡ true → b ≡ true
second_of_two a b e = (and_parts a b e).1

pub some_same : {A : Type 0} (x y : A) → Some x ≡ Some y → x ≡ y
some_same x y e = ap (λ o. unwrap_or o x) e

pub either_so : (a b : Bool) → (a || b) ≡ true → (a ≡ true) ⊎ (b ≡ true)
either_so true b e = inl refl
either_so false b e = inr e

pub below : (n : ℕ) (f : ℕ → Bool) → all_below n f ≡ true → (k : ℕ) → k < n → f k ≡ true
below zero f h k l = absurd (omega arith)
below (suc n) f h k l = by (below n f (second_of_two _ _ h) k) (k == n) refl
  where
    by : (k < n → f k ≡ true) → (b : Bool) → (k == n) ≡ b → f k ≡ true
    by less true e = subst (λ k. f k ≡ true) (sym (eqb-true k n e)) (first_of_two _ _ h)
    by less false e = let differ : k ≡ n → ⊥ = eqb-false k n e in less (omega arith)

pub found : (n : ℕ) (f : ℕ → Bool) → some_below n f ≡ true → (k : ℕ) × (f k ≡ true)
found zero f h = cc
found (suc n) f h = by (found n f) (either_so _ _ h)
  where
    by : (some_below n f ≡ true → (k : ℕ) × (f k ≡ true)) → (f n ≡ true) ⊎ (some_below n f ≡ true) → (k : ℕ) × (f k ≡ true)
    by less (inl e) = (n, e)
    by less (inr e) = less e

-- of each of a list, and so of the one at an index
pub at_index : {A : Type 0} (f : A → Bool) (xs : List A) → list_all f xs ≡ true → (n : ℕ) (x : A) → slice_get xs n ≡ Some x → f x ≡ true
at_index f [] h n x is = cc
at_index f (y ∷ xs) h zero x is = subst (λ x. f x ≡ true) (some_same _ _ is) (first_of_two _ _ h)
at_index f (y ∷ xs) h (suc n) x is = at_index f xs (second_of_two _ _ h) n x is

-- of those of a filter
pub each_filtered : {A : Type 0} (P : A → Type 0) (f g : A → Bool) → ((x : A) → f x ≡ true → g x ≡ true → P x) → (xs : List A) → list_all g xs ≡ true → AllByRecursion P (filter f xs)
each_filtered P f g k [] h = tt
each_filtered P f g k (x ∷ xs) h = by (each_filtered P f g k xs (second_of_two _ _ h)) (f x) refl
  where
    by : AllByRecursion P (filter f xs) → (b : Bool) → f x ≡ b → AllByRecursion P (cond b (x ∷ filter f xs) (filter f xs))
    by others true e = (k x e (first_of_two _ _ h), others)
    by others false e = others

-- one that passes both
pub any_of_both : {A : Type 0} (C : Type 0) (f g : A → Bool) → ((x : A) → f x ≡ true → g x ≡ true → C) → (xs : List A) → list_all g xs ≡ true → list_any f xs ≡ true → C
any_of_both C f g k [] h e = cc
any_of_both C f g k (x ∷ xs) h e = by (any_of_both C f g k xs (second_of_two _ _ h)) (either_so _ _ e)
  where
    by : (list_any f xs ≡ true → C) → (f x ≡ true) ⊎ (list_any f xs ≡ true) → C
    by others (inl y) = k x y (first_of_two _ _ h)
    by others (inr y) = others y

-- and of a filter
pub any_filtered : {A : Type 0} (C : Type 0) (i f g : A → Bool) → ((x : A) → i x ≡ true → f x ≡ true → g x ≡ true → C) → (xs : List A) → list_all g xs ≡ true → list_any f (filter i xs) ≡ true → C
any_filtered C i f g k [] h e = cc
any_filtered C i f g k (x ∷ xs) h e = by (any_filtered C i f g k xs (second_of_two _ _ h)) (i x) refl e
  where
    by : (list_any f (filter i xs) ≡ true → C) → (b : Bool) → i x ≡ b → list_any f (cond b (x ∷ filter i xs) (filter i xs)) ≡ true → C
    by others true on e = one (either_so _ _ e)
      where
        one : (f x ≡ true) ⊎ (list_any f (filter i xs) ≡ true) → C
        one (inl y) = k x on y (first_of_two _ _ h)
        one (inr y) = others y
    by others false on e = others e

pub any_at : {A : Type 0} (p : A → Bool) (xs : List A) (n : ℕ) (x : A) → slice_get xs n ≡ Some x → p x ≡ true → list_any p xs ≡ true
any_at p [] n x e h = absurd (cc)
any_at p (y ∷ xs) zero x e h = ap (λ b. b || list_any p xs) (ap p (some_same y x e) ∙ h)
any_at p (y ∷ xs) (suc n) x e h = elim (p y) as (λ b. (b || list_any p xs) ≡ true) [ true ↦ refl | false ↦ any_at p xs n x e h ]

pub and_left : (a b : Bool) → T (a && b) → T a
and_left true b p = tt
and_left false b p = p

pub and_right : (a b : Bool) → T (a && b) → T b
and_right true b p = p
and_right false b p = absurd p

pub chosen : {A : Type 0} (b : Bool) (x y z : A) → cond b x y ≡ z → ((b ≡ true) × (x ≡ z)) ⊎ ((b ≡ false) × (y ≡ z))
chosen true x y z e = inl (refl, e)
chosen false x y z e = inr (refl, e)

pub is_false : (b : Bool) → (b ≡ true → ⊥) → b ≡ false
is_false true h = absurd (h refl)
is_false false h = refl

pub neither_left : (a b : Bool) → (a || b) ≡ false → a ≡ false
neither_left true b e = absurd (cc)
neither_left false b e = refl
