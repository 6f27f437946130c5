-- Lists that rise in a total order.
use Rattle.std.proofs.Common.{◌≡◌, ℕ, zero, suc, ◌+◌, ◌<◌, Bool, true, false, cond, List, [], ◌∷◌, ◌++◌, length, map, take, drop, slice_index_or, refl, sym, ap, subst, ◌∙◌, arith}
use Rattle.std.specs.List.{prefix_len, AllByRecursion}
use Rattle.std.specs.List.Sorted.{IsPartitionedBy}
use Rattle.std.specs.Ordering.{is_lt, ordering_reverse}
use Rattle.std.specs.declared.cmp.Ordering.{Ordering}
use Rattle.std.specs.declared.cmp.Ordering.TheVariants.{Less, Equal, Greater}
use Rattle.std.specs.Cmp.{IsTotalOrder}
use Rattle.ss_lemmas.proofs.Orderings.{less_test}
use Rattle.ss_fragment.specs.Invariant.{Rises}

module _ {A : Type 0} (P : A → Type 0) where
  pub every-append : (xs ys : List A) → AllByRecursion P xs → AllByRecursion P ys → AllByRecursion P (xs ++ ys)
  every-append [] ys a b = b
  every-append (x ∷ xs) ys a b = (a.0, every-append xs ys a.1 b)

  pub every_front : (xs ys : List A) → AllByRecursion P (xs ++ ys) → AllByRecursion P xs
  every_front [] ys a = tt
  every_front (x ∷ xs) ys a = (a.0, every_front xs ys a.1)

  pub every_back : (xs ys : List A) → AllByRecursion P (xs ++ ys) → AllByRecursion P ys
  every_back [] ys a = a
  every_back (x ∷ xs) ys a = every_back xs ys a.1

  pub every_so : (Q : A → Type 0) (xs : List A) → ((x : A) → P x → Q x) → AllByRecursion P xs → AllByRecursion Q xs
  every_so Q [] f a = tt
  every_so Q (x ∷ xs) f a = (f x a.0, every_so Q xs f a.1)

  -- one fact of two
  pub every_with : (Q S : A → Type 0) (xs : List A) → ((x : A) → P x → Q x → S x) → AllByRecursion P xs → AllByRecursion Q xs → AllByRecursion S xs
  every_with Q S [] f a b = tt
  every_with Q S (x ∷ xs) f a b = (f x a.0 b.0, every_with Q S xs f a.1 b.1)

  pub every_map : {B : Type 0} (f : B → A) (xs : List B) → AllByRecursion P (map f xs) → AllByRecursion (λ x. P (f x)) xs
  every_map f [] a = tt
  every_map f (x ∷ xs) a = (a.0, every_map f xs a.1)

  pub map_every : {B : Type 0} (f : B → A) (xs : List B) → AllByRecursion (λ x. P (f x)) xs → AllByRecursion P (map f xs)
  map_every f [] a = tt
  map_every f (x ∷ xs) a = (a.0, map_every f xs a.1)

pub take_more : {A : Type 0} (x : A) (xs : List A) (n : ℕ) → take (1 + n) (x ∷ xs) ≡ x ∷ take n xs
take_more x xs n = let e : 1 + n ≡ suc n = omega arith in ap (λ k. take k (x ∷ xs)) e

pub drop_more : {A : Type 0} (x : A) (xs : List A) (n : ℕ) → drop (1 + n) (x ∷ xs) ≡ drop n xs
drop_more x xs n = let e : 1 + n ≡ suc n = omega arith in ap (λ k. drop k (x ∷ xs)) e

-- what passes in front of the first that fails
pub front_passes : {A : Type 0} (p : A → Bool) (xs : List A) → AllByRecursion (λ x. p x ≡ true) (take (prefix_len p xs) xs)
front_passes p [] = tt
front_passes {A} p (x ∷ xs) =
    elim (p x) as (λ b. p x ≡ b → AllByRecursion (λ y. p y ≡ true) (take (cond b (1 + prefix_len p xs) 0) (x ∷ xs))) [
      | true ↦ λ e. let P : List A → Type 0 = AllByRecursion (λ y. p y ≡ true) in subst P (sym (take_more x xs (prefix_len p xs))) (e, front_passes p xs)
      | false ↦ λ e. tt
    ] refl

module _ {K : Type 0} {R : K → K → Ordering} (o : IsTotalOrder R) where
  pub turned : (x y : K) → is_lt (R x y) ≡ false → (R x y ≡ Equal → ⊥) → R y x ≡ Less
  turned x y e n = elim (R x y) as (λ r. R x y ≡ r → R y x ≡ Less) [
    | Less ↦ λ p. absurd (let no : true ≡ false = sym (ap is_lt p) ∙ e in cc)
    | Equal ↦ λ p. absurd (n p)
    | Greater ↦ λ p. o.antisymm y x ∙ ap ordering_reverse p
  ] refl

  -- what stands before the second of two that rise stands before the first
  parted_at : {A : Type 0} (f : A → K) (p : A → Bool) (k : K) (x : A) (ys : List A) (j : ℕ) (d : A) → p x ≡ is_lt (R (f x) k) → AllByRecursion (λ y. p y ≡ is_lt (R (f y) k)) ys → AllByRecursion (λ y. R (f x) (f y) ≡ Less) ys → j < length ys → p (slice_index_or ys j d) ≡ true → p x ≡ true
  parted_at f p k x [] j d here same all h e = absurd (omega arith)
  parted_at f p k x (y ∷ ys) zero d here same all h e =
      let y_first : R (f y) k ≡ Less = less_test _ (sym same.0 ∙ e) in
      here ∙ ap is_lt (o.trans (f x) (f y) k all.0 y_first)
  parted_at f p k x (y ∷ ys) (suc j) d here same all h e = parted_at f p k x ys j d here same.1 all.1 (omega arith) e

  pub parted : {A : Type 0} (f : A → K) (p : A → Bool) (k : K) (xs : List A) → AllByRecursion (λ y. p y ≡ is_lt (R (f y) k)) xs → Rises R (map f xs) → IsPartitionedBy p xs
  parted f p k [] same r i j d le lt e = absurd (omega arith)
  parted f p k (x ∷ xs) same r zero zero d le lt e = e
  parted f p k (x ∷ xs) same r zero (suc j) d le lt e = parted_at f p k x xs j d same.0 same.1 (every_map (λ j. R (f x) j ≡ Less) f xs r.0) (omega arith) e
  parted f p k (x ∷ xs) same r (suc i) zero d le lt e = absurd (omega arith)
  parted f p k (x ∷ xs) same r (suc i) (suc j) d le lt e = parted f p k xs same.1 r.1 i j d (omega arith) (omega arith) e

  -- what stands behind one that doesn't stand before k doesn't either
  later_fail : {A : Type 0} (f : A → K) (p : A → Bool) (k : K) (x : A) (ys : List A) → p x ≡ is_lt (R (f x) k) → AllByRecursion (λ y. p y ≡ is_lt (R (f y) k)) ys → AllByRecursion (λ y. R (f x) (f y) ≡ Less) ys → p x ≡ false → AllByRecursion (λ y. p y ≡ false) ys
  later_fail f p k x ys here same all e =
      every_with (λ y. p y ≡ is_lt (R (f y) k)) (λ y. R (f x) (f y) ≡ Less) (λ y. p y ≡ false) ys (λ y s l.
      elim (p y) as (λ b. p y ≡ b → b ≡ false) [
        | true ↦ λ q. sym (here ∙ ap is_lt (o.trans (f x) (f y) k l (less_test _ (sym s ∙ q)))) ∙ e
        | false ↦ λ q. refl
      ] refl) same all

  pub back_fails : {A : Type 0} (f : A → K) (p : A → Bool) (k : K) (xs : List A) → AllByRecursion (λ y. p y ≡ is_lt (R (f y) k)) xs → Rises R (map f xs) → AllByRecursion (λ x. p x ≡ false) (drop (prefix_len p xs) xs)
  back_fails f p k [] same r = tt
  back_fails {A} f p k (x ∷ xs) same r =
      elim (p x) as (λ b. p x ≡ b → AllByRecursion (λ y. p y ≡ false) (drop (cond b (1 + prefix_len p xs) 0) (x ∷ xs))) [
        | true ↦ λ e. let P : List A → Type 0 = AllByRecursion (λ y. p y ≡ false) in subst P (sym (drop_more x xs (prefix_len p xs))) (back_fails f p k xs same.1 r.1)
        | false ↦ λ e. (e, later_fail f p k x xs same.0 same.1 (every_map (λ j. R (f x) j ≡ Less) f xs r.0) e)
      ] refl

  pub rises_insert : (js ks : List K) (k : K) → Rises R (js ++ ks) → AllByRecursion (λ j. R j k ≡ Less) js → AllByRecursion (λ j. R k j ≡ Less) ks → Rises R (js ++ k ∷ ks)
  rises_insert [] ks k r a b = (b, r)
  rises_insert (j ∷ js) ks k r a b = (every-append (λ i. R j i ≡ Less) js (k ∷ ks) (every_front (λ i. R j i ≡ Less) js ks r.0) (a.0, every_back (λ i. R j i ≡ Less) js ks r.0), rises_insert js ks k r.1 a.1 b)

  pub rises_remove : (js ks : List K) (k : K) → Rises R (js ++ k ∷ ks) → Rises R (js ++ ks)
  rises_remove [] ks k r = r.1
  rises_remove (j ∷ js) ks k r = (every-append (λ i. R j i ≡ Less) js ks (every_front (λ i. R j i ≡ Less) js (k ∷ ks) r.0) (every_back (λ i. R j i ≡ Less) js (k ∷ ks) r.0).1, rises_remove js ks k r.1)

  pub rises_front : (js ks : List K) (k : K) → Rises R (js ++ k ∷ ks) → AllByRecursion (λ j. R j k ≡ Less) js
  rises_front [] ks k r = tt
  rises_front (j ∷ js) ks k r = ((every_back (λ i. R j i ≡ Less) js (k ∷ ks) r.0).0, rises_front js ks k r.1)

  pub rises_back : (js ks : List K) (k : K) → Rises R (js ++ k ∷ ks) → AllByRecursion (λ j. R k j ≡ Less) ks
  rises_back [] ks k r = r.0
  rises_back (j ∷ js) ks k r = rises_back js ks k r.1

-- how many pass, where what passes is known
pub rank_at : {A : Type 0} (p : A → Bool) (xs : List A) (x : A) (ys : List A) → AllByRecursion (λ y. p y ≡ true) xs → p x ≡ false → prefix_len p (xs ++ x ∷ ys) ≡ length xs
rank_at p [] x ys a e = ap (λ b. cond b (1 + prefix_len p ys) 0) e
rank_at p (z ∷ xs) x ys a e = ap (λ b. cond b (1 + prefix_len p (xs ++ x ∷ ys)) 0) a.0 ∙ ap (λ n. 1 + n) (rank_at p xs x ys a.1 e) ∙ omega arith
