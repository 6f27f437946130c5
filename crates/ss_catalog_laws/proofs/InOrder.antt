-- What holds of a list that is read in order.
use Rattle.std.proofs.Common.{◌≡◌, ◌+◌, ℕ, suc, List, [], ◌∷◌, length, map, ap, ap₂, sym, subst, Result, Ok}
use Rattle.std.specs.List.{AllByRecursion}
use Rattle.ss_catalog_resolve.specs.InOrder.{AllRead}

module _ {A B E : Type 0} (size : A → ℕ) (Reads : ℕ → A → Result B E → Type 0) where
  -- of each, by what holds of what it is read from
  pub each_read : (P : A → Type 0) (Q : B → Type 0) → ((n : ℕ) (a : A) (b : B) → Reads n a (Ok b) → P a → Q b) → (n : ℕ) (xs : List A) (ys : List B) → AllRead size Reads n xs ys → AllByRecursion P xs → AllByRecursion Q ys
  each_read P Q f n [] ys r all = subst (AllByRecursion Q) (sym r) tt
  each_read P Q f n (x ∷ xs) [] r all = absurd r
  each_read P Q f n (x ∷ xs) (y ∷ ys) r all = (f n x y r.0 all.0, each_read P Q f (n + size x) xs ys r.1 all.1)

  -- of what is the same of both
  pub map_read : {C : Type 0} (g : B → C) (h : A → C) → ((n : ℕ) (a : A) (b : B) → Reads n a (Ok b) → g b ≡ h a) → (n : ℕ) (xs : List A) (ys : List B) → AllRead size Reads n xs ys → map g ys ≡ map h xs
  map_read g h f n [] ys r = ap (map g) r
  map_read g h f n (x ∷ xs) [] r = absurd r
  map_read g h f n (x ∷ xs) (y ∷ ys) r = ap₂ (λ c cs. c ∷ cs) (f n x y r.0) (map_read g h f (n + size x) xs ys r.1)

  -- as many
  pub length_read : (n : ℕ) (xs : List A) (ys : List B) → AllRead size Reads n xs ys → length ys ≡ length xs
  length_read n [] ys r = ap length r
  length_read n (x ∷ xs) [] r = absurd r
  length_read n (x ∷ xs) (y ∷ ys) r = ap (λ k. suc k) (length_read (n + size x) xs ys r.1)
