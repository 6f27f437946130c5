-- What lists are of which some items changed places: lists that are made of others, what holds of each item, and one item of them.
use Rattle.std.proofs.Common.{◌≡◌, ℕ, zero, suc, Bool, true, false, cond, List, [], ◌∷◌, map, length, get_or, replicate, refl, sym, ap, arith}
use Rattle.std.specs.List.{AllByRecursion}
use Rattle.ss_model.specs.Results.{map_indexed}
use Rattle.ss_model_kept.proofs.CallerLemmas.{length-map_index}
use Rattle.ss_shard.specs.Exchanges.{exchanged}
use Rattle.ss_shard.proofs.Exchanging.{either_way}

pub chosen : {A B : Type 0} (f : A → B) (b : Bool) (y x : A) → f (cond b y x) ≡ cond b (f y) (f x)
chosen f true y x = refl
chosen f false y x = refl

module _ {A : Type 0} where
  pub length_exchanged : (at : ℕ → Bool) (xs ys : List A) → length (exchanged at xs ys) ≡ length xs
  length_exchanged at xs ys = length-map_index (λ i x. cond (at i) (get_or ys i x) x) xs

  pub exchanged_same : (at : ℕ → Bool) (xs : List A) → exchanged at xs xs ≡ xs
  exchanged_same at [] = refl
  exchanged_same at (x ∷ xs) = let rest = exchanged_same (λ i. at (suc i)) xs in λ i. either_way (at 0) x i ∷ rest i

  pub get_exchanged : (at : ℕ → Bool) (xs ys : List A) (i : ℕ) (d : A) → length ys ≡ length xs → get_or (exchanged at xs ys) i d ≡ cond (at i) (get_or ys i d) (get_or xs i d)
  get_exchanged at [] [] i d alike = sym (either_way (at i) d)
  get_exchanged at [] (y ∷ ys) i d alike = absurd (omega (arith, alike))
  get_exchanged at (x ∷ xs) [] i d alike = absurd (omega (arith, alike))
  get_exchanged at (x ∷ xs) (y ∷ ys) zero d alike = refl
  get_exchanged at (x ∷ xs) (y ∷ ys) (suc i) d alike = get_exchanged (λ i. at (suc i)) xs ys i d (omega (arith, alike))

  all_chosen : (P : A → Type 0) (b : Bool) (y x : A) → P y → P x → P (cond b y x)
  all_chosen P true y x py px = py
  all_chosen P false y x py px = px

  pub all_exchanged : (P : A → Type 0) (at : ℕ → Bool) (xs ys : List A) → AllByRecursion P xs → AllByRecursion P ys → AllByRecursion P (exchanged at xs ys)
  all_exchanged P at [] ys h k = tt
  all_exchanged P at (x ∷ xs) [] h k = (all_chosen P (at 0) x x h.0 h.0, all_exchanged P (λ i. at (suc i)) xs [] h.1 tt)
  all_exchanged P at (x ∷ xs) (y ∷ ys) h k = (all_chosen P (at 0) y x k.0 h.0, all_exchanged P (λ i. at (suc i)) xs ys h.1 k.1)

module _ {A B : Type 0} where
  pub map_exchanged : (f : A → B) (at : ℕ → Bool) (xs ys : List A) → map f (exchanged at xs ys) ≡ exchanged at (map f xs) (map f ys)
  map_exchanged f at [] ys = refl
  map_exchanged f at (x ∷ xs) [] = let rest = map_exchanged f (λ i. at (suc i)) xs [] in λ i. chosen f (at 0) x x i ∷ rest i
  map_exchanged f at (x ∷ xs) (y ∷ ys) = let rest = map_exchanged f (λ i. at (suc i)) xs ys in λ i. chosen f (at 0) y x i ∷ rest i

  -- lists that are made of one
  pub indexed_exchanged : (at : ℕ → Bool) (f g h : ℕ → A → B) (xs : List A) → ((i : ℕ) (x : A) → h i x ≡ cond (at i) (g i x) (f i x)) → exchanged at (map_indexed f xs) (map_indexed g xs) ≡ map_indexed h xs
  indexed_exchanged at f g h [] is = refl
  indexed_exchanged at f g h (x ∷ xs) is =
      let rest = indexed_exchanged (λ i. at (suc i)) (λ i. f (suc i)) (λ i. g (suc i)) (λ i. h (suc i)) xs (λ i. is (suc i)) in
      λ i. sym (is 0 x) i ∷ rest i

  -- and of a list that is made of another
  pub indexed_twice : {C : Type 0} (f : ℕ → B → C) (g : ℕ → A → B) (xs : List A) → map_indexed f (map_indexed g xs) ≡ map_indexed (λ i x. f i (g i x)) xs
  indexed_twice f g [] = refl
  indexed_twice f g (x ∷ xs) = ap (λ ys. f 0 (g 0 x) ∷ ys) (indexed_twice (λ i. f (suc i)) (λ i. g (suc i)) xs)

  -- one thing for each item
  pub indexed_alike : (d : B) (xs : List A) → map_indexed (λ i x. d) xs ≡ replicate (length xs) d
  indexed_alike d [] = refl
  indexed_alike d (x ∷ xs) = ap (λ ds. d ∷ ds) (indexed_alike d xs)

  pub map_alike : (d : B) (xs : List A) → map (λ x. d) xs ≡ replicate (length xs) d
  map_alike d [] = refl
  map_alike d (x ∷ xs) = ap (λ ds. d ∷ ds) (map_alike d xs)
