-- How many of a list pass, and which.
use Rattle.std.proofs.Common.{◌≡◌, ◌<◌, ◌≤◌, ◌+◌, ◌++◌, ℕ, zero, suc, Bool, true, false, cond, List, [], ◌∷◌, slice_get, Some, arith, refl, ap, sym, subst, ◌∙◌}
use Rattle.std.specs.List.{count_by, filter}
use Rattle.std.proofs.lemmas.List.Sums.{sum_by-cons, sum_by-le-sum_by}
use Rattle.ss_lemmas.proofs.Bools.{some_same}

-- one for each that passes
abbrev pub tick : Bool → ℕ
tick b = cond b 1 0

module _ {A : Type 0} (p : A → Bool) where
  pub count_cons : (x : A) (xs : List A) → count_by p (x ∷ xs) ≡ tick (p x) + count_by p xs
  count_cons x xs = sum_by-cons (λ x. tick (p x)) x xs

  passing : (x y : A) → Some x ≡ Some y → p y ≡ true → tick (p x) ≡ 1
  passing x y e t = ap (λ z. tick (p z)) (some_same x y e) ∙ ap (λ b. tick b) t

  -- where none passes, none is there that does
  pub none_counted : (xs : List A) (n : ℕ) (x : A) → count_by p xs ≡ 0 → slice_get xs n ≡ Some x → p x ≡ true → ⊥
  none_counted [] n x e s t = cc
  none_counted (y ∷ xs) zero x e s t = let c = count_cons y xs in let u = passing y x s t in omega arith
  none_counted (y ∷ xs) (suc n) x e s t = none_counted xs n x (let c = count_cons y xs in omega arith) s t

  one_by : (xs : List A) (n m : ℕ) (x y : A) → (count_by p xs ≡ 1 → n ≡ m) → (b : Bool) → tick b + count_by p xs ≡ 1 → slice_get xs n ≡ Some x → p x ≡ true → suc n ≡ suc m
  one_by xs n m x y rest true e s t = absurd (none_counted xs n x (omega arith) s t)
  one_by xs n m x y rest false e s t = ap suc (rest (omega arith))

  -- where one passes, two that do are the same
  pub one_counted : (xs : List A) (n m : ℕ) (x y : A) → count_by p xs ≡ 1 → slice_get xs n ≡ Some x → slice_get xs m ≡ Some y → p x ≡ true → p y ≡ true → n ≡ m
  one_counted [] n m x y e s r t u = absurd (cc)
  one_counted (z ∷ xs) zero zero x y e s r t u = refl
  one_counted (z ∷ xs) zero (suc m) x y e s r t u = absurd (none_counted xs m y (let c = count_cons z xs in let v = passing z x s t in omega arith) r u)
  one_counted (z ∷ xs) (suc n) zero x y e s r t u = absurd (none_counted xs n x (let c = count_cons z xs in let v = passing z y r u in omega arith) s t)
  one_counted (z ∷ xs) (suc n) (suc m) x y e s r t u = one_by xs n m x y (λ o. one_counted xs n m x y o s r t u) (p z) (sym (count_cons z xs) ∙ e) s t

  -- one that passes
  pub record Passes (xs : List A) : Type 0 where
    pub number : ℕ
    pub item : A
    pub stands : slice_get xs number ≡ Some item
    pub passes : p item ≡ true

  some_by : (x : A) (xs : List A) → (1 ≤ count_by p xs → Passes xs) → (b : Bool) → p x ≡ b → 1 ≤ tick b + count_by p xs → Passes (x ∷ xs)
  some_by x xs rest true e h = record { number = zero; item = x; stands = refl; passes = e }
  some_by x xs rest false e h = let r = rest (omega arith) in record { number = suc r.number; item = r.item; stands = r.stands; passes = r.passes }

  pub some_counted : (xs : List A) → 1 ≤ count_by p xs → Passes xs
  some_counted [] h = absurd (omega arith)
  some_counted (x ∷ xs) h = some_by x xs (some_counted xs) (p x) refl (subst (λ n. 1 ≤ n) (count_cons x xs) h)

-- a test that is stronger than another, of which as many pass, is the same
module _ {A : Type 0} (q p : A → Bool) (stronger : (x : A) → tick (q x) ≤ tick (p x)) where
  same_counted : (xs : List A) (n : ℕ) (x : A) → count_by q xs ≡ count_by p xs → slice_get xs n ≡ Some x → tick (p x) ≡ tick (q x)
  same_counted [] n x e s = absurd (cc)
  same_counted (y ∷ xs) zero x e s =
      let c = count_cons q y xs in let d = count_cons p y xs in let l = stronger y in
      let m = sum_by-le-sum_by (λ x. tick (q x)) (λ x. tick (p x)) xs stronger in
      let h : tick (p y) ≡ tick (q y) = omega arith in
      subst (λ z. tick (p z) ≡ tick (q z)) (some_same y x s) h
  same_counted (y ∷ xs) (suc n) x e s =
      let c = count_cons q y xs in let d = count_cons p y xs in let l = stronger y in
      let m = sum_by-le-sum_by (λ x. tick (q x)) (λ x. tick (p x)) xs stronger in
      same_counted xs n x (omega arith) s

  pub as_strong : (xs : List A) (n : ℕ) (x : A) → count_by q xs ≡ count_by p xs → slice_get xs n ≡ Some x → p x ≡ true → q x ≡ true
  as_strong xs n x e s t = by (q x) refl
    where
      by : (b : Bool) → q x ≡ b → q x ≡ true
      by true i = i
      by false i =
          let h = same_counted xs n x e s in
          let u : tick (p x) ≡ 1 = ap (λ b. tick b) t in
          let v : tick (q x) ≡ 0 = ap (λ b. tick b) i in
          absurd (omega arith)

-- a test that is stronger than another, of which one that passes the other does not
module _ {A : Type 0} (q p : A → Bool) (stronger : (x : A) → q x ≡ true → p x ≡ true) where
  tick_less : (x : A) → tick (q x) ≤ tick (p x)
  tick_less x = by (q x) refl
    where
      by : (b : Bool) → q x ≡ b → tick b ≤ tick (p x)
      by true e = let t : tick (p x) ≡ 1 = ap (λ b. tick b) (stronger x e) in omega arith
      by false e = omega arith

  pub fewer_counted : (xs : List A) (n : ℕ) (x : A) → slice_get xs n ≡ Some x → q x ≡ false → p x ≡ true → count_by q xs < count_by p xs
  fewer_counted [] n x s f t = absurd (cc)
  fewer_counted (y ∷ xs) zero x s f t =
      let c = count_cons q y xs in let d = count_cons p y xs in
      let m = sum_by-le-sum_by (λ x. tick (q x)) (λ x. tick (p x)) xs tick_less in
      let u : tick (q y) ≡ 0 = ap (λ z. tick (q z)) (some_same y x s) ∙ ap (λ b. tick b) f in
      let v : tick (p y) ≡ 1 = passing p y x s t in
      omega arith
  fewer_counted (y ∷ xs) (suc n) x s f t =
      let c = count_cons q y xs in let d = count_cons p y xs in let l = tick_less y in
      let m = fewer_counted xs n x s f t in
      omega arith

-- ---- filters

pub filter_none : {A : Type 0} (p : A → Bool) (xs : List A) (n : ℕ) (x : A) → filter p xs ≡ [] → slice_get xs n ≡ Some x → p x ≡ false
filter_none p [] n x e s = absurd (cc)
filter_none p (y ∷ xs) n x e s = by (λ n. filter_none p xs n x) n (p y) refl e s
  where
    by : ((n : ℕ) → filter p xs ≡ [] → slice_get xs n ≡ Some x → p x ≡ false) → (n : ℕ) (b : Bool) → p y ≡ b → cond b (y ∷ filter p xs) (filter p xs) ≡ [] → slice_get (y ∷ xs) n ≡ Some x → p x ≡ false
    by rest n true i e s = absurd (cc)
    by rest zero false i e s = subst (λ z. p z ≡ false) (some_same y x s) i
    by rest (suc n) false i e s = rest n e s

pub empty_left : {A : Type 0} (xs ys : List A) → xs ++ ys ≡ [] → xs ≡ []
empty_left [] ys e = refl
empty_left (x ∷ xs) ys e = absurd (cc)

pub empty_right : {A : Type 0} (xs ys : List A) → xs ++ ys ≡ [] → ys ≡ []
empty_right [] ys e = e
empty_right (x ∷ xs) ys e = absurd (cc)
