-- Lists of numbers and what is made of each: what is among them, and lists in which no number is there twice.
use Rattle.std.proofs.Common.{◌≡◌, ◌≤◌, ◌<◌, ◌==◌, ◌||◌, ◌+◌, ◌⊎◌, ◌≢◌, inl, inr, not, ℕ, zero, suc, Bool, true, false, cond, List, [], ◌∷◌, ◌++◌, map, length, slice_get, unwrap_or, refl, sym, ap, ◌∙◌, subst, Some, None, arith}
use Rattle.std.specs.List.{AllByRecursion, filter, find, flat_map, list_all, list_any, range_with_len}
use Rattle.std.proofs.lemmas.Bool.{and_from, or_left, or_right}
use Rattle.std.proofs.lemmas.Bool.Decides.{eqb_tells}
use Rattle.std.proofs.lemmas.List.Folds.{list_any-append}
use Rattle.ss_model.specs.Results.{and_behind}
use Rattle.ss_model.specs.Nests.{numbers_apart}
use Rattle.ss_lemmas.proofs.Bools.{first_of_two, second_of_two, some_same, either_so}
use Rattle.ss_lemmas.proofs.Numbers.{eqb_self, eqb_is}
use Rattle.ss_lemmas.proofs.Filtered.{filter_takes, filter_passes_by}

abbrev pub among : ℕ → List ℕ → Bool
among q ms = list_any (λ n. n == q) ms

pub off : (b : Bool) → not b ≡ true → b ≡ true → ⊥
off true e f = cc
off false e f = cc

pub sole : (b : Bool) → (b || false) ≡ true → b ≡ true
sole true e = refl
sole false e = cc

pub none_within : {A : Type 0} (xs : List A) (n : ℕ) → n < length xs → slice_get xs n ≡ None → ⊥
none_within [] n l is = omega arith
none_within (x ∷ xs) zero l is = cc
none_within (x ∷ xs) (suc n) l is = none_within xs n (omega arith) is

-- ---- what is among them

pub is_among : (x : ℕ) (xs : List ℕ) → among x (x ∷ xs) ≡ true
is_among x xs = or_left (x == x) _ (eqb_self x)

pub head_among : (ms : List ℕ) (head : ℕ) → slice_get ms 0 ≡ Some head → among head ms ≡ true
head_among [] head is = cc
head_among (m ∷ ms) head is = or_left (m == head) _ (ap (λ z. z == head) (some_same m head is) ∙ eqb_self head)

pub first_among : (ms : List ℕ) (q : ℕ) → among q ms ≡ true → among (unwrap_or (slice_get ms 0) q) ms ≡ true
first_among [] q a = cc
first_among (m ∷ ms) q a = is_among m ms

-- one that passes
pub some_of : (test : ℕ → Bool) (xs : List ℕ) → list_any test xs ≡ true → (x : ℕ) × (among x xs ≡ true) × (test x ≡ true)
some_of test [] e = cc
some_of test (x ∷ xs) e = by (some_of test xs) (either_so (test x) _ e)
  where
    by : (list_any test xs ≡ true → (y : ℕ) × (among y xs ≡ true) × (test y ≡ true)) → (test x ≡ true) ⊎ (list_any test xs ≡ true) → (y : ℕ) × (among y (x ∷ xs) ≡ true) × (test y ≡ true)
    by later (inl here) = (x, is_among x xs, here)
    by later (inr there) = let (y, among_xs, passes) = later there in (y, or_right (x == y) _ among_xs, passes)

-- one among them that passes is some one
pub any_of : (test : ℕ → Bool) (xs : List ℕ) (x : ℕ) → among x xs ≡ true → test x ≡ true → list_any test xs ≡ true
any_of test [] x a e = cc
any_of test (y ∷ ys) x a e = by (any_of test ys x) (either_so (y == x) _ a)
  where
    by : (among x ys ≡ true → test x ≡ true → list_any test ys ≡ true) → ((y == x) ≡ true) ⊎ (among x ys ≡ true) → list_any test (y ∷ ys) ≡ true
    by later (inl here) = or_left (test y) _ (subst (λ z. test z ≡ true) (sym (eqb_is y x here)) e)
    by later (inr there) = or_right (test y) _ (later there e)

pub all_among : (test : ℕ → Bool) (xs : List ℕ) (x : ℕ) → list_all test xs ≡ true → among x xs ≡ true → test x ≡ true
all_among test [] x h a = cc
all_among test (y ∷ ys) x h a = by (all_among test ys x (second_of_two _ _ h)) (either_so (y == x) _ a)
  where
    by : (among x ys ≡ true → test x ≡ true) → ((y == x) ≡ true) ⊎ (among x ys ≡ true) → test x ≡ true
    by later (inl here) = subst (λ z. test z ≡ true) (eqb_is y x here) (first_of_two _ _ h)
    by later (inr there) = later there

pub all_numbers : (test : ℕ → Bool) (xs : List ℕ) → ((x : ℕ) → among x xs ≡ true → test x ≡ true) → list_all test xs ≡ true
all_numbers test [] h = refl
all_numbers test (x ∷ xs) h = and_from _ _ (h x (is_among x xs)) (all_numbers test xs (λ y a. h y (or_right (x == y) _ a)))

pub in_front : (xs ys : List ℕ) (s : ℕ) → among s xs ≡ true → among s (and_behind xs ys) ≡ true
in_front xs [] s e = e
in_front xs (y ∷ ys) s e = list_any-append (λ i. i == s) xs (y ∷ ys) ∙ or_left (among s xs) _ e

pub in_back : (xs ys : List ℕ) (s : ℕ) → among s ys ≡ true → among s (and_behind xs ys) ≡ true
in_back xs [] s e = cc
in_back xs (y ∷ ys) s e = list_any-append (λ i. i == s) xs (y ∷ ys) ∙ or_right (among s xs) _ e

-- ---- the numbers below one that pass

pub in_filtered : (f : ℕ → Bool) (n s : ℕ) → s < n → f s ≡ true → among s (filter f (range_with_len 0 n)) ≡ true
in_filtered f zero s l e = absurd (omega arith)
in_filtered f (suc n) s l e =
    let next : n + 1 ≡ suc n = omega arith in
    subst (λ k. among s (filter f (range_with_len 0 k)) ≡ true) next (by (eqb_tells s n) (f n) refl (in_filtered f n s))
  where
    by : ((s == n ≡ true) × (s ≡ n)) ⊎ ((s == n ≡ false) × (s ≢ n)) → (b : Bool) → f n ≡ b → (s < n → f s ≡ true → among s (filter f (range_with_len 0 n)) ≡ true) → among s (filter f (range_with_len 0 (n + 1))) ≡ true
    by (inl same) true is later =
        ap (list_any (λ i. i == s)) (sym (filter_takes f n is)) ∙ list_any-append (λ i. i == s) (filter f (range_with_len 0 n)) (n ∷ [])
        ∙ or_right (among s (filter f (range_with_len 0 n))) _ (or_left (n == s) false (ap (λ z. n == z) same.1 ∙ eqb_self n))
    by (inl same) false is later = let wrong : true ≡ false = sym e ∙ ap f same.1 ∙ is in cc
    by (inr other) true is later =
        let k : s < n = (let apart = other.1 in grind arith) in
        ap (list_any (λ i. i == s)) (sym (filter_takes f n is)) ∙ list_any-append (λ i. i == s) (filter f (range_with_len 0 n)) (n ∷ [])
        ∙ or_left (among s (filter f (range_with_len 0 n))) _ (later k e)
    by (inr other) false is later =
        let k : s < n = (let apart = other.1 in grind arith) in
        ap (list_any (λ i. i == s)) (sym (filter_passes_by f n is)) ∙ later k e

pub of_filtered : (f : ℕ → Bool) (xs : List ℕ) (s : ℕ) → among s (filter f xs) ≡ true → f s ≡ true
of_filtered f [] s a = cc
of_filtered f (x ∷ xs) s a = by (f x) refl a (of_filtered f xs s)
  where
    here : f x ≡ true → ((x == s) ≡ true) ⊎ (among s (filter f xs) ≡ true) → (among s (filter f xs) ≡ true → f s ≡ true) → f s ≡ true
    here is (inl same) later = ap f (sym (eqb_is x s same)) ∙ is
    here is (inr behind) later = later behind

    by : (b : Bool) → f x ≡ b → among s (cond b (x ∷ filter f xs) (filter f xs)) ≡ true → (among s (filter f xs) ≡ true → f s ≡ true) → f s ≡ true
    by true is a later = here is (either_so (x == s) _ a) later
    by false is a later = later a

-- the numbers of a range
pub in_range : (a n q : ℕ) → a ≤ q → q < a + n → among q (range_with_len a n) ≡ true
in_range a zero q l m = absurd (omega arith)
in_range a (suc n) q l m = by (eqb_tells a q) (in_range (a + 1) n q)
  where
    by : ((a == q ≡ true) × (a ≡ q)) ⊎ ((a == q ≡ false) × (a ≢ q)) → (a + 1 ≤ q → q < a + 1 + n → among q (range_with_len (a + 1) n) ≡ true) → among q (a ∷ range_with_len (a + 1) n) ≡ true
    by (inl same) later = or_left (a == q) _ same.0
    by (inr other) later = or_right (a == q) _ (later (let apart = other.1 in grind arith) (omega arith))

-- the one that passes is found
pub found_one : (test : ℕ → Bool) (xs : List ℕ) (q : ℕ) → among q xs ≡ true → test q ≡ true → ((p : ℕ) → test p ≡ true → p ≡ q) → find test xs ≡ Some q
found_one test [] q a e only = cc
found_one test (x ∷ xs) q a e only = by (test x) refl (found_one test xs q)
  where
    behind : test x ≡ false → ((x == q) ≡ true) ⊎ (among q xs ≡ true) → among q xs ≡ true
    behind is (inl here) = let wrong : true ≡ false = sym e ∙ ap test (sym (eqb_is x q here)) ∙ is in cc
    behind is (inr there) = there

    by : (b : Bool) → test x ≡ b → (among q xs ≡ true → test q ≡ true → ((p : ℕ) → test p ≡ true → p ≡ q) → find test xs ≡ Some q) → cond b (Some x) (find test xs) ≡ Some q
    by true is later = ap Some (only x is)
    by false is later = later (behind is (either_so (x == q) _ a)) e only

-- ---- what is made of each

pub all_mapped : {A B : Type 0} (test : B → Bool) (f : A → B) (own : A → Bool) → ((x : A) → own x ≡ true → test (f x) ≡ true) → (xs : List A) → list_all own xs ≡ true → list_all test (map f xs) ≡ true
all_mapped test f own k [] h = refl
all_mapped test f own k (x ∷ xs) h = and_from _ _ (k x (first_of_two _ _ h)) (all_mapped test f own k xs (second_of_two _ _ h))

pub all_behind : {A : Type 0} (test : A → Bool) (xs ys : List A) → list_all test xs ≡ true → list_all test ys ≡ true → list_all test (xs ++ ys) ≡ true
all_behind test [] ys h k = k
all_behind test (x ∷ xs) ys h k = and_from _ _ (first_of_two _ _ h) (all_behind test xs ys (second_of_two _ _ h) k)

pub all_joined : {A : Type 0} (test : A → Bool) (f : ℕ → List A) (xs : List ℕ) → ((x : ℕ) → among x xs ≡ true → list_all test (f x) ≡ true) → list_all test (flat_map f xs) ≡ true
all_joined test f [] h = refl
all_joined test f (x ∷ xs) h = all_behind test (f x) (flat_map f xs) (h x (is_among x xs)) (all_joined test f xs (λ y e. h y (or_right (x == y) _ e)))

pub each_mapped : {A B : Type 0} (P : A → Type 0) (Q : B → Type 0) (f : A → B) → ((x : A) → P x → Q (f x)) → (xs : List A) → AllByRecursion P xs → AllByRecursion Q (map f xs)
each_mapped P Q f k [] h = tt
each_mapped P Q f k (x ∷ xs) h = (k x h.0, each_mapped P Q f k xs h.1)

each_behind : {A : Type 0} (P : A → Type 0) (xs ys : List A) → AllByRecursion P xs → AllByRecursion P ys → AllByRecursion P (xs ++ ys)
each_behind P [] ys h k = k
each_behind P (x ∷ xs) ys h k = (h.0, each_behind P xs ys h.1 k)

pub each_joined : {A : Type 0} (P : A → Type 0) (f : ℕ → List A) (xs : List ℕ) → ((x : ℕ) → among x xs ≡ true → AllByRecursion P (f x)) → AllByRecursion P (flat_map f xs)
each_joined P f [] h = tt
each_joined P f (x ∷ xs) h = each_behind P (f x) (flat_map f xs) (h x (is_among x xs)) (each_joined P f xs (λ y e. h y (or_right (x == y) _ e)))

-- what passes is made of one of them
pub joined_of : {A : Type 0} (test : A → Bool) (f : ℕ → List A) (xs : List ℕ) → list_any test (flat_map f xs) ≡ true → (x : ℕ) × (among x xs ≡ true) × (list_any test (f x) ≡ true)
joined_of test f [] e = cc
joined_of test f (x ∷ xs) e = by (joined_of test f xs) (either_so _ _ (sym (list_any-append test (f x) (flat_map f xs)) ∙ e))
  where
    by : (list_any test (flat_map f xs) ≡ true → (y : ℕ) × (among y xs ≡ true) × (list_any test (f y) ≡ true)) → (list_any test (f x) ≡ true) ⊎ (list_any test (flat_map f xs) ≡ true) → (y : ℕ) × (among y (x ∷ xs) ≡ true) × (list_any test (f y) ≡ true)
    by later (inl here) = (x, is_among x xs, here)
    by later (inr there) = let (y, among_xs, passes) = later there in (y, or_right (x == y) _ among_xs, passes)

pub any_joined : {A : Type 0} (test : A → Bool) (f : ℕ → List A) (xs : List ℕ) (x : ℕ) → among x xs ≡ true → list_any test (f x) ≡ true → list_any test (flat_map f xs) ≡ true
any_joined test f [] x a e = cc
any_joined test f (y ∷ ys) x a e = list_any-append test (f y) (flat_map f ys) ∙ by (any_joined test f ys x) (either_so (y == x) _ a)
  where
    by : (among x ys ≡ true → list_any test (f x) ≡ true → list_any test (flat_map f ys) ≡ true) → ((y == x) ≡ true) ⊎ (among x ys ≡ true) → (list_any test (f y) || list_any test (flat_map f ys)) ≡ true
    by later (inl here) = or_left (list_any test (f y)) _ (subst (λ z. list_any test (f z) ≡ true) (sym (eqb_is y x here)) e)
    by later (inr there) = or_right (list_any test (f y)) _ (later there e)

-- ---- lists in which no number is there twice

pub apart_behind : (xs ys : List ℕ) → numbers_apart (xs ++ ys) ≡ true → numbers_apart ys ≡ true
apart_behind [] ys h = h
apart_behind (x ∷ xs) ys h = apart_behind xs ys (second_of_two _ _ h)

pub not_both : (xs ys : List ℕ) → numbers_apart (xs ++ ys) ≡ true → (q : ℕ) → among q xs ≡ true → among q ys ≡ true → ⊥
not_both [] ys h q a b = cc
not_both (x ∷ xs) ys h q a b = by (not_both xs ys (second_of_two _ _ h) q) (either_so (x == q) _ a)
  where
    by : (among q xs ≡ true → among q ys ≡ true → ⊥) → ((x == q) ≡ true) ⊎ (among q xs ≡ true) → ⊥
    by later (inl here) = off _ (first_of_two _ _ h) (list_any-append (λ m. m == x) xs ys ∙ or_right (list_any (λ m. m == x) xs) _ (subst (λ z. among z ys ≡ true) (sym (eqb_is x q here)) b))
    by later (inr there) = later there b
