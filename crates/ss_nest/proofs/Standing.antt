-- Where a procedure in no nest stands in the catalogue with nests.
use Rattle.std.proofs.Common.{◌≡◌, ◌∙◌, ◌+◌, not, ℕ, zero, suc, Bool, true, false, cond, List, [], ◌∷◌, ◌++◌, length, set, slice_get, Option, Some, None, refl, sym, ap, subst, arith}
use Rattle.std.specs.List.{AllByRecursion, find, list_any}
use Rattle.std.proofs.lemmas.Bool.{and_parts, or_parts, both_ways, not-true}
use Rattle.std.proofs.lemmas.List.Folds.{list_any-append}
use Rattle.std.proofs.lemmas.Map.Text.{is_eq-slice_cmp}
use Rattle.std.proofs.lemmas.Slice.Eq.{bytes_eq-Decides}
use Rattle.ss_lemmas.proofs.Bools.{some_same, any_at}
use Rattle.ss_model.specs.declared.catalog.Nest.{Nest}
use Rattle.ss_model.specs.CatalogForm.{names_equal, all_distinct}
use Rattle.ss_model.specs.Nests.{is_head, is_tail, item_in_place, items_in_place}
use Rattle.ss_nest.specs.Moves.{has_member, nest_with, placed}
use Rattle.ss_nest.proofs.Places.{placed_by}

-- ---- lists

-- lists that have the same at each number are the same
pub alike : {A : Type 0} (xs ys : List A) → ((i : ℕ) → slice_get xs i ≡ slice_get ys i) → xs ≡ ys
alike [] [] h = refl
alike [] (y ∷ ys) h = let e = h 0 in absurd (cc)
alike (x ∷ xs) [] h = let e = h 0 in absurd (cc)
alike (x ∷ xs) (y ∷ ys) h = λ i. some_same x y (h 0) i ∷ alike xs ys (λ k. h (suc k)) i

-- what stands behind a list stands there
behind_at : {A : Type 0} (xs ys : List A) (j : ℕ) → slice_get (xs ++ ys) (length xs + j) ≡ slice_get ys j
behind_at [] ys j = let e : 0 + j ≡ j = omega arith in ap (slice_get ys) e
behind_at (x ∷ xs) ys j = let e : length (x ∷ xs) + j ≡ suc (length xs + j) = omega arith in ap (slice_get (x ∷ (xs ++ ys))) e ∙ behind_at xs ys j

set_behind : {A : Type 0} (xs ys : List A) (j : ℕ) (y : A) → set (xs ++ ys) (length xs + j) y ≡ xs ++ set ys j y
set_behind [] ys j y = let e : 0 + j ≡ j = omega arith in ap (λ k. set ys k y) e
set_behind (x ∷ xs) ys j y =
    let e : length (x ∷ xs) + j ≡ suc (length xs + j) = omega arith in
    ap (λ k. set (x ∷ (xs ++ ys)) k y) e ∙ ap (λ zs. x ∷ zs) (set_behind xs ys j y)

found_at : {A : Type 0} (p : A → Bool) (xs : List A) (x : A) → find p xs ≡ Some x → (i : ℕ) × (slice_get xs i ≡ Some x) × (p x ≡ true)
found_at p [] x e = absurd (cc)
found_at p (y ∷ xs) x e = by (p y) refl e (found_at p xs x)
  where
    by : (b : Bool) → p y ≡ b → cond b (Some y) (find p xs) ≡ Some x → (find p xs ≡ Some x → (i : ℕ) × (slice_get xs i ≡ Some x) × (p x ≡ true)) → (i : ℕ) × (slice_get (y ∷ xs) i ≡ Some x) × (p x ≡ true)
    by true is e rest = (zero, e, subst (λ z. p z ≡ true) (some_same y x e) is)
    by false is e rest = let r = rest e in (suc r.0, r.1, r.2)

none_at : {A : Type 0} (p : A → Bool) (xs : List A) → find p xs ≡ None → (i : ℕ) (x : A) → slice_get xs i ≡ Some x → p x ≡ false
none_at p [] e i x is = absurd (cc)
none_at {A = A} p (y ∷ xs) e i x is = by (p y) refl e i is (none_at p xs)
  where
    by : (b : Bool) → p y ≡ b → cond b (Some y) (find p xs) ≡ None → (i : ℕ) → slice_get (y ∷ xs) i ≡ Some x → (find p xs ≡ None → (k : ℕ) (z : A) → slice_get xs k ≡ Some z → p z ≡ false) → p x ≡ false
    by true h e i is rest = absurd (cc)
    by false h e zero is rest = subst (λ z. p z ≡ false) (some_same y x is) h
    by false h e (suc k) is rest = rest e k x is

-- ---- names that are there once

equal_names : (a b : List ℕ) → a ≡ b → names_equal a b ≡ true
equal_names a b e = is_eq-slice_cmp a b ∙ (bytes_eq-Decides a b).1 e

pub apart_lists : (xs ys : List (List ℕ)) → all_distinct (xs ++ ys) ≡ true → (i j : ℕ) (a b : List ℕ) → slice_get xs i ≡ Some a → slice_get ys j ≡ Some b → a ≡ b → ⊥
apart_lists [] ys d i j a b is at same = cc
apart_lists (x ∷ xs) ys d zero j a b is at same =
    let parts = and_parts (not (list_any (names_equal x) (xs ++ ys))) (all_distinct (xs ++ ys)) d in
    let none = or_parts (list_any (names_equal x) xs) (list_any (names_equal x) ys) (sym (list_any-append (names_equal x) xs ys) ∙ not-true _ parts.0) in
    both_ways _ none.1 (any_at (names_equal x) ys j b at (equal_names x b (some_same x a is ∙ same)))
apart_lists (x ∷ xs) ys d (suc i) j a b is at same =
    apart_lists xs ys (and_parts (not (list_any (names_equal x) (xs ++ ys))) (all_distinct (xs ++ ys)) d).1 i j a b is at same

pub one_place : (xs : List (List ℕ)) → all_distinct xs ≡ true → (i j : ℕ) (a b : List ℕ) → slice_get xs i ≡ Some a → slice_get xs j ≡ Some b → a ≡ b → i ≡ j
one_place [] d i j a b is at same = absurd (cc)
one_place (x ∷ xs) d zero zero a b is at same = refl
one_place (x ∷ xs) d zero (suc j) a b is at same =
    let parts = and_parts (not (list_any (names_equal x) xs)) (all_distinct xs) d in
    absurd (both_ways _ (not-true _ parts.0) (any_at (names_equal x) xs j b at (equal_names x b (some_same x a is ∙ same))))
one_place (x ∷ xs) d (suc i) zero a b is at same =
    let parts = and_parts (not (list_any (names_equal x) xs)) (all_distinct xs) d in
    absurd (both_ways _ (not-true _ parts.0) (any_at (names_equal x) xs i a is (equal_names x a (some_same x b at ∙ sym same))))
one_place (x ∷ xs) d (suc i) (suc j) a b is at same =
    ap suc (one_place xs (and_parts (not (list_any (names_equal x) xs)) (all_distinct xs) d).1 i j a b is at same)

-- ---- places

module _ {A : Type 0} (nests : List Nest) where
  -- nests that have the same have the same in each place
  module _ (f g : Nest → A → A) where
    abbrev pub IsSame : Nest → Type 0
    IsSame nest = (x : A) → f nest x ≡ g nest x

    one_same : (ns : List Nest) → AllByRecursion IsSame ns → (q : ℕ) (x : A) → item_in_place f ns q x ≡ item_in_place g ns q x
    one_same [] all q x = refl
    one_same (nest ∷ ns) all q x = λ i. cond (is_head q nest.members) (all.0 x i ∷ []) (cond (is_tail q nest.members) [] (one_same ns all.1 q x i))

    pub all_alike : AllByRecursion IsSame nests → (q : ℕ) (xs : List A) → items_in_place f nests q xs ≡ items_in_place g nests q xs
    all_alike all q [] = refl
    all_alike all q (x ∷ xs) = λ i. one_same nests all q x i ++ all_alike all (suc q) xs i

  module _ (f : Nest → A → A) where
    -- one in no nest stays
    stays : (q : ℕ) (x : A) → nest_with nests q ≡ None → item_in_place f nests q x ≡ x ∷ []
    stays q x none = placed_by f q x nests ∙ ap (λ (o : Option Nest). placed f o q x) none

    -- where an item stands that is in no nest, and that another one there changes nothing else
    pub record Stands (q : ℕ) (xs : List A) (m : ℕ) (x : A) : Type 0 where
      pub place : ℕ
      pub there : slice_get (items_in_place f nests q xs) place ≡ Some x
      pub other : (y : A) → items_in_place f nests q (set xs m y) ≡ set (items_in_place f nests q xs) place y

    pub stands : (q : ℕ) (xs : List A) (m : ℕ) (x : A) → slice_get xs m ≡ Some x → nest_with nests (q + m) ≡ None → Stands q xs m x
    stands q [] m x is none = absurd (cc)
    stands q (z ∷ xs) zero x is none =
        let number : q + 0 ≡ q = omega arith in
        let out : nest_with nests q ≡ None = ap (nest_with nests) (sym number) ∙ none in
        let rest = items_in_place f nests (suc q) xs in
        record {
          place = zero;
          there = ap (λ (ys : List A). slice_get (ys ++ rest) 0) (stays q z out) ∙ is;
          other = λ y. ap (λ (ys : List A). ys ++ rest) (stays q y out) ∙ sym (ap (λ (ys : List A). set (ys ++ rest) 0 y) (stays q z out));
        }
    stands q (z ∷ xs) (suc m) x is none =
        let number : suc q + m ≡ q + suc m = omega arith in
        let more = stands (suc q) xs m x is (ap (nest_with nests) number ∙ none) in
        let front = item_in_place f nests q z in
        let rest = items_in_place f nests (suc q) xs in
        record {
          place = length front + more.place;
          there = behind_at front rest more.place ∙ more.there;
          other = λ y. ap (λ (ys : List A). front ++ ys) (more.other y) ∙ sym (set_behind front rest more.place y);
        }

    -- what stands somewhere was there, in no nest, or is what a nest has
    pub data From (q : ℕ) (xs : List A) (made : A) : Type 0 where
      alone : (m : ℕ) → slice_get xs m ≡ Some made → nest_with nests (q + m) ≡ None → From q xs made
      joined : (i : ℕ) (nest : Nest) → slice_get nests i ≡ Some nest → (z : A) → made ≡ f nest z → From q xs made

    later : (q : ℕ) (x : A) (xs : List A) (made : A) → From (suc q) xs made → From q (x ∷ xs) made
    later q x xs made (alone m is none) = let number : suc q + m ≡ q + suc m = omega arith in alone (suc m) is (ap (nest_with nests) (sym number) ∙ none)
    later q x xs made (joined i nest is z same) = joined i nest is z same

    pub from : (q : ℕ) (xs : List A) (j : ℕ) (made : A) → slice_get (items_in_place f nests q xs) j ≡ Some made → From q xs made
    from q [] j made is = absurd (cc)
    from q (x ∷ xs) j made is =
        by (nest_with nests q) refl j (ap (λ (ys : List A). slice_get (ys ++ items_in_place f nests (suc q) xs) j) (sym (placed_by f q x nests)) ∙ is) (λ k e. later q x xs made (from (suc q) xs k made e))
      where
        nested : (nest : Nest) (i : ℕ) → slice_get nests i ≡ Some nest → (b : Bool) (j : ℕ) → slice_get (cond b (f nest x ∷ []) [] ++ items_in_place f nests (suc q) xs) j ≡ Some made
            → ((k : ℕ) → slice_get (items_in_place f nests (suc q) xs) k ≡ Some made → From q (x ∷ xs) made) → From q (x ∷ xs) made
        nested nest i at true zero e rest = joined i nest at x (sym (some_same (f nest x) made e))
        nested nest i at true (suc k) e rest = rest k e
        nested nest i at false j e rest = rest j e

        by : (o : Option Nest) → nest_with nests q ≡ o → (j : ℕ) → slice_get (placed f o q x ++ items_in_place f nests (suc q) xs) j ≡ Some made
            → ((k : ℕ) → slice_get (items_in_place f nests (suc q) xs) k ≡ Some made → From q (x ∷ xs) made) → From q (x ∷ xs) made
        by None out zero e rest = let number : q + 0 ≡ q = omega arith in alone zero e (ap (nest_with nests) number ∙ out)
        by None out (suc k) e rest = rest k e
        by (Some nest) found j e rest = let at = found_at (has_member q) nests nest found in nested nest at.0 at.1 (is_head q nest.members) j e rest

-- a procedure in no nest is no member of one
pub outside : (nests : List Nest) (q : ℕ) → nest_with nests q ≡ None → (i : ℕ) (nest : Nest) → slice_get nests i ≡ Some nest → has_member q nest ≡ false
outside nests q none i nest is = none_at (has_member q) nests none i nest is
