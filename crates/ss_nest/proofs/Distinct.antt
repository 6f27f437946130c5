-- What it says of nests that nothing in them is there twice.
use Rattle.std.proofs.Common.{◌≡◌, ◌==◌, ◌||◌, not, ℕ, zero, suc, Bool, true, false, List, [], ◌∷◌, ◌++◌, map, slice_get, Option, Some, None, refl, sym, ap, subst, ◌∙◌, append_assoc, append-nil}
use Rattle.std.specs.List.{list_any}
use Rattle.std.specs.Str.{bytes_eq}
use Rattle.std.proofs.lemmas.Bool.{and_parts, and_from, or_parts, or_from, not-true, not_from_false, both_ways, false_from_ne_true}
use Rattle.std.proofs.lemmas.List.Concat.{flat_map-append}
use Rattle.std.proofs.lemmas.List.Folds.{list_any-append}
use Rattle.std.proofs.lemmas.Map.Text.{is_eq-slice_cmp}
use Rattle.std.proofs.lemmas.Slice.Eq.{bytes_eq-Decides}
use Rattle.ss_lemmas.proofs.Bools.{some_same}
use Rattle.ss_lemmas.proofs.EachOf.{none_from_map}
use Rattle.ss_lemmas.proofs.Numbers.{eqb_turned}
use Rattle.ss_lemmas.proofs.Results.{neither_some}
use Rattle.ss_model.specs.declared.catalog.Catalog.{Catalog}
use Rattle.ss_model.specs.declared.catalog.Nest.{Nest}
use Rattle.ss_model.specs.declared.catalog.Procedure.{Procedure}
use Rattle.ss_model.specs.CatalogForm.{names_equal, all_distinct}
use Rattle.ss_model.specs.Nests.{numbers_apart}
use Rattle.ss_catalog.specs.Checks.{procedure_name}
use Rattle.ss_nest.specs.Members.{stands_in, again, or_next, all_members, is_taken, member_again, twice_behind, twice_in}

neither_next : {A : Type 0} (a b : Option A) → or_next a b ≡ None → (a ≡ None) × (b ≡ None)
neither_next None b e = (refl, e)
neither_next (Some a) b e = absurd (cc)

-- ---- members

-- one number more, which is new
apart_push : (xs : List ℕ) (q : ℕ) → numbers_apart xs ≡ true → stands_in xs q ≡ false → numbers_apart (xs ++ q ∷ []) ≡ true
apart_push [] q d new = refl
apart_push (x ∷ xs) q d new =
    let parts = and_parts (not (list_any (λ m. m == x) xs)) (numbers_apart xs) d in
    let others = or_parts (x == q) (stands_in xs q) new in
    and_from (not (list_any (λ m. m == x) (xs ++ q ∷ []))) (numbers_apart (xs ++ q ∷ []))
    (not_from_false _ (list_any-append (λ m. m == x) xs (q ∷ []) ∙ or_from _ _ (not-true _ parts.0) (or_from _ _ (eqb_turned q x ∙ others.0) refl)))
    (apart_push xs q parts.1 others.1)

-- more numbers, of which none is there again
apart_behind : (before qs : List ℕ) → numbers_apart before ≡ true → again before qs ≡ None → numbers_apart (before ++ qs) ≡ true
apart_behind before [] d none = ap numbers_apart (append-nil before) ∙ d
apart_behind before (q ∷ qs) d none =
    let fresh = neither_some (stands_in before q) q (again (before ++ q ∷ []) qs) none in
    ap numbers_apart (sym (append_assoc before (q ∷ []) qs)) ∙ apart_behind (before ++ q ∷ []) qs (apart_push before q d fresh.0) fresh.1

pub all_with_one : (before : List Nest) (nest : Nest) → all_members (before ++ nest ∷ []) ≡ all_members before ++ nest.members
all_with_one before nest =
    flat_map-append (λ (n : Nest). n.members) before (nest ∷ []) ∙ ap (λ (ms : List ℕ). all_members before ++ ms) (append-nil nest.members)

members_apart : (c : Catalog) (before nests : List Nest) → numbers_apart (all_members before) ≡ true → twice_behind c before nests ≡ None → numbers_apart (all_members (before ++ nests)) ≡ true
members_apart c before [] d none = ap (λ (ns : List Nest). numbers_apart (all_members ns)) (append-nil before) ∙ d
members_apart c before (nest ∷ nests) d none =
    let fresh = neither_some (is_taken c before nest.name) nest.name _ none in
    let parts = neither_next (member_again c before nest) (twice_behind c (before ++ nest ∷ []) nests) fresh.1 in
    let once = none_from_map (procedure_name c) (again (all_members before) nest.members) parts.0 in
    let more = ap numbers_apart (all_with_one before nest) ∙ apart_behind (all_members before) nest.members d once in
    ap (λ (ns : List Nest). numbers_apart (all_members ns)) (sym (append_assoc before (nest ∷ []) nests)) ∙ members_apart c (before ++ nest ∷ []) nests more parts.1

-- no procedure is in two nests, or in one twice
pub members_once : (c : Catalog) (nests : List Nest) → twice_in c nests ≡ None → numbers_apart (all_members nests) ≡ true
members_once c nests none = members_apart c [] nests refl none

apart_front : (xs ys : List ℕ) → numbers_apart (xs ++ ys) ≡ true → numbers_apart xs ≡ true
apart_front [] ys d = refl
apart_front (x ∷ xs) ys d =
    let parts = and_parts (not (list_any (λ m. m == x) (xs ++ ys))) (numbers_apart (xs ++ ys)) d in
    let none = or_parts (list_any (λ m. m == x) xs) (list_any (λ m. m == x) ys) (sym (list_any-append (λ m. m == x) xs ys) ∙ not-true _ parts.0) in
    and_from (not (list_any (λ m. m == x) xs)) (numbers_apart xs) (not_from_false _ none.0) (apart_front xs ys parts.1)

apart_rest : (xs ys : List ℕ) → numbers_apart (xs ++ ys) ≡ true → numbers_apart ys ≡ true
apart_rest [] ys d = d
apart_rest (x ∷ xs) ys d = apart_rest xs ys (and_parts (not (list_any (λ m. m == x) (xs ++ ys))) (numbers_apart (xs ++ ys)) d).1

-- so in each nest none is there twice
pub apart_at : (nests : List Nest) → numbers_apart (all_members nests) ≡ true → (i : ℕ) (nest : Nest) → slice_get nests i ≡ Some nest → numbers_apart nest.members ≡ true
apart_at [] d i nest is = absurd (cc)
apart_at (n ∷ ns) d zero nest is = subst (λ (m : Nest). numbers_apart m.members ≡ true) (some_same n nest is) (apart_front n.members (all_members ns) d)
apart_at (n ∷ ns) d (suc i) nest is = apart_at ns (apart_rest n.members (all_members ns) d) i nest is

-- ---- names

-- names that differ, as the model compares them
names_differ : (x y : List ℕ) → bytes_eq x y ≡ false → names_equal x y ≡ false
names_differ x y e = is_eq-slice_cmp x y ∙ e

differ_turned : (x y : List ℕ) → bytes_eq x y ≡ false → bytes_eq y x ≡ false
differ_turned x y e = false_from_ne_true (bytes_eq y x) (λ same. both_ways (bytes_eq x y) e ((bytes_eq-Decides x y).1 (sym ((bytes_eq-Decides y x).0 same))))

none_named : (n : List ℕ) (ys : List (List ℕ)) → list_any (λ y. bytes_eq y n) ys ≡ false → list_any (names_equal n) ys ≡ false
none_named n [] e = refl
none_named n (y ∷ ys) e =
    let parts = or_parts (bytes_eq y n) (list_any (λ x. bytes_eq x n) ys) e in
    or_from (names_equal n y) (list_any (names_equal n) ys) (names_differ n y (differ_turned y n parts.0)) (none_named n ys parts.1)

-- one name more in the middle, which is new
distinct_between : (xs : List (List ℕ)) (n : List ℕ) (ys : List (List ℕ)) → all_distinct (xs ++ ys) ≡ true → list_any (λ x. bytes_eq x n) xs ≡ false → list_any (λ y. bytes_eq y n) ys ≡ false
    → all_distinct (xs ++ n ∷ ys) ≡ true
distinct_between [] n ys d before behind = and_from (not (list_any (names_equal n) ys)) (all_distinct ys) (not_from_false _ (none_named n ys behind)) d
distinct_between (x ∷ xs) n ys d before behind =
    let parts = and_parts (not (list_any (names_equal x) (xs ++ ys))) (all_distinct (xs ++ ys)) d in
    let none = or_parts (list_any (names_equal x) xs) (list_any (names_equal x) ys) (sym (list_any-append (names_equal x) xs ys) ∙ not-true _ parts.0) in
    let others = or_parts (bytes_eq x n) (list_any (λ y. bytes_eq y n) xs) before in
    and_from (not (list_any (names_equal x) (xs ++ n ∷ ys))) (all_distinct (xs ++ n ∷ ys))
    (not_from_false _ (list_any-append (names_equal x) xs (n ∷ ys) ∙ or_from _ _ none.0 (or_from _ _ (names_differ x n others.0) none.1)))
    (distinct_between xs n ys parts.1 others.1 behind)

any_map : {A B : Type 0} (p : B → Bool) (f : A → B) (xs : List A) → list_any p (map f xs) ≡ list_any (λ x. p (f x)) xs
any_map p f [] = refl
any_map p f (x ∷ xs) = ap (λ b. p (f x) || b) (any_map p f xs)

-- the names of nests
abbrev pub nest_names : List Nest → List (List ℕ)
nest_names nests = map (λ (n : Nest). n.name) nests

-- and of procedures
abbrev pub own_names : Catalog → List (List ℕ)
own_names c = map (λ (p : Procedure). p.name) c.procedures

names_with_one : (before : List Nest) (nest : Nest) (rest : List (List ℕ)) → nest_names (before ++ nest ∷ []) ++ rest ≡ nest_names before ++ nest.name ∷ rest
names_with_one [] nest rest = refl
names_with_one (n ∷ ns) nest rest = ap (λ (xs : List (List ℕ)). n.name ∷ xs) (names_with_one ns nest rest)

names_apart : (c : Catalog) (before nests : List Nest) → all_distinct (nest_names before ++ own_names c) ≡ true → twice_behind c before nests ≡ None
    → all_distinct (nest_names (before ++ nests) ++ own_names c) ≡ true
names_apart c before [] d none = ap (λ (ns : List Nest). all_distinct (nest_names ns ++ own_names c)) (append-nil before) ∙ d
names_apart c before (nest ∷ nests) d none =
    let fresh = neither_some (is_taken c before nest.name) nest.name _ none in
    let parts = neither_next (member_again c before nest) (twice_behind c (before ++ nest ∷ []) nests) fresh.1 in
    let free = or_parts (list_any (λ (p : Procedure). bytes_eq p.name nest.name) c.procedures) (list_any (λ (n : Nest). bytes_eq n.name nest.name) before) fresh.0 in
    let more = ap all_distinct (names_with_one before nest (own_names c))
    ∙ distinct_between (nest_names before) nest.name (own_names c) d
    (any_map (λ x. bytes_eq x nest.name) (λ (n : Nest). n.name) before ∙ free.1)
    (any_map (λ x. bytes_eq x nest.name) (λ (p : Procedure). p.name) c.procedures ∙ free.0) in
    ap (λ (ns : List Nest). all_distinct (nest_names ns ++ own_names c)) (sym (append_assoc before (nest ∷ []) nests)) ∙ names_apart c (before ++ nest ∷ []) nests more parts.1

-- no nest has the name of another, or of a procedure
pub names_once : (c : Catalog) (nests : List Nest) → all_distinct (own_names c) ≡ true → twice_in c nests ≡ None → all_distinct (nest_names nests ++ own_names c) ≡ true
names_once c nests d none = names_apart c [] nests d none
