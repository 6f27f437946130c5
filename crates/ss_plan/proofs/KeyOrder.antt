-- Rows that were sorted by their keys, of which one for each key was kept.
use Rattle.std.proofs.Common.{◌≡◌, ℕ, zero, suc, ◌<◌, Bool, true, false, cond, ◌&&◌, List, [], ◌∷◌, length, map, refl, sym, ap, ◌∙◌, subst, arith, ◌⊎◌, inl, inr, Some}
use Rattle.std.specs.Prelude.{Contains, IsPermutation}
use Rattle.std.specs.Borrow.{Bor}
use Rattle.std.specs.List.{AllByRecursion, dedup}
use Rattle.std.specs.List.Sorted.{IsSorted, IsStrictlySortedBy}
use Rattle.std.specs.Cmp.{IsTotalOrder, on_total, eq_by_cmp_equiv}
use Rattle.std.specs.Ordering.{is_lt, eq_by_cmp}
use Rattle.std.specs.declared.cmp.Ordering.{Ordering}
use Rattle.std.specs.declared.cmp.Ordering.TheVariants.{Less}
use Rattle.std.specs.FinMap.Entries as entries
use Rattle.std.proofs.lemmas.List.Kept.{Any-dedup, Contains-from_dedup, IsStrictlySortedBy-dedup}
use Rattle.std.proofs.lemmas.List.Sorted.{Contains-permutation, IsPermutation-sym}
use Rattle.ss_value.specs.Rows.{Row, column_values}
use Rattle.ss_value.specs.Order.{row_cmp}
use Rattle.ss_value.specs.ValueOrder.{row_cmp_total}
use Rattle.ss_rows.specs.Sources.{Positioned}
use Rattle.ss_plan.specs.Keys.{is_there, lent_row}
use Rattle.ss_plan.specs.Found.{lent_rows, with_keys, IsInKeyOrder}

-- ---- elements

pub first_in : {X : Type 0} (x : X) (xs : List X) → Contains (x ∷ xs) x
first_in x xs = (0, omega arith, refl)

pub behind_in : {X : Type 0} (x y : X) (xs : List X) → Contains xs y → Contains (x ∷ xs) y
behind_in x y xs h = (suc h.0, (let lt : h.0 < length xs = h.1 in omega arith), h.2)

pub in_cases : {X : Type 0} (x y : X) (xs : List X) → Contains (x ∷ xs) y → (x ≡ y) ⊎ Contains xs y
in_cases x y xs (zero, lt, is) = inl is
in_cases x y xs (suc k, lt, is) = inr (k, omega arith, is)

pub in_none : {X : Type 0} (y : X) → Contains [] y → ⊥
in_none y h = let lt : h.0 < 0 = h.1 in omega arith

pub in_map : {X Y : Type 0} (f : X → Y) (x : X) (xs : List X) → Contains xs x → Contains (map f xs) (f x)
in_map f x [] h = absurd (in_none x h)
in_map f x (w ∷ ws) h = by (in_cases w x ws h) (in_map f x ws)
  where
    by : (w ≡ x) ⊎ Contains ws x → (Contains ws x → Contains (map f ws) (f x)) → Contains (f w ∷ map f ws) (f x)
    by (inl is) rest = subst (λ y. Contains (f w ∷ map f ws) y) (ap f is) (first_in (f w) (map f ws))
    by (inr there) rest = behind_in (f w) (f x) (map f ws) (rest there)

pub from_map : {X Y : Type 0} (f : X → Y) (y : Y) (xs : List X) → Contains (map f xs) y → (x : X) × Contains xs x × (f x ≡ y)
from_map f y [] h = absurd (in_none y h)
from_map f y (w ∷ ws) h = by (in_cases (f w) y (map f ws) h) (from_map f y ws)
  where
    by : (f w ≡ y) ⊎ Contains (map f ws) y → (Contains (map f ws) y → (x : _) × Contains ws x × (f x ≡ y)) → (x : _) × Contains (w ∷ ws) x × (f x ≡ y)
    by (inl is) rest = (w, first_in w ws, is)
    by (inr there) rest = let r = rest there in (r.0, behind_in w r.0 ws r.1, r.2)

-- ---- by keys

module _ (key : List ℕ) where
  abbrev key_in : ℕ × Bor Row → Row
  key_in p = column_values key p.1.now

  -- how two rows stand by their keys
  abbrev pub key_cmp : ℕ × Bor Row → ℕ × Bor Row → Ordering
  key_cmp a b = row_cmp (key_in a) (key_in b)

  pub keys_total : IsTotalOrder key_cmp
  keys_total = on_total key_in row_cmp_total

  below : (x : ℕ × Bor Row) (ys : List (ℕ × Bor Row)) → AllByRecursion (λ y. key_cmp x y ≡ Less) ys → entries.below_all row_cmp (key_in x) (with_keys key (lent_rows ys)) ≡ true
  below x [] h = refl
  below x (y ∷ ys) h = ap (λ r. is_lt r && entries.below_all row_cmp (key_in x) (with_keys key (lent_rows ys))) h.0 ∙ below x ys h.1

  rises : (xs : List (ℕ × Bor Row)) → IsStrictlySortedBy key_cmp xs → entries.is_sorted row_cmp (with_keys key (lent_rows xs)) ≡ true
  unfolding IsStrictlySortedBy
  rises [] h = refl
  rises (x ∷ xs) h = ap (λ b. b && entries.is_sorted row_cmp (with_keys key (lent_rows xs))) (below x xs h.0) ∙ rises xs h.1

  key_there : (q : Row) (p : ℕ × Row) (ps : Positioned) → eq_by_cmp row_cmp q (column_values key p.1) ≡ true → Contains ps p → is_there (entries.find row_cmp q (with_keys key ps)) ≡ true
  key_there q p [] same h = absurd (in_none p h)
  key_there q p (x ∷ xs) same h = by (eq_by_cmp row_cmp q (column_values key x.1)) refl (in_cases x p xs h) (key_there q p xs same)
    where
      by : (b : Bool) → eq_by_cmp row_cmp q (column_values key x.1) ≡ b → (x ≡ p) ⊎ Contains xs p → (Contains xs p → is_there (entries.find row_cmp q (with_keys key xs)) ≡ true) → is_there (cond b (Some x) (entries.find row_cmp q (with_keys key xs))) ≡ true
      by true is here rest = refl
      by false is (inl here) rest = let no : false ≡ true = sym is ∙ ap (λ (p : ℕ × Row). eq_by_cmp row_cmp q (column_values key p.1)) here ∙ same in cc
      by false is (inr there) rest = rest there

  -- what a sort by keys gives, and of one key one kept
  pub ordered : (rows sorted : List (ℕ × Bor Row)) → IsPermutation rows sorted → IsSorted key_cmp sorted → IsInKeyOrder key (lent_rows rows) (lent_rows (dedup (eq_by_cmp key_cmp) sorted))
  ordered rows sorted moved up = record {
    rises = rises (dedup (eq_by_cmp key_cmp) sorted) (IsStrictlySortedBy-dedup keys_total (λ x y. refl) sorted up);
    among = λ p h.
        let k = from_map lent_row p (dedup (eq_by_cmp key_cmp) sorted) h in
        subst (Contains (lent_rows rows)) k.2 (in_map lent_row k.0 rows (Contains-permutation sorted rows k.0 (IsPermutation-sym rows sorted moved) (Contains-from_dedup (eq_by_cmp key_cmp) sorted k.0 k.1)));
    each = λ p h.
        let k = from_map lent_row p rows h in
        let a = Any-dedup (eq_by_cmp_equiv keys_total) sorted k.0 (Contains-permutation rows sorted k.0 moved k.1) in
        let there = in_map lent_row a.1 (dedup (eq_by_cmp key_cmp) sorted) (a.0, a.2, a.3) in
        ap (λ (p : ℕ × Row). is_there (entries.find row_cmp (column_values key p.1) (with_keys key (lent_rows (dedup (eq_by_cmp key_cmp) sorted))))) (sym k.2)
        ∙ key_there (key_in k.0) (lent_row a.1) (lent_rows (dedup (eq_by_cmp key_cmp) sorted)) a.4 there;
  }
