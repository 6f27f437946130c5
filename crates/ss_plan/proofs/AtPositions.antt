-- Rows at their positions in a list.
use Rattle.std.proofs.Common.{◌≡◌, ℕ, zero, suc, ◌+◌, ◌<◌, ◌≤◌, ◌==◌, Bool, true, false, ◌||◌, List, [], ◌∷◌, ◌++◌, length, refl, sym, ap, ◌∙◌, arith, Some, None, slice_get}
use Rattle.std.specs.Borrow.{Bor}
use Rattle.std.specs.List.{enumerate_from}
use Rattle.std.proofs.lemmas.Bool.Decides.{nat_tests}
use Rattle.std.proofs.lemmas.List.{length-map}
use Rattle.ss_value.specs.Rows.{Row, Rows}
use Rattle.ss_rows.specs.Sources.{Positioned, rows_in, has_position, first_position, StandsAt}
use Rattle.ss_plan.specs.Keys.{lent_row}
use Rattle.ss_plan.specs.Found.{lent_rows}

-- a row at a position is the one there, and behind it stand the others
record IsThere (n : ℕ) (rows : Rows) (at : ℕ) (row : Row) (behind : Positioned) : Type 0 where
  position : ℕ
  at_is : at ≡ n + position
  row_is : slice_get rows position ≡ Some row
  within : position < length rows
  more : position + 1 < length rows → first_position behind ≡ Some (at + 1)
  last : length rows ≤ position + 1 → first_position behind ≡ None

stands : (n : ℕ) (rows : Rows) (at : ℕ) (row : Row) (before behind : Positioned) → enumerate_from n rows ≡ before ++ (at, row) ∷ behind → IsThere n rows at row behind
stands n [] at row [] behind is = cc
stands n [] at row (b ∷ bs) behind is = cc
stands n (x ∷ xs) at row [] behind is =
    let here : ◌≡◌ {A = ℕ × Row} (n, x) (at, row) = cc in
    let rest : enumerate_from (n + 1) xs ≡ behind = cc in
    let same : n ≡ at = ap (λ (p : ℕ × Row). p.0) here in
    record {
      position = 0;
      at_is = omega arith;
      row_is = ap (λ (p : ℕ × Row). Some p.1) here;
      within = omega arith;
      more = λ lt. ap first_position (sym rest) ∙ some_first xs (omega arith) ∙ ap (λ n. Some (n + 1)) same;
      last = λ le. ap first_position (sym rest) ∙ no_first xs (omega arith);
    }
  where
    some_first : (xs : Rows) → 0 < length xs → first_position (enumerate_from (n + 1) xs) ≡ Some (n + 1)
    some_first [] lt = absurd (omega arith)
    some_first (y ∷ ys) lt = refl

    no_first : (xs : Rows) → length xs ≤ 0 → first_position (enumerate_from (n + 1) xs) ≡ None
    no_first [] le = refl
    no_first (y ∷ ys) le = absurd (omega arith)
stands n (x ∷ xs) at row (b ∷ bs) behind is =
    let i = stands (n + 1) xs at row bs behind (let rest : enumerate_from (n + 1) xs ≡ bs ++ (at, row) ∷ behind = cc in rest) in
    let at_is : at ≡ (n + 1) + i.position = i.at_is in
    let within : i.position < length xs = i.within in
    record {
      position = suc i.position;
      at_is = omega arith;
      row_is = i.row_is;
      within = omega arith;
      more = λ lt. i.more (omega arith);
      last = λ le. i.last (omega arith);
    }

module _ (rows : Rows) (at : ℕ) (row : Row) (behind : Positioned) (s : StandsAt (enumerate_from 0 rows) at row behind) where
  abbrev there : IsThere 0 rows at row behind
  there = stands 0 rows at row s.0 behind s.1

  place_is : there.position ≡ at
  place_is = let is : at ≡ 0 + there.position = there.at_is in omega arith

  pub row_there : slice_get rows at ≡ Some row
  row_there = ap (slice_get rows) (sym place_is) ∙ there.row_is

  pub next_there : at + 1 < length rows → Some (at + 1) ≡ first_position behind
  next_there lt = sym (there.more (let is = place_is in omega arith))

  pub no_next : length rows ≤ at + 1 → None ≡ first_position behind
  no_next le = sym (there.last (let is = place_is in omega arith))

position_from : (n : ℕ) (rows : Rows) (at : ℕ) → n ≤ at → at < n + length rows → has_position (enumerate_from n rows) at ≡ true
position_from n [] at low high = absurd (omega arith)
position_from n (x ∷ xs) at low high = by (n == at) refl (position_from (n + 1) xs at)
  where
    by : (b : Bool) → (n == at) ≡ b → (n + 1 ≤ at → at < (n + 1) + length xs → has_position (enumerate_from (n + 1) xs) at ≡ true) → (b || has_position (enumerate_from (n + 1) xs) at) ≡ true
    by true is rest = refl
    by false is rest =
        let other : n ≡ at → ⊥ = (λ same. let here : (n == at) ≡ true = grind (arith, nat_tests) in let no : true ≡ false = sym here ∙ is in cc) in
        rest (omega arith) (omega arith)

-- each position in the list is one
pub position_there : (rows : Rows) (at : ℕ) → at < length rows → has_position (enumerate_from 0 rows) at ≡ true
position_there rows at lt = position_from 0 rows at (omega arith) (omega arith)

position_within : (n : ℕ) (rows : Rows) (at : ℕ) → has_position (enumerate_from n rows) at ≡ true → at < n + length rows
position_within n [] at is = cc
position_within n (x ∷ xs) at is = by (n == at) refl is (position_within (n + 1) xs at)
  where
    by : (b : Bool) → (n == at) ≡ b → (b || has_position (enumerate_from (n + 1) xs) at) ≡ true → (has_position (enumerate_from (n + 1) xs) at ≡ true → at < (n + 1) + length xs) → at < n + suc (length xs)
    by true here is rest = let same : n ≡ at = grind (arith, nat_tests) in omega arith
    by false here is rest = let lt = rest is in omega arith

-- and no other
pub within_there : (rows : Rows) (at : ℕ) → has_position (enumerate_from 0 rows) at ≡ true → at < length rows
within_there rows at is = let lt = position_within 0 rows at is in omega arith

-- the rows are the same
pub rows_there : (n : ℕ) (rows : Rows) → rows_in (enumerate_from n rows) ≡ rows
rows_there n [] = refl
rows_there n (x ∷ xs) = ap (λ rest. x ∷ rest) (rows_there (n + 1) xs)

-- ---- of rows that are lent

pub count_is : (rows : List (ℕ × Bor Row)) → length (rows_in (lent_rows rows)) ≡ length rows
count_is rows = length-map (lent_rows rows) (λ (p : ℕ × Row). p.1) ∙ length-map rows lent_row

pub none_lent : (rows : List (ℕ × Bor Row)) → None ≡ slice_get rows 0 → None ≡ first_position (enumerate_from 0 (rows_in (lent_rows rows)))
none_lent [] none = refl
none_lent (p ∷ ps) none = cc

pub first_lent : (rows : List (ℕ × Bor Row)) (p : ℕ × Bor Row) → slice_get rows 0 ≡ Some p → Some 0 ≡ first_position (enumerate_from 0 (rows_in (lent_rows rows)))
first_lent [] p some = cc
first_lent (q ∷ qs) p some = refl

pub row_lent : (rows : List (ℕ × Bor Row)) (at : ℕ) (p : ℕ × Bor Row) → slice_get rows at ≡ Some p → slice_get (rows_in (lent_rows rows)) at ≡ Some p.1.now
row_lent [] at p is = cc
row_lent (q ∷ qs) zero p is = ap (λ (p : ℕ × Bor Row). Some p.1.now) (let e : q ≡ p = cc in e)
row_lent (q ∷ qs) (suc at) p is = row_lent qs at p is

pub no_lent : (rows : List (ℕ × Bor Row)) (at : ℕ) → None ≡ slice_get rows at → slice_get (rows_in (lent_rows rows)) at ≡ None
no_lent [] at is = refl
no_lent (q ∷ qs) zero is = cc
no_lent (q ∷ qs) (suc at) is = no_lent qs at is

there_lent : (n : ℕ) (rows : List (ℕ × Bor Row)) (at : ℕ) (p : ℕ × Bor Row) → slice_get rows at ≡ Some p → at < length rows
there_lent n [] at p is = cc
there_lent n (q ∷ qs) zero p is = omega arith
there_lent n (q ∷ qs) (suc at) p is = let lt = there_lent n qs at p is in omega arith

pub position_lent : (rows : List (ℕ × Bor Row)) (at : ℕ) (p : ℕ × Bor Row) → slice_get rows at ≡ Some p → has_position (enumerate_from 0 (rows_in (lent_rows rows))) at ≡ true
position_lent rows at p is = position_there (rows_in (lent_rows rows)) at (omega (arith, count_is rows, there_lent 0 rows at p is))
