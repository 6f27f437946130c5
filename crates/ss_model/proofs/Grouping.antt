-- Groups by key.
use Rattle.std.proofs.Common.{◌≡◌, ℕ, zero, suc, ◌+◌, ◌<◌, ◌≤◌, Bool, true, false, cond, not, ltb, List, [], ◌∷◌, ◌++◌, map, fold, set, get_or, length, sym, ap, ◌∙◌, refl, Some, None, arith}
use Rattle.std.specs.Prelude.{slice_get}
use Rattle.std.specs.List.{position, position_or_len}
use Rattle.std.specs.Ordering.{eq_by_cmp}
use Rattle.std.proofs.lemmas.Bool.Decides.{nat_tests}
use Rattle.std.proofs.lemmas.List.Quantifiers.{position-Some}
use Rattle.ss_lemmas.proofs.Bools.{some_same}
use Rattle.ss_value.specs.Rows.{Row, Rows}
use Rattle.ss_value.specs.Order.{row_cmp}
use Rattle.ss_sql_trees.specs.declared.typed.ColAt.{ColAt}
use Rattle.ss_model.specs.Queries.{source_column, add_to_group, group_rows}

abbrev pub members_of : List (Row × List Rows) → List (List Rows)
members_of groups = map (λ g. g.1) groups

abbrev pub grouped_onto : List ColAt → List (Row × List Rows) → List Rows → List (Row × List Rows)
grouped_onto columns groups found = fold (λ gs here. add_to_group (map (λ c. source_column c here) columns) here gs) groups found

-- where a column is listed
pub grouped : (columns : List ColAt) (found : List Rows) → 0 < length columns → members_of (grouped_onto columns [] found) ≡ group_rows columns found
grouped [] found h = absurd (omega arith)
grouped (c ∷ cs) found h = refl

module _ (k : Row) (here : Rows) where
  abbrev has_key : (Row × List Rows) → Bool
  has_key g = eq_by_cmp row_cmp k g.0

  abbrev with_member : (Row × List Rows) → (Row × List Rows)
  with_member g = (g.0, g.1 ++ here ∷ [])

  set_first : (gs : List (Row × List Rows)) (i : ℕ) (g : Row × List Rows) → slice_get gs i ≡ Some g → has_key (get_or gs i g) ≡ true → ((j : ℕ) → j < i → has_key (get_or gs j g) ≡ false) → set gs i (with_member g) ≡ add_to_group k here gs
  set_first [] i g e first before = cc
  set_first (h ∷ hs) zero g e first before =
      ap (λ (g : Row × List Rows). with_member g ∷ hs) (sym (some_same h g e)) ∙ ap (λ b. cond b (with_member h ∷ hs) (h ∷ add_to_group k here hs)) (sym first)
  set_first (h ∷ hs) (suc i) g e first before =
      ap (λ gs. h ∷ gs) (set_first hs i g e first (λ j l. before (suc j) (omega arith)))
      ∙ ap (λ b. cond b (with_member h ∷ hs) (h ∷ add_to_group k here hs)) (sym (before 0 (omega arith)))

  -- the group of this key gains one
  pub into_group : (gs : List (Row × List Rows)) (i : ℕ) (g now : Row × List Rows) → position has_key gs ≡ Some i → slice_get gs i ≡ Some g → now ≡ with_member g → set gs i now ≡ add_to_group k here gs
  into_group gs i g now found e grown =
      let at = position-Some has_key gs i g found in
      ap (set gs i) grown ∙ set_first gs i g e at.1 at.2

  new_last : (gs : List (Row × List Rows)) → length gs ≤ position_or_len has_key gs → gs ++ (k, here ∷ []) ∷ [] ≡ add_to_group k here gs
  new_last [] h = refl
  new_last (g ∷ gs) h = by (has_key g) h (λ l. new_last gs l)
    where
      by : (b : Bool) → suc (length gs) ≤ cond (not b) (1 + position_or_len has_key gs) 0 → (length gs ≤ position_or_len has_key gs → gs ++ (k, here ∷ []) ∷ [] ≡ add_to_group k here gs) → g ∷ (gs ++ (k, here ∷ []) ∷ []) ≡ cond b (with_member g ∷ gs) (g ∷ add_to_group k here gs)
      by true l rest = absurd (omega arith)
      by false l rest = ap (λ gs. g ∷ gs) (rest (omega arith))

  no_position : (n m : ℕ) → cond (ltb n m) (Some n) None ≡ None → m ≤ n
  no_position n m e = grind (arith, nat_tests)

  -- a new group comes last
  pub new_group : (gs : List (Row × List Rows)) → position has_key gs ≡ None → gs ++ (k, here ∷ []) ∷ [] ≡ add_to_group k here gs
  new_group gs none = new_last gs (no_position (position_or_len has_key gs) (length gs) none)
