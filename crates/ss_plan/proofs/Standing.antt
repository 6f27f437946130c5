-- In a row that meets the front of a WHERE, each column stands to its bounds as they say.
use Rattle.std.proofs.Common.{◌≡◌, ℕ, ◌==◌, Bool, true, false, cond, not, ◌&&◌, List, [], ◌∷◌, refl, sym, ap, ◌∙◌, Option, Some, None, arith}
use Rattle.std.proofs.lemmas.Bool.Decides.{nat_tests}
use Rattle.std.specs.Option.{option_and_then}
use Rattle.std.specs.Ordering.{is_eq, is_lt, is_gt, ordering_reverse}
use Rattle.std.specs.declared.cmp.Ordering.{Ordering}
use Rattle.std.specs.declared.cmp.Ordering.TheVariants.{Less, Equal, Greater}
use Rattle.std.proofs.lemmas.Bool.{and_parts}
use Rattle.ss_value.specs.declared.value.Value.{Value}
use Rattle.ss_value.specs.Rows.{Row, column_value}
use Rattle.ss_value.specs.Order.{value_cmp}
use Rattle.ss_value.specs.ValueOrder.{value_cmp_total}
use Rattle.ss_sql_trees.specs.declared.typed.Cmp.{Cmp}
use Rattle.ss_sql_trees.specs.declared.typed.Cmp.TheVariants.{Eq, Ne, Lt, Le, Gt, Ge}
use Rattle.ss_sql_trees.specs.declared.typed.Expr.{Expr}
use Rattle.ss_model.specs.Expressions.{cmp_holds}
use Rattle.ss_plan.specs.Fronts.{Operand, Literal, Parameter, Column, Comparison, operand_value, comparison_holds, run_holds, run_of, meets_run}
use Rattle.ss_plan.specs.Bounds.{mirror, bounds_end, is_known, is_column, bound_beside, bound_in, first_of, first_bound, known_value, bound_value}
use Rattle.ss_plan.specs.declared.bounds.RangeEnd.{RangeEnd}
use Rattle.ss_plan.specs.declared.bounds.RangeEnd.TheVariants.{Both, Low, High}

-- how a column may stand to what bounds it at an end
abbrev pub stands : RangeEnd → Ordering → Bool
stands Both r = is_eq r
stands Low r = not (is_lt r)
stands High r = not (is_gt r)

compared : (end : RangeEnd) (op : Cmp) (r : Ordering) → bounds_end end op ≡ true → cmp_holds op r ≡ true → stands end r ≡ true
compared Both Eq r b h = h
compared Both Ne r b h = cc
compared Both Lt r b h = cc
compared Both Le r b h = cc
compared Both Gt r b h = cc
compared Both Ge r b h = cc
compared Low Eq r b h = cc
compared Low Ne r b h = cc
compared Low Lt r b h = cc
compared Low Le r b h = cc
compared Low Gt Less b h = cc
compared Low Gt Equal b h = refl
compared Low Gt Greater b h = refl
compared Low Ge Less b h = cc
compared Low Ge Equal b h = refl
compared Low Ge Greater b h = refl
compared High Eq r b h = cc
compared High Ne r b h = cc
compared High Gt r b h = cc
compared High Ge r b h = cc
compared High Lt Less b h = refl
compared High Lt Equal b h = refl
compared High Lt Greater b h = cc
compared High Le Less b h = refl
compared High Le Equal b h = refl
compared High Le Greater b h = cc

turned : (op : Cmp) (r : Ordering) → cmp_holds op r ≡ cmp_holds (mirror op) (ordering_reverse r)
turned Eq Less = refl
turned Eq Equal = refl
turned Eq Greater = refl
turned Ne Less = refl
turned Ne Equal = refl
turned Ne Greater = refl
turned Lt Less = refl
turned Lt Equal = refl
turned Lt Greater = refl
turned Le Less = refl
turned Le Equal = refl
turned Le Greater = refl
turned Gt Less = refl
turned Gt Equal = refl
turned Gt Greater = refl
turned Ge Less = refl
turned Ge Equal = refl
turned Ge Greater = refl

module _ (row params : Row) where
  known_is : (o : Operand) (v : Value) → known_value params o ≡ Some v → operand_value (row ∷ []) params o ≡ v
  known_is (Literal w) v e = cc
  known_is (Parameter n) v e = cc
  known_is (Column s c) v e = cc

  column_is : (c : ℕ) (o : Operand) → is_column c o ≡ true → operand_value (row ∷ []) params o ≡ column_value row c
  column_is c (Literal w) e = cc
  column_is c (Parameter n) e = cc
  column_is c (Column s k) e =
      let both = and_parts (s == 0) (k == c) e in
      let here : s ≡ 0 = (let h = both.0 in grind (arith, nat_tests)) in
      let same : k ≡ c = (let h = both.1 in grind (arith, nat_tests)) in
      ap (λ s. operand_value (row ∷ []) params (Column s k)) here ∙ ap (column_value row) same

module _ (end : RangeEnd) (row params : Row) where
  -- the two sides that a bound has
  pub record Beside (c : ℕ) (op : Cmp) (column other o : Operand) : Type 0 where
    pub bounds : bounds_end end op ≡ true
    pub here : is_column c column ≡ true
    pub is : other ≡ o

  beside_so : (c : ℕ) (op : Cmp) (column other o : Operand) (b : Bool) → (bounds_end end op && is_column c column && is_known other) ≡ b → cond b (Some other) None ≡ Some o → Beside c op column other o
  beside_so c op column other o true is e =
      let first = and_parts (bounds_end end op && is_column c column) (is_known other) is in
      let second = and_parts (bounds_end end op) (is_column c column) first.0 in
      record { bounds = second.0; here = second.1; is = (let q : other ≡ o = cc in q) }
  beside_so c op column other o false is e = cc

  abbrev value : Operand → Value
  value o = operand_value (row ∷ []) params o

  -- a comparison with the column on the left
  stands_to : (c : ℕ) (op : Cmp) (column other o : Operand) (v : Value) → Beside c op column other o → known_value params o ≡ Some v → cmp_holds op (value_cmp (value column) (value other)) ≡ true → stands end (value_cmp (column_value row c) v) ≡ true
  stands_to c op column other o v k known holds =
      let left : value column ≡ column_value row c = column_is row params c column k.here in
      let right : value other ≡ v = ap value k.is ∙ known_is row params o v known in
      compared end op (value_cmp (column_value row c) v) k.bounds (sym (ap (λ x. cmp_holds op (value_cmp x (value other))) left ∙ ap (λ y. cmp_holds op (value_cmp (column_value row c) y)) right) ∙ holds)

  bound_stands : (c : ℕ) (x : Comparison) (o : Operand) (v : Value) → comparison_holds (row ∷ []) params x ≡ true → bound_in end c x ≡ Some o → known_value params o ≡ Some v → stands end (value_cmp (column_value row c) v) ≡ true
  bound_stands c x o v holds e known = by (bound_beside end c x.op x.left x.right) refl e
    where
      by : (b : Option Operand) → bound_beside end c x.op x.left x.right ≡ b → first_of b (bound_beside end c (mirror x.op) x.right x.left) ≡ Some o → stands end (value_cmp (column_value row c) v) ≡ true
      by (Some p) is e = stands_to c x.op x.left x.right o v (beside_so c x.op x.left x.right o _ refl (is ∙ e)) known holds
      by None is e =
          stands_to c (mirror x.op) x.right x.left o v (beside_so c (mirror x.op) x.right x.left o _ refl e) known
          (ap (cmp_holds (mirror x.op)) (value_cmp_total.antisymm (value x.right) (value x.left)) ∙ sym (turned x.op (value_cmp (value x.left) (value x.right))) ∙ holds)

  first_stands : (c : ℕ) (xs : List Comparison) (o : Operand) (v : Value) → run_holds (row ∷ []) params xs ≡ true → first_bound end c xs ≡ Some o → known_value params o ≡ Some v → stands end (value_cmp (column_value row c) v) ≡ true
  first_stands c [] o v holds e known = cc
  first_stands c (x ∷ xs) o v holds e known =
      let h = and_parts (comparison_holds (row ∷ []) params x) (run_holds (row ∷ []) params xs) holds in
      by (bound_in end c x) refl e h.0 (first_stands c xs o v h.1)
    where
      by : (b : Option Operand) → bound_in end c x ≡ b → first_of b (first_bound end c xs) ≡ Some o → comparison_holds (row ∷ []) params x ≡ true → (first_bound end c xs ≡ Some o → known_value params o ≡ Some v → stands end (value_cmp (column_value row c) v) ≡ true) → stands end (value_cmp (column_value row c) v) ≡ true
      by (Some p) is e h rest = bound_stands c x o v h (is ∙ e) known
      by None is e h rest = rest e known

  module _ (test : Option Expr) (meets : meets_run params test row ≡ true) where
    -- by the bound that a column has at an end
    pub bound_so : (c : ℕ) (v : Value) → bound_value end params test c ≡ Some v → stands end (value_cmp (column_value row c) v) ≡ true
    bound_so c v e = by (first_bound end c (run_of test)) refl e
      where
        by : (b : Option Operand) → first_bound end c (run_of test) ≡ b → option_and_then (known_value params) b ≡ Some v → stands end (value_cmp (column_value row c) v) ≡ true
        by (Some o) is e = first_stands c (run_of test) o v meets is e
        by None is e = cc
