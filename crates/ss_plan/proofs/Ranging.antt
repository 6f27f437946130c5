-- A row that meets the front of a WHERE stands in the range that the front names.
use Rattle.std.proofs.Common.{◌≡◌, ℕ, Bool, true, false, cond, ◌&&◌, List, [], ◌∷◌, take, length, refl, ap, ◌∙◌, Option, Some, None}
use Rattle.std.proofs.lemmas.Cmp.{tied_itself}
use Rattle.std.specs.Ordering.{ordering_then}
use Rattle.std.specs.declared.cmp.Ordering.{Ordering}
use Rattle.std.specs.declared.cmp.Ordering.TheVariants.{Less, Equal, Greater}
use Rattle.ss_value.specs.declared.value.Value.{Value}
use Rattle.ss_value.specs.declared.schema.Column.{Column}
use Rattle.ss_value.specs.Rows.{Row, column_value, column_values}
use Rattle.ss_value.specs.Order.{value_cmp, row_cmp}
use Rattle.ss_value.specs.ValueOrder.{value_cmp_total}
use Rattle.ss_sql_trees.specs.declared.typed.Expr.{Expr}
use Rattle.ss_index.specs.Pairs.{in_range}
use Rattle.ss_plan.specs.Fronts.{meets_run}
use Rattle.ss_plan.specs.Bounds.{bound_value}
use Rattle.ss_plan.specs.Ranges.{is_int, ends_with, range_end}
use Rattle.ss_plan.specs.declared.bounds.RangeEnd.{RangeEnd}
use Rattle.ss_plan.specs.declared.bounds.RangeEnd.TheVariants.{Both, Low, High}
use Rattle.ss_plan.proofs.Standing.{stands, bound_so}
use Rattle.ss_plan.proofs.Naming.{sought_is}

one_value : (r : Ordering) → ordering_then r Equal ≡ r
one_value Less = refl
one_value Equal = refl
one_value Greater = refl

nothing_left : (end : RangeEnd) → stands end Equal ≡ true
nothing_left Both = refl
nothing_left Low = refl
nothing_left High = refl

module _ (end : RangeEnd) (columns : List Column) (row params : Row) (test : Option Expr) (meets : meets_run params test row ≡ true) where
  -- the values in these columns stand so to an end of a range
  abbrev Stands : Row → List ℕ → Type 0
  Stands bound cs = stands end (row_cmp (take (length bound) (column_values cs row)) bound) ≡ true

  -- the row's values stand to an end of the range as they are to
  end_so : (cs : List ℕ) → Stands (range_end end columns params test cs) cs
  end_so [] = nothing_left end
  end_so (c ∷ cs) = by (bound_value Both params test c) refl (is_int columns c) (bound_value end params test c) refl (end_so cs)
    where
      by : (v : Option Value) → bound_value Both params test c ≡ v → (int : Bool) (b : Option Value) → bound_value end params test c ≡ b → Stands (range_end end columns params test cs) cs
          → Stands (ends_with v (cond int b None) (range_end end columns params test cs)) (c ∷ cs)
      by (Some v) is int b bound rest =
          ap (λ r. stands end (ordering_then r (row_cmp (take (length (range_end end columns params test cs)) (column_values cs row)) (range_end end columns params test cs)))) (ap (λ x. value_cmp x v) (sought_is row params test meets c v is) ∙ tied_itself value_cmp_total v) ∙ rest
      by None is true (Some b) bound rest = ap (stands end) (one_value (value_cmp (column_value row c) b)) ∙ bound_so end row params test meets c b bound
      by None is true None bound rest = nothing_left end
      by None is false b bound rest = nothing_left end

-- what meets the run stands in the range
pub range_so : (columns : List Column) (row params : Row) (test : Option Expr) (cs : List ℕ) → meets_run params test row ≡ true → in_range (range_end Low columns params test cs) (range_end High columns params test cs) (column_values cs row) ≡ true
range_so columns row params test cs meets =
    ap (λ b. b && stands High (row_cmp (take (length (range_end High columns params test cs)) (column_values cs row)) (range_end High columns params test cs))) (end_so Low columns row params test meets cs)
    ∙ end_so High columns row params test meets cs
