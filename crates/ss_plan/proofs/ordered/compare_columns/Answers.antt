use Rattle.std.proofs.Common.{◌≡◌, ℕ, suc, ◌<◌, true, List, length, drop, get_or, refl, sym, ap, ◌∙◌, drop-cons}
use Rattle.std.specs.Ordering.{ordering_then, is_ne}
use Rattle.std.specs.declared.cmp.Ordering.{Ordering}
use Rattle.std.specs.declared.cmp.Ordering.TheVariants.{Less, Equal, Greater}
use Rattle.ss_value.specs.Rows.{Row, column_value, column_values}
use Rattle.ss_value.specs.Order.{value_cmp, row_cmp}
use Rattle.ss_plan.proofs.ordered.compare_columns.Goals as goal

first_tells : (r s : Ordering) → is_ne r ≡ true → ordering_then r s ≡ r
first_tells Less s ne = refl
first_tells Equal s ne = cc
first_tells Greater s ne = refl

-- the first column that doesn't tie tells
column_tells : (columns : List ℕ) (i : ℕ) (a b : Row) (r : Ordering) → i < length columns → row_cmp (column_values (drop i columns) a) (column_values (drop i columns) b) ≡ row_cmp (column_values columns a) (column_values columns b)
    → r ≡ value_cmp (column_value a (get_or columns i 0)) (column_value b (get_or columns i 0)) → is_ne r ≡ true → r ≡ row_cmp (column_values columns a) (column_values columns b)
column_tells columns i a b r lt so is ne =
    sym (first_tells r (row_cmp (column_values (drop (suc i) columns) a) (column_values (drop (suc i) columns) b)) ne)
    ∙ ap (λ r. ordering_then r (row_cmp (column_values (drop (suc i) columns) a) (column_values (drop (suc i) columns) b))) is
    ∙ ap (λ cs. row_cmp (column_values cs a) (column_values cs b)) (sym (drop-cons columns i 0 lt))
    ∙ so

pub returns-then-is_ne : goal.returns-then-is_ne
returns-then-is_ne c = column_tells c.args.columns.now c.loop-column.column-index c.args.a.now c.args.b.now c.compare_column-found.result c.loop-column-test.true c.loop-column.invariant c.compare_column-found.ensures (sym c.is_ne.ensures ∙ c.if-is_ne.true)
