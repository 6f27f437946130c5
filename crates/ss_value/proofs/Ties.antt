-- Values and rows that compare as equal are the same.
use Rattle.std.proofs.Common.{◌≡◌, Bool, true, refl, sym, ap, ◌∙◌}
use Rattle.std.specs.Cmp.{Equal-is, eq_by_cmp_equiv}
use Rattle.std.specs.Cmp.Lexicographic.{pointwise, slice_cmp, lists_equiv, lists_ties}
use Rattle.std.specs.Ordering.{eq_by_cmp}
use Rattle.std.specs.declared.cmp.Ordering.TheVariants.{Equal}
use Rattle.std.specs.FinMap.{slice_cmp-IsAntisymmetric}
use Rattle.ss_value.specs.declared.value.Value.{Value}
use Rattle.ss_value.specs.Rows.{Row, Rows}
use Rattle.ss_value.specs.Order.{value_cmp, values_equal, row_cmp}
use Rattle.ss_value.specs.ValueOrder.{value_cmp_total, value_cmp-IsAntisymmetric, row_cmp-IsAntisymmetric}

pub same_value : (a b : Value) → values_equal a b ≡ true → a ≡ b
same_value a b e = value_cmp-IsAntisymmetric a b ((Equal-is (value_cmp a b)).0 e)

pub same_row : (a b : Row) → eq_by_cmp row_cmp a b ≡ true → a ≡ b
same_row a b e = row_cmp-IsAntisymmetric a b ((Equal-is (row_cmp a b)).0 e)

-- rows that compare as equal pass the same tests
pub alike : (test : Row → Bool) (a b : Row) → row_cmp a b ≡ Equal → test b ≡ test a
alike test a b tie = ap test (sym (row_cmp-IsAntisymmetric a b tie))

-- lists of rows that compare as equal are the same
pub same_rows : (a b : Rows) → pointwise (pointwise (eq_by_cmp value_cmp)) a b ≡ true → a ≡ b
same_rows a b e =
    slice_cmp-IsAntisymmetric row_cmp-IsAntisymmetric a b
    ((Equal-is (slice_cmp row_cmp a b)).0 (sym (lists_ties row_cmp (lists_ties value_cmp (λ x y. refl)) a b) ∙ e))

pub rows_compare : (a b : Rows) → a ≡ b → pointwise (pointwise (eq_by_cmp value_cmp)) a b ≡ true
rows_compare a b e =
    ap (pointwise (pointwise (eq_by_cmp value_cmp)) a) (sym e) ∙ (lists_equiv (lists_equiv (eq_by_cmp_equiv value_cmp_total))).refl a
