-- Rows that are compared.
use Rattle.std.proofs.Common.{◌≡◌, ◌↔◌, Bool, true, subst}
use Rattle.std.proofs.lemmas.Slice.Eq.{slice_eq-Decides}
use Rattle.std.specs.Cmp.{eq_by_cmp_equiv}
use Rattle.std.specs.Cmp.Lexicographic.{pointwise}
use Rattle.ss_value.specs.declared.value.Value.{Value}
use Rattle.ss_value.specs.Order.{values_equal}
use Rattle.ss_value.specs.Rows.{Row}
use Rattle.ss_value.specs.ValueOrder.{value_cmp_total}
use Rattle.ss_value.proofs.CallerLemmas.{same_value}

value_decides : (a b : Value) → (values_equal a b ≡ true) ↔ (a ≡ b)
value_decides a b = (same_value a b, λ e. subst (λ (x : Value). values_equal a x ≡ true) e ((eq_by_cmp_equiv value_cmp_total).refl a))

pub row_decides : (a b : Row) (r : Bool) → r ≡ pointwise values_equal a b → (r ≡ true) ↔ (a ≡ b)
row_decides = slice_eq-Decides value_decides
