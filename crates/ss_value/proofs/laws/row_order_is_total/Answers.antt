use Rattle.ss_value.specs.ValueOrder.{row_cmp_total, row_cmp-IsAntisymmetric}
use Rattle.ss_value.proofs.laws.row_order_is_total.Goals as goal

pub returns-clause-total : goal.returns-clause-total
returns-clause-total c = row_cmp_total

pub returns-clause-ties : goal.returns-clause-ties
returns-clause-ties c = row_cmp-IsAntisymmetric
