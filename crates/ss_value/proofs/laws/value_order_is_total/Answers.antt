use Rattle.ss_value.specs.ValueOrder.{value_cmp_total, value_cmp-IsAntisymmetric}
use Rattle.ss_value.proofs.laws.value_order_is_total.Goals as goal

pub returns-clause-total : goal.returns-clause-total
returns-clause-total c = value_cmp_total

pub returns-clause-ties : goal.returns-clause-ties
returns-clause-ties c = value_cmp-IsAntisymmetric
