use Rattle.ss_catalog_checks.proofs.Rising.{procedures_have_levels}
use Rattle.ss_catalog_checks.proofs.laws.acyclic_workflows_have_levels.Goals as goal

pub returns : goal.returns
returns c = λ catalog none. procedures_have_levels catalog none
