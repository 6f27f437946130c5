use Rattle.ss_catalog_checks.proofs.Rising.{batches_go_forward}
use Rattle.ss_catalog_checks.proofs.laws.unreturning_batches_go_forward.Goals as goal

pub returns : goal.returns
returns c = λ catalog none. batches_go_forward catalog none
