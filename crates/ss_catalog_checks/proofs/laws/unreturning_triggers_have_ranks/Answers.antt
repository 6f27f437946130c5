use Rattle.ss_catalog_checks.proofs.Rising.{windows_have_ranks}
use Rattle.ss_catalog_checks.proofs.laws.unreturning_triggers_have_ranks.Goals as goal

pub returns : goal.returns
returns c = λ catalog numbers scope none. windows_have_ranks catalog none numbers scope
