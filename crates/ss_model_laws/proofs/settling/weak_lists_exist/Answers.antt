use Rattle.ss_model_laws.proofs.Settled.{weak_once}
use Rattle.ss_model_laws.proofs.settling.weak_lists_exist.Goals as goal

pub returns : goal.returns
returns c = λ catalog accepted db whole entries. weak_once catalog accepted entries db whole
