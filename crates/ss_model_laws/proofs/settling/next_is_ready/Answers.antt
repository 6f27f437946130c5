use Rattle.ss_model_laws.proofs.Settled.{next_is_ready}
use Rattle.ss_model_laws.proofs.settling.next_is_ready.Goals as goal

pub returns : goal.returns
returns c = λ catalog db. next_is_ready catalog db
