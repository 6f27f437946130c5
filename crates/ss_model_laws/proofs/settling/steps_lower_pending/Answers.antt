use Rattle.ss_model_laws.proofs.Settled.{lower_pending}
use Rattle.ss_model_laws.proofs.settling.steps_lower_pending.Goals as goal

pub returns : goal.returns
returns c = λ catalog accepted db in_step q r a is. lower_pending catalog accepted db in_step q r a is
