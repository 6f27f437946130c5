use Rattle.ss_model_laws.proofs.Settled.{settles_once}
use Rattle.ss_model_laws.proofs.settling.settling_terminates.Goals as goal

pub returns : goal.returns
returns c = λ catalog accepted db whole. settles_once catalog accepted db whole
