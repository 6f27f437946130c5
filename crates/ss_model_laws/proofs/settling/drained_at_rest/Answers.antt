use Rattle.ss_model_laws.proofs.Settled.{at_rest}
use Rattle.ss_model_laws.proofs.settling.drained_at_rest.Goals as goal

pub returns : goal.returns
returns c = λ catalog accepted db whole. at_rest catalog accepted db whole
