use Rattle.ss_model_laws.proofs.Settled.{loop_settles}
use Rattle.ss_model_laws.proofs.settling.loops_settle.Goals as goal

pub returns : goal.returns
returns c = λ catalog db steps. loop_settles catalog db steps
