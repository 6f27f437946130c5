use Rattle.ss_model_laws.proofs.TouchedRun.{touched_run}
use Rattle.ss_model_laws.proofs.parts.touched_run.Goals as goal

pub returns : goal.returns
returns c = λ catalog n some e p t. touched_run catalog n some e p t
