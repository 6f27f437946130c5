use Rattle.ss_model_laws.proofs.InStep.{stays_in_step}
use Rattle.ss_model_laws.proofs.lists.databases_stay_in_step.Goals as goal

pub returns : goal.returns
returns c = λ catalog wired. stays_in_step catalog wired
