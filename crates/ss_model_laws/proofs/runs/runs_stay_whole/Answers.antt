use Rattle.ss_model_laws.proofs.BodySound.{run_whole}
use Rattle.ss_model_laws.proofs.runs.runs_stay_whole.Goals as goal

pub returns : goal.returns
returns c = λ catalog accepted q p args batches s is fits count inputs h. run_whole catalog accepted.typed accepted.in_scope q p args batches s is fits count inputs h
