use Rattle.ss_model_laws.proofs.BesideBlanks.{runs_beside_blanks}
use Rattle.ss_model_laws.proofs.held.runs_beside_blanks.Goals as goal

pub returns : goal.returns
returns c = λ catalog accepted n some held e holds db. runs_beside_blanks catalog accepted n some held e holds db
