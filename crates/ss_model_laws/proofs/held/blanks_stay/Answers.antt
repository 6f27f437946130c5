use Rattle.ss_model_laws.proofs.HeldParts.{blanks_stay}
use Rattle.ss_model_laws.proofs.held.blanks_stay.Goals as goal

pub returns : goal.returns
returns c = λ catalog accepted n some held e holds db x y ex ey p. blanks_stay catalog accepted n some held e holds db x y ex ey p
