use Rattle.ss_model_laws.proofs.HeldParts.{held_is_enough}
use Rattle.ss_model_laws.proofs.held.held_parts_are_enough.Goals as goal

pub returns : goal.returns
returns c = λ catalog accepted n some held e holds db. held_is_enough catalog accepted n some held e holds db
