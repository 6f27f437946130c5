use Rattle.ss_model_laws.proofs.AcceptedBodies.{in_parts}
use Rattle.ss_model_laws.proofs.bodies.accepted_in_parts.Goals as goal

pub returns : goal.returns
returns c = λ catalog. in_parts catalog
