use Rattle.ss_model_laws.proofs.BodiesAside.{bodies_aside}
use Rattle.ss_model_laws.proofs.bodies.bodies_aside.Goals as goal

pub returns : goal.returns
returns c = λ catalog bodies each. bodies_aside catalog bodies each
