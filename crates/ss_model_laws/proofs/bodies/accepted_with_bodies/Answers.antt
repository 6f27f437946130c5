use Rattle.ss_model_laws.proofs.ChangedBodies.{may_change}
use Rattle.ss_model_laws.proofs.bodies.accepted_with_bodies.Goals as goal

pub returns : goal.returns
returns c = λ catalog accepted bodies each. may_change catalog bodies each accepted
