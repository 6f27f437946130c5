use Rattle.ss_nest_laws.proofs.Nested.{keep_bodies}
use Rattle.ss_nest_laws.proofs.steps.nests_keep_their_bodies.Goals as goal

pub returns : goal.returns
returns c = keep_bodies
