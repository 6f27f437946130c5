use Rattle.ss_nest_laws.proofs.Standing.{stand_there}
use Rattle.ss_nest_laws.proofs.steps.nests_stand_there.Goals as goal

pub returns : goal.returns
returns c = stand_there
