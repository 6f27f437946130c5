use Rattle.ss_standing.proofs.Fronts.{generation_goes_on}
use Rattle.ss_standing.proofs.laws.generations_go_on.Goals as goal

pub returns : goal.returns
returns c = generation_goes_on c.kept_carries.ensures c.replays_go_on.ensures
