use Rattle.ss_standing.proofs.Fronts.{front_stands}
use Rattle.ss_standing.proofs.laws.fronts_stand.Goals as goal

pub returns : goal.returns
returns c = front_stands c.generations_go_on.ensures c.replays_go_on.ensures
