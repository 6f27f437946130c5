use Rattle.ss_fronts.proofs.OneThing.{front_recovers}
use Rattle.ss_fronts.proofs.laws.fronts_recover.Goals as goal

pub returns : goal.returns
returns c = front_recovers c.replays_go_on.ensures c.whole_databases_stay.ensures c.runs_recover_weakly.ensures
