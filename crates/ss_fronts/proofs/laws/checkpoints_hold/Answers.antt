use Rattle.ss_fronts.proofs.Checkpoints.{checkpoints_hold}
use Rattle.ss_fronts.proofs.laws.checkpoints_hold.Goals as goal

pub returns : goal.returns
returns c = checkpoints_hold c.replays_go_on.ensures c.whole_databases_stay.ensures c.batches_are_bounded.ensures c.checkpoints_stand.ensures.fronts
