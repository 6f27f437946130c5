use Rattle.ss_fronts.proofs.Keeping.{checkpoints_keep_fronts}
use Rattle.ss_fronts.proofs.laws.checkpoints_keep_fronts.Goals as goal

pub returns : goal.returns
returns g c = checkpoints_keep_fronts g.D.Disk.kind.moment g.D.Disk.kind.images c.files_stand_for_one_thing.ensures.files c.one_thing_stands_on.ensures
