use Rattle.ss_standing.proofs.Keeping.{one_thing_stands_on}
use Rattle.ss_standing.proofs.laws.one_thing_stands_on.Goals as goal

pub returns : goal.returns
returns g c = one_thing_stands_on c.stands_for_one.ensures g.D.Disk.kind.moment g.D.Disk.kind.images
