use Rattle.ss_standing.proofs.Keeping.{kept_counts_stand_on}
use Rattle.ss_standing.proofs.laws.kept_counts_stand_on.Goals as goal

pub returns : goal.returns
returns g c = kept_counts_stand_on c.counts_are_executions.ensures g.D.Disk.kind.moment g.D.Disk.kind.images
