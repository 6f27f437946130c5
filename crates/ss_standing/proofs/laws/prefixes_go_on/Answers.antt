use Rattle.ss_standing.proofs.Keeping.{keeps_over_flush, keeps_go_on}
use Rattle.ss_standing.proofs.laws.prefixes_go_on.Goals as goal

pub returns-clause-over_flush : goal.returns-clause-over_flush
returns-clause-over_flush g c = keeps_over_flush c.replays_go_on.ensures c.fronts_stand.ensures c.flushes_leave_fronts.ensures g.D.Disk.kind.moment g.D.Disk.kind.images

pub returns-clause-grows : goal.returns-clause-grows
returns-clause-grows g c = keeps_go_on g.D.Disk.kind.moment g.D.Disk.kind.images
