use Rattle.ss_standing.proofs.Checkpoints.{keeps_over_checkpoint}
use Rattle.ss_standing.proofs.laws.lists_stand_over_checkpoints.Goals as goal

pub returns : goal.returns
returns g c = keeps_over_checkpoint g.D.Disk.kind.moment g.D.Disk.kind.images
