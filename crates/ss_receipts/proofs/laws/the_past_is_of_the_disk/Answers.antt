use Rattle.ss_receipts.proofs.Since.{disk_since}
use Rattle.ss_receipts.proofs.laws.the_past_is_of_the_disk.Goals as goal

pub returns : goal.returns
returns g c = λ recovery catalog db first list old new since. disk_since g.D.Disk.kind.moment g.D.Disk.kind.images old new _ since
