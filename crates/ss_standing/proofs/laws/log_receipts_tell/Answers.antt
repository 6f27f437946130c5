use Rattle.ss_disk.specs.Kinds.{present}
use Rattle.ss_standing.proofs.Keeping.{log_receipts_tell}
use Rattle.ss_standing.proofs.laws.log_receipts_tell.Goals as goal

pub returns : goal.returns
returns g c = log_receipts_tell c.counts_are_executions.ensures (present g.D.Disk.kind)
