use Rattle.ss_headline.proofs.Disks.{quiet_leaves, quiet_stays}
use Rattle.ss_headline.proofs.laws.quiet_leaves.Goals as goal

pub returns-clause-anew : goal.returns-clause-anew
returns-clause-anew g c = quiet_leaves g.D.Disk.kind g.P.Claim.holds

pub returns-clause-as_before : goal.returns-clause-as_before
returns-clause-as_before g c = quiet_stays g.D.Disk.kind
