use Rattle.ss_headline.proofs.EachDatabase.{sessions_hold_from_each}
use Rattle.ss_headline.proofs.laws.sessions_hold_from_each.Goals as goal

pub returns : goal.returns
returns g c = sessions_hold_from_each c.kept_carries.ensures g.D.Disk.kind
