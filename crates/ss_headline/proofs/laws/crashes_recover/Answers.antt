use Rattle.ss_headline.proofs.Recovered.{all_recovers, crashes_hold_from_each, crashes_recover}
use Rattle.ss_headline.proofs.laws.crashes_recover.Goals as goal

pub returns-clause-crashes : goal.returns-clause-crashes
returns-clause-crashes g c = crashes_recover c.replays_go_on.ensures c.kept_carries.ensures c.fronts_recover.ensures g.D.Disk.kind

pub returns-clause-all : goal.returns-clause-all
returns-clause-all g c = all_recovers c.replays_go_on.ensures c.kept_carries.ensures c.fronts_recover.ensures

pub returns-clause-from_each : goal.returns-clause-from_each
returns-clause-from_each g c = crashes_hold_from_each c.weak_fronts_from_each.ensures g.D.Disk.kind
