use Rattle.ss_headline.proofs.Sessions.{stopped_sessions}
use Rattle.ss_headline.proofs.laws.stopped_sessions.Goals as goal

pub returns : goal.returns
returns g c = stopped_sessions g.D.Disk.kind c.few_stand_behind.ensures.behind
