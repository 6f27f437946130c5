use Rattle.ss_headline.proofs.Sessions.{whole_sessions}
use Rattle.ss_headline.proofs.laws.whole_sessions.Goals as goal

pub returns : goal.returns
returns g c = whole_sessions g.D.Disk.kind
