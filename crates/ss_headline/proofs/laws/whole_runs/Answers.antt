use Rattle.ss_headline.proofs.Runs.{whole_runs}
use Rattle.ss_headline.proofs.laws.whole_runs.Goals as goal

pub returns : goal.returns
returns g c = whole_runs g.D.Disk.kind c.answers_make_report.ensures c.whole_sessions.ensures c.sessions_hold_from_each.ensures
