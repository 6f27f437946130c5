use Rattle.ss_headline.proofs.Runs.{stopped_runs}
use Rattle.ss_headline.proofs.laws.stopped_runs.Goals as goal

pub returns : goal.returns
returns g c = stopped_runs g.D.Disk.kind c.answers_make_report.ensures c.stopped_sessions.ensures c.sessions_hold_from_each.ensures
