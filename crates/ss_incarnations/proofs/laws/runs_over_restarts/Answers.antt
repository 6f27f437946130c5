use Rattle.ss_incarnations.proofs.Runs.{runs_over_restarts}
use Rattle.ss_incarnations.proofs.laws.runs_over_restarts.Goals as goal

pub returns : goal.returns
returns g c = runs_over_restarts g.D.Disk.kind c.kept_carries.ensures c.answers_make_report.ensures
