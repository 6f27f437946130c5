use Rattle.ss_incarnations.proofs.Runs.{runs_over_hold_from_each}
use Rattle.ss_incarnations.proofs.laws.runs_over_hold_from_each.Goals as goal

pub returns : goal.returns
returns g c = runs_over_hold_from_each g.D.Disk.kind c.stands_for_one.ensures
