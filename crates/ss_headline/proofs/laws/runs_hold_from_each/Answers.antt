use Rattle.ss_headline.proofs.Runs.{runs_hold_from_each}
use Rattle.ss_headline.proofs.laws.runs_hold_from_each.Goals as goal

pub returns : goal.returns
returns g c = runs_hold_from_each g.D.Disk.kind c.stands_for_one.ensures
