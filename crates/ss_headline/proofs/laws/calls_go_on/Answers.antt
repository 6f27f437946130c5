use Rattle.ss_headline.proofs.Between.{calls_go_on}
use Rattle.ss_headline.proofs.laws.calls_go_on.Goals as goal

pub returns : goal.returns
returns g c =
    calls_go_on c.replays_go_on.ensures c.kept_carries.ensures c.stands_for_one.ensures g.D.Disk.kind g.met.D.Disk.honest_tells g.met.D.Disk.sees_an_image
