use Rattle.ss_incarnations.proofs.Openings.{none_is_opened, none_is_tried, opened_at_last}
use Rattle.ss_incarnations.proofs.laws.opened_at_last.Goals as goal

pub returns-clause-untried : goal.returns-clause-untried
returns-clause-untried g c = none_is_tried g.D.Disk.kind

pub returns-clause-none : goal.returns-clause-none
returns-clause-none g c = none_is_opened g.D.Disk.kind c.stands_for_one.ensures

pub returns-clause-at_last : goal.returns-clause-at_last
returns-clause-at_last g c = opened_at_last g.D.Disk.kind c.stands_for_one.ensures g.met.D.Disk.honest_tells
