use Rattle.ss_incarnations.proofs.Incarnations.{first_incarnation, no_engine_is_opened, none_is_reopened, one_more_incarnation}
use Rattle.ss_incarnations.proofs.laws.incarnations_go_on.Goals as goal

pub returns-clause-first : goal.returns-clause-first
returns-clause-first g c = first_incarnation g.D.Disk.kind c.few_stand_behind.ensures.behind

pub returns-clause-none : goal.returns-clause-none
returns-clause-none g c = none_is_reopened g.D.Disk.kind g.met.D.Disk.honest_tells g.met.D.Disk.sees_an_image c.stands_for_one.ensures

pub returns-clause-alone : goal.returns-clause-alone
returns-clause-alone g c = no_engine_is_opened g.D.Disk.kind g.met.D.Disk.honest_tells g.met.D.Disk.sees_an_image c.stands_for_one.ensures

pub returns-clause-more : goal.returns-clause-more
returns-clause-more g c =
    one_more_incarnation g.D.Disk.kind g.met.D.Disk.honest_tells g.met.D.Disk.sees_an_image c.stands_for_one.ensures
    c.replays_go_on.ensures c.replays_have_orders.ensures c.kept_carries.ensures c.few_stand_behind.ensures.behind
