use Rattle.ss_headline.proofs.Untouched.{uncalled, nothing_ran_stands}
use Rattle.ss_headline.proofs.laws.nothing_ran.Goals as goal

pub returns-clause-uncalled : goal.returns-clause-uncalled
returns-clause-uncalled g c = uncalled g.D.Disk.kind

pub returns-clause-stands : goal.returns-clause-stands
returns-clause-stands g c = nothing_ran_stands g.D.Disk.kind c.stands_for_one.ensures
