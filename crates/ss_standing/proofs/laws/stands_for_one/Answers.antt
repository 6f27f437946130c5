use Rattle.ss_standing.proofs.OneThing.{one_thing}
use Rattle.ss_standing.proofs.laws.stands_for_one.Goals as goal

pub returns : goal.returns
returns c = λ catalog. one_thing c.kept_carries.ensures catalog c.files_stand_for_one_thing.ensures.files
