use Rattle.ss_standing.proofs.OneThing.{stands_for_one_text}
use Rattle.ss_standing.proofs.laws.stands_for_one_text.Goals as goal

pub returns : goal.returns
returns c = stands_for_one_text c.files_stand_for_one_thing.ensures.files
