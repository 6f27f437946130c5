use Rattle.ss_fronts.proofs.Growing.{fronts_grow}
use Rattle.ss_fronts.proofs.laws.fronts_grow.Goals as goal

pub returns : goal.returns
returns c = fronts_grow c.files_stand_for_one_thing.ensures.files
