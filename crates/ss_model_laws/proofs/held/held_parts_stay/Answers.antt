use Rattle.ss_model_laws.proofs.HeldParts.{held_part_stays}
use Rattle.ss_model_laws.proofs.held.held_parts_stay.Goals as goal

pub returns : goal.returns
returns c = λ catalog n held db p h. held_part_stays catalog n p held h db
