use Rattle.ss_model_laws.proofs.Sound.{typing_is_sound}
use Rattle.ss_model_laws.proofs.runs.well_typed_are_sound.Goals as goal

pub returns : goal.returns
returns c = λ sources columns here params rows args e t typed. typing_is_sound sources columns here params rows args e t typed
