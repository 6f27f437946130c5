use Rattle.ss_model_kept.proofs.KeptDatabase.{kept_is_enough}
use Rattle.ss_model_kept.proofs.kept.kept_is_enough.Goals as goal

pub returns : goal.returns
returns c = λ catalog x y same e. kept_is_enough catalog x y same e
