use Rattle.ss_model_laws.proofs.KeptLists.{kept_carries}
use Rattle.ss_model_laws.proofs.kept.kept_carries.Goals as goal

pub returns : goal.returns
returns c = λ catalog x y k list. kept_carries catalog x y k list
