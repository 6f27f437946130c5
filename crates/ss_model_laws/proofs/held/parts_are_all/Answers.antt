use Rattle.ss_model_laws.proofs.PartsAreAll.{parts_are_all}
use Rattle.ss_model_laws.proofs.held.parts_are_all.Goals as goal

pub returns : goal.returns
returns c = λ catalog n x y same. parts_are_all catalog n x y same
