use Rattle.ss_model_laws.proofs.SplitParts.{each_stands_once}
use Rattle.ss_model_laws.proofs.held.splits_once.Goals as goal

pub returns : goal.returns
returns c = λ catalog n some db. each_stands_once catalog n some db
