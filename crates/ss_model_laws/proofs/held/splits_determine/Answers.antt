use Rattle.ss_model_laws.proofs.SplitParts.{splits_determine}
use Rattle.ss_model_laws.proofs.held.splits_determine.Goals as goal

pub returns : goal.returns
returns c = λ catalog n some x y same. splits_determine catalog n some x y same
