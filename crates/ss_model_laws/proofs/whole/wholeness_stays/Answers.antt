use Rattle.ss_model_kept.proofs.CallerLemmas.{from_kept}
use Rattle.ss_model_laws.proofs.WholeDatabase.{kept_is_whole}
use Rattle.ss_model_laws.proofs.whole.wholeness_stays.Goals as goal

pub returns : goal.returns
returns c = λ catalog x y same whole. kept_is_whole catalog x y (from_kept catalog x y same) whole
