use Rattle.ss_model.proofs.CallerLemmas.{fitting_applies}
use Rattle.ss_model_laws.proofs.entries.fitting_applies.Goals as goal

pub returns : goal.returns
returns c = λ catalog db e fits ready. fitting_applies catalog db e fits ready
