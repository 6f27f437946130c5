use Rattle.ss_model.proofs.CallerLemmas.{applied_fits}
use Rattle.ss_model_laws.proofs.entries.applied_fits.Goals as goal

pub returns : goal.returns
returns c = λ catalog db e a is. applied_fits catalog db e a is
