use Rattle.ss_model.proofs.CallerLemmas.{goes_on}
use Rattle.ss_model_laws.proofs.lists.replays_go_on.Goals as goal

pub returns : goal.returns
returns c = λ catalog db first rest. goes_on catalog db first rest
