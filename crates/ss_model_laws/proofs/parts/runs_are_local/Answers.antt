use Rattle.ss_model_kept.proofs.CallerLemmas.{run_is_local}
use Rattle.ss_model_laws.proofs.parts.runs_are_local.Goals as goal

pub returns : goal.returns
returns c = λ catalog q p args batches inside inside_w uses. run_is_local catalog q p args batches inside inside_w uses
