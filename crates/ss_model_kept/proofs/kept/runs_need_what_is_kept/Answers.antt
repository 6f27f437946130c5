use Rattle.ss_model_kept.proofs.KeptDatabase.{contents_kept}
use Rattle.ss_model_kept.proofs.kept.runs_need_what_is_kept.Goals as goal

pub returns : goal.returns
returns c = λ catalog q p args batches s z same. contents_kept catalog q p args batches s z same
