use Rattle.ss_model_laws.proofs.QuerySound.{query_sound}
use Rattle.ss_model_laws.proofs.runs.queries_are_sound.Goals as goal

pub returns : goal.returns
returns c = λ s rows params q into args outer inner typed fit. query_sound s rows params q into args outer inner typed fit
