use Rattle.ss_model_laws.proofs.WholeDatabase.{had_at_most}
use Rattle.ss_model_laws.proofs.whole.batches_are_bounded.Goals as goal

pub returns : goal.returns
returns c = λ catalog accepted db h n lengths list. had_at_most catalog accepted db h n lengths list
