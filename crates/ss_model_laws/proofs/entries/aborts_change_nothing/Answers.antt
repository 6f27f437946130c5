use Rattle.ss_model_laws.proofs.Aborted.{abort_leaves}
use Rattle.ss_model_laws.proofs.entries.aborts_change_nothing.Goals as goal

pub returns : goal.returns
returns c = λ catalog db e a is aborted. abort_leaves catalog db e a is aborted
