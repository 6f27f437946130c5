use Rattle.ss_model_laws.proofs.Advanced.{steps_move}
use Rattle.ss_model_laws.proofs.entries.steps_move_on.Goals as goal

pub returns : goal.returns
returns c = λ catalog db q r a shape is. steps_move catalog db q r a shape is
