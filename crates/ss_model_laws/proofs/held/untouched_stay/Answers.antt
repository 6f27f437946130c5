use Rattle.ss_model_laws.proofs.UntouchedStay.{untouched_stay}
use Rattle.ss_model_laws.proofs.held.untouched_stay.Goals as goal

pub returns : goal.returns
returns c = λ catalog accepted n some held e apart db a is. untouched_stay catalog accepted n some held e apart db a is
