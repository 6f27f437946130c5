use Rattle.ss_plan.proofs.Fronts.{run_decides}
use Rattle.ss_plan.proofs.laws.the_front_decides.Goals as goal

pub returns : goal.returns
returns c = λ params test row fails. run_decides params test row fails
