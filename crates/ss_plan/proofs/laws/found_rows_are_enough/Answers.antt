use Rattle.ss_plan.proofs.Finding.{same_passes}
use Rattle.ss_plan.proofs.laws.found_rows_are_enough.Goals as goal

pub returns : goal.returns
returns c = λ params test all some found. same_passes params test all some found
