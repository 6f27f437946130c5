use Rattle.ss_weak_lists.proofs.Stops.{loops_pass}
use Rattle.ss_weak_lists.proofs.laws.loops_pass_last.Goals as goal

pub returns : goal.returns
returns c = λ catalog accepted db in_step steps on q next place full. loops_pass catalog c.settling_terminates.ensures accepted db in_step steps on q next place full
