use Rattle.ss_nest_laws.proofs.Nested.{steps_run_members}
use Rattle.ss_nest_laws.proofs.steps.nest_steps_run_members.Goals as goal

pub returns : goal.returns
returns c = steps_run_members
