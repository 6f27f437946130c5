use Rattle.ss_nest_laws.proofs.Nested.{runs_as_members}
use Rattle.ss_nest_laws.proofs.steps.nests_run_as_members.Goals as goal

pub returns : goal.returns
returns c = runs_as_members
