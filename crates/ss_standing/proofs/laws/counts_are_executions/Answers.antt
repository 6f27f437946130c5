use Rattle.ss_standing.proofs.Keeping.{counts_executions}
use Rattle.ss_standing.proofs.laws.counts_are_executions.Goals as goal

pub returns : goal.returns
returns c = counts_executions c.files_stand_for_one_thing.ensures.files
