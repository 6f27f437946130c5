use Rattle.std.proofs.Common.{◌∙◌}
use Rattle.ss_shard.proofs.CallerLemmas.{dealt_after}
use Rattle.ss_execution_cases.proofs.executions.words_after.Goals as goal

pub returns-clause-dealt : goal.returns-clause-dealt
returns-clause-dealt c = c.commit.ensures.dealt ∙ dealt_after c.args.shard.now c.execute.new.shard c.in_ok-executed.ensures.back
