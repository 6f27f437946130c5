use Rattle.ss_turns.proofs.Ended.{listed_so}
use Rattle.ss_turns.proofs.running.end.Goals as goal

pub returns-in-Ok : goal.returns-in-Ok
returns-in-Ok c = λ catalog n old l batches emitted run says.
    listed_so catalog n old c.args.shard.now c.commit.new.shard l batches emitted run c.args.said.now c.in-Ok.placed c.in-Ok.is says (c.commit.ensures.keeps catalog run.of_catalog) c.commit.ensures.unchanged c.commit.ensures.dealt (c.commit.ensures.committed catalog run.of_catalog)
