use Rattle.std.proofs.Common.{◌∙◌}
use Rattle.std.specs.FinMap as finmap
use Rattle.ss_snapshot.proofs.WholeRead.{none_there}
use Rattle.ss_snapshot.proofs.reading.database.opened_shard.Goals as goal

pub returns-in-Ok-clause-empty : goal.returns-in-Ok-clause-empty
returns-in-Ok-clause-empty c = c.in-Ok.ensures.stands.shard.contents.tables ∙ none_there c.args.catalog.now.tables finmap.empty
