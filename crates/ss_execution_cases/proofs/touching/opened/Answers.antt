use Rattle.ss_model.specs.Database.{empty_database}
use Rattle.ss_execution_cases.proofs.touching.opened.Goals as goal

pub returns-in-Ok-split : goal.returns-in-Ok-split
returns-in-Ok-split c =
    let was = c.in-Ok-split.ensures.ok in
    let empty = empty_database c.args.catalog.now in
    (was.shards_are, (empty, was.holds empty (c.in-Ok.ensures.stands).shard))
