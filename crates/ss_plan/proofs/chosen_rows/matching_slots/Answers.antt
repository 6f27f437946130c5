use Rattle.std.proofs.Common.{◌≡◌, ◌∷◌, [], map, Ok}
use Rattle.ss_lemmas.proofs.Results.{if_ok}
use Rattle.ss_model.specs.Contents.{visible_table}
use Rattle.ss_model.specs.Queries.{where_passes}
use Rattle.ss_model.specs.Results.{try_filter}
use Rattle.ss_model.specs.Statements.{matching_entries}
use Rattle.ss_model.specs.Stops.{StopsAs}
use Rattle.ss_sql_trees.specs.declared.typed.SourceId.TheVariants.{Table as FromTable}
use Rattle.ss_rows.specs.Sources.{Positioned}
use Rattle.ss_shard.specs.Contents.{contents_of}
use Rattle.ss_plan.specs.Seen.{positioned_in, value_behind}
use Rattle.ss_plan.specs.Scans.{slots_passing}
use Rattle.ss_plan.specs.Statements.{Matches}
use Rattle.ss_plan.proofs.Answering.{held_at, err_so}
use Rattle.ss_plan.proofs.Matching.{matched, unmatched}
use Rattle.ss_plan.proofs.chosen_rows.matching_slots.Goals as goal

pub returns-clause-ok : goal.returns-clause-ok
returns-clause-ok c =
    let catalog = c.args.from.catalog.now in
    let shard = c.args.from.shard.now in
    let batches = (c.args.from.inputs).batches.now in
    let inserted = (c.args.from.inputs).inserted.now in
    let split = value_behind c.args.from.split in
    let h = held_at catalog shard.tables c.requires.tables c.args.table c.requires.there in
    if_ok
    (λ slots. (found : Positioned) × (try_filter (λ p. where_passes c.args.params.now c.args.test.now (p.1 ∷ [])) (positioned_in catalog split batches inserted shard (FromTable c.args.table)) ≡ Ok found) × (slots_passing slots ≡ map (λ p. p.0) found))
    (λ slots. Matches catalog split shard c.args.table c.args.params.now c.args.test.now (slots_passing slots))
    (λ slots f. matched catalog batches inserted shard c.requires.tables c.requires.keyed split c.args.table h.0 h.1 c.args.params.now c.args.test.now f.0 (slots_passing slots) f.1 f.2)
    c.planned_positions.result c.planned_positions.ensures.ok

pub returns-clause-stops : goal.returns-clause-stops
returns-clause-stops c =
    let catalog = c.args.from.catalog.now in
    let shard = c.args.from.shard.now in
    let batches = (c.args.from.inputs).batches.now in
    let inserted = (c.args.from.inputs).inserted.now in
    let split = value_behind c.args.from.split in
    let h = held_at catalog shard.tables c.requires.tables c.args.table c.requires.there in
    err_so
    (λ stop. StopsAs (try_filter (λ p. where_passes c.args.params.now c.args.test.now (p.1 ∷ [])) (positioned_in catalog split batches inserted shard (FromTable c.args.table))) stop)
    (λ stop. StopsAs (matching_entries c.args.params.now c.args.test.now (visible_table catalog split (contents_of shard) c.args.table)) stop)
    (λ stop f. unmatched catalog batches inserted shard c.requires.tables c.requires.keyed split c.args.table h.0 h.1 c.args.params.now c.args.test.now stop f)
    c.planned_positions.result c.planned_positions.ensures.stops
