use Rattle.std.proofs.Common.{ap, sym, ◌∙◌}
use Rattle.ss_plan.specs.Found.{rows_found}
use Rattle.ss_plan.specs.Plans.{seen_with}
use Rattle.ss_plan.specs.Seen.{value_behind}
use Rattle.ss_plan.specs.Keys.{key_sought}
use Rattle.ss_plan.proofs.Keyed.{found_by_key}
use Rattle.ss_plan.proofs.key.row_by_values.Goals as goal

pub returns-in-Some : goal.returns-in-Some
returns-in-Some c =
    found_by_key c.args.from.catalog.now c.args.from.shard.now.tables c.requires.tables (value_behind c.args.from.split) c.args.table c.args.params.now c.args.test.now c.in-Some.key
    (rows_found c.at_most_one.result)
    (ap (key_sought c.args.params.now c.args.test.now) c.requires.key ∙ sym c.in_ok-sought_key.ensures ∙ c.in-Some.is)
    (c.at_most_one.ensures ∙ c.seen_with.ensures ∙ ap (seen_with c.args.from c.args.table) c.as_slice.ensures)
