use Rattle.std.proofs.Common.{◌≡◌, [], Some, ap, sym, ◌∙◌, slice_get}
use Rattle.std.specs.Option.{option_copied}
use Rattle.ss_model.specs.Contents.{key_columns}
use Rattle.ss_plan.specs.Found.{rows_found}
use Rattle.ss_plan.specs.Seen.{value_behind}
use Rattle.ss_plan.specs.Keys.{in_front, key_sought}
use Rattle.ss_plan.proofs.Keyed.{found_by_key}
use Rattle.ss_plan.proofs.key.row_by_value.Goals as goal

pub returns : goal.returns
returns c =
    let catalog = c.args.from.catalog.now in
    let key = c.from_ref-key.result.now in
    let sought : key_sought c.args.params.now c.args.test.now (key_columns (slice_get catalog.tables c.args.table)) ≡ Some key =
    ap (key_sought c.args.params.now c.args.test.now) c.requires.key
    ∙ ap (λ v. in_front v (Some [])) (sym c.lent_bound.ensures ∙ ap option_copied c.in-Some.is)
    ∙ ap Some (sym c.from_ref-key.ensures.value) in
    found_by_key catalog c.args.from.shard.now.tables c.requires.tables (value_behind c.args.from.split) c.args.table c.args.params.now c.args.test.now key
    (rows_found c.at_most_one.result) sought (c.at_most_one.ensures ∙ c.seen_with.ensures)
