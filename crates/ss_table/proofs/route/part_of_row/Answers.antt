use Rattle.std.proofs.Common.{◌≡◌, sym, ap, ◌∙◌, Some, slice_get}
use Rattle.std.specs.Option.{option_copied}
use Rattle.ss_table.specs.declared.route.Route.{Route}
use Rattle.ss_table.specs.TableValue.{key_of}
use Rattle.ss_table.specs.Routes.{optional_part, part_of}
use Rattle.ss_table.proofs.Keys.{looked_up, key_none, key_some}
use Rattle.ss_table.proofs.route.part_of_row.Goals as goal

pub returns-in-None : goal.returns-in-None
returns-in-None c =
    let found = looked_up c.args.key.now c.in-Split.place c.get.result c.get.ensures.lookup.0 c.get.ensures.lookup.1 in
    sym (ap (λ (r : Route). part_of r (key_of c.args.key.now c.args.row.now)) c.in-Split.is
    ∙ ap (optional_part c.in-Split.parts) (key_none c.args.key.now c.args.row.now c.in-Split.place c.requires.has_key (sym found ∙ ap option_copied c.in-None.is)))

pub returns-in-Some : goal.returns-in-Some
returns-in-Some c =
    let found = looked_up c.args.key.now c.in-Split.place c.get.result c.get.ensures.lookup.0 c.get.ensures.lookup.1 in
    let there = key_some c.args.key.now c.args.row.now c.in-Split.place c.in-Some.column.now c.requires.has_key (sym found ∙ ap option_copied c.in-Some.is) in
    c.optional_part.ensures ∙ ap (optional_part c.in-Split.parts) (c.get-in-Some.ensures.value ∙ ap (slice_get c.args.row.now) c.from.ensures ∙ sym there)
    ∙ sym (ap (λ (r : Route). part_of r (key_of c.args.key.now c.args.row.now)) c.in-Split.is)
