use Rattle.std.proofs.Common.{sym, ◌∙◌, ap}
use Rattle.std.specs.Option.{option_copied}
use Rattle.ss_rows.proofs.Lent.{looked_up, column_there, column_past}
use Rattle.ss_rows.proofs.lent_rows.lent_column.Goals as goal

pub returns-in-Some : goal.returns-in-Some
returns-in-Some c =
    let there = sym (looked_up c.args.items.now c.args.column c.get.result c.get.ensures.lookup.0 c.get.ensures.lookup.1) ∙ ap option_copied c.in-Some.is in
    c.lent_item.ensures ∙ column_there c.args.params.now c.args.items.now c.args.here c.args.column c.in-Some.item.now there

pub returns-in-None : goal.returns-in-None
returns-in-None c =
    let none = sym (looked_up c.args.items.now c.args.column c.get.result c.get.ensures.lookup.0 c.get.ensures.lookup.1) ∙ ap option_copied c.in-None.is in
    c.requires ∙ column_past c.args.params.now c.args.items.now c.args.here c.args.column none
