use Rattle.std.proofs.Common.{sym, ap, ◌∙◌}
use Rattle.ss_table.specs.Near.{without_hint}
use Rattle.ss_plan.proofs.Slots.{next_is, some_is}
use Rattle.ss_plan.proofs.visible.next_slot.Goals as goal

pub after_near-requires : goal.after_near-requires
after_near-requires c = some_is c.args.rows.now.live c.rows_are_keyed.ensures.apart c.args.at c.requires

pub returns-in-None : goal.returns-in-None
returns-in-None c = λ row behind stands. sym (ap without_hint c.in-None.is) ∙ c.after_near.ensures ∙ next_is c.args.rows.now.live c.rows_are_keyed.ensures.apart c.args.at row behind stands

pub returns-in-Some : goal.returns-in-Some
returns-in-Some c = λ row behind stands. sym (ap without_hint c.in-Some.is) ∙ c.after_near.ensures ∙ next_is c.args.rows.now.live c.rows_are_keyed.ensures.apart c.args.at row behind stands
