use Rattle.std.proofs.Common.{sym, ap, ◌∙◌}
use Rattle.std.specs.FinMap as finite
use Rattle.ss_table.specs.Near.{without_hint}
use Rattle.ss_plan.proofs.Slots.{first_is}
use Rattle.ss_plan.proofs.visible.first_slot.Goals as goal

pub returns-in-None : goal.returns-in-None
returns-in-None c = sym (ap without_hint c.in-None.is) ∙ c.first_near.ensures ∙ first_is (finite.entries c.args.rows.now.live)

pub returns-in-Some : goal.returns-in-Some
returns-in-Some c = sym (ap without_hint c.in-Some.is) ∙ c.first_near.ensures ∙ first_is (finite.entries c.args.rows.now.live)
