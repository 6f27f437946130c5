use Rattle.std.proofs.Common.{sym, refl, ◌∙◌}
use Rattle.std.proofs.lemmas.Option.{slice_get_read}
use Rattle.ss_table.proofs.Wide.{own_other, own_none, other_part, found_within}
use Rattle.ss_table.proofs.table.parts.own.Goals as goal

pub returns-in-Some : goal.returns-in-Some
returns-in-Some c = own_other c.args.first.now c.index-others-at.result c.args.others.now c.args.number c.in-Some.at (other_part _ _ c.if-first-number.false) (sym c.position_of.ensures ∙ c.in-Some.is)
    (slice_get_read c.args.others.now _ c.in-Some.at _ refl (found_within _ c.args.others.now c.in-Some.at (sym c.position_of.ensures ∙ c.in-Some.is)) c.index-others-at.is)

pub returns-in-None : goal.returns-in-None
returns-in-None c = own_none c.args.first.now c.args.others.now c.args.number (other_part _ _ c.if-first-number.false) (sym c.position_of.ensures ∙ c.in-None.is)
