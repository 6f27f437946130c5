use Rattle.std.proofs.Common.{List, slice_set, subst}
use Rattle.ss_commitlog.specs.declared.rule.Item.{Item}
use Rattle.ss_commitlog.specs.Tokens.{Continues}
use Rattle.ss_hand.proofs.GoingOn.{in_hand_on, first_goes_on, first_roles, first_in}
use Rattle.ss_hand.proofs.meeting.show_note.Goals as goal

pub returns-clause-in_hand : goal.returns-clause-in_hand
returns-clause-in_hand g c = λ held hand.
    let marks = c.args.hand.now.marks in
    let old = c.in-Some.mark.now in
    let new = c.meet.new.mark in
    in_hand_on g.I.Life.catalog c.requires.accepted g.I.Life.parts c.requires.parts g.I.Life.opening held c.args.hand.now (slice_set marks 0 new)
    (first_roles marks old new c.in-Some.ensures.item c.meet.ensures.mark.role)
    (first_goes_on g.I.Life.catalog g.I.Life.parts g.I.Life.limit marks old new c.in-Some.ensures.item c.meet.ensures.mark) hand

pub returns-clause-one : goal.returns-clause-one
returns-clause-one g c = (
  c.in-Some.mark.now,
  first_in c.args.hand.now.marks c.in-Some.mark.now c.in-Some.ensures.item,
  subst (λ (list : List Item). Continues g.I.Life.catalog g.I.Life.parts list c.in-Some.mark.now) c.meet.ensures.one.0 c.meet.ensures.mark.goes_on,
)
