use Rattle.ss_table.proofs.Wide.{other_part}
use Rattle.ss_table.proofs.Limits.{place_first, place_other, place_none}
use Rattle.ss_table.proofs.table.parts.other_place.Goals as goal

pub returns-then-first-number-clause-none : goal.returns-then-first-number-clause-none
returns-then-first-number-clause-none c = place_first c.args.first.now c.args.others.now c.args.number c.if-first-number.true

pub returns-clause-some : goal.returns-clause-some
returns-clause-some c = place_other c.args.first.now c.args.others.now c.args.number c.position_of.result (other_part _ _ c.if-first-number.false) c.position_of.ensures

pub returns-clause-none : goal.returns-clause-none
returns-clause-none c = place_none c.args.first.now c.args.others.now c.args.number c.position_of.result (other_part _ _ c.if-first-number.false) c.position_of.ensures
