use Rattle.std.proofs.Common.{take_all, subst}
use Rattle.ss_rows.specs.Lent.{AreLent}
use Rattle.ss_rows.proofs.Lent.{lent_more}
use Rattle.ss_rows.proofs.limit_cut.are_lent.Goals as goal

pub loop-item-preserved : goal.loop-item-preserved
loop-item-preserved c =
    lent_more c.args.items.now c.loop-item.item-index c.item-item.result c.loop-item-test.true c.item-item.is c.loop-item.invariant (c.is_lent_item.ensures c.if-not-is_lent_item.false)

pub returns : goal.returns
returns c = λ _. subst AreLent (take_all c.loop-item.item-index c.args.items.now c.loop-item-test.false) c.loop-item.invariant
