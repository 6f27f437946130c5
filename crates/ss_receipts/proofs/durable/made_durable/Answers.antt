use Rattle.std.proofs.Common.{◌+◌, ◌∙◌, List, length, ap, arith}
use Rattle.ss_commitlog.specs.declared.rule.Item.{Item}
use Rattle.ss_receipts.proofs.Keepers.{durable_less, no_shorter}
use Rattle.ss_receipts.proofs.Tokens.{follows_twice}
use Rattle.ss_receipts.proofs.durable.made_durable.Goals as goal

pub returns-clause-mark : goal.returns-clause-mark
returns-clause-mark g c =
    follows_twice g.I.Life.catalog g.I.Life.parts g.I.Life.limit c.args.mark.now c.with_rest.new.mark c.shown_to-2.new.mark c.with_rest.ensures.mark c.shown_to-2.ensures.mark

pub returns-clause-answer : goal.returns-clause-answer
returns-clause-answer g c =
    let longer = no_shorter g.I.Life.catalog g.I.Life.parts g.I.Life.limit c.args.mark.now c.with_rest.new.mark c.with_rest.ensures.mark in
    let same = ap (λ (list : List Item). length list) c.with_rest.ensures.one.0 in
    durable_less c.args.wanted (g.I.Life.first + length c.with_rest.new.keeper.note.list) c.flushed-answer.new.keeper.count c.shown_to-2.new.mark.count c.flushed-answer.new.keeper.note.faults c.shown_to-2.new.mark.faults c.flushed-answer.result
    (omega (arith, c.requires.wanted, longer, same)) (c.shown_to-2.ensures.seen.0 ∙ c.shown_to-2.ensures.keeper.1) (c.shown_to-2.ensures.seen.1 ∙ c.shown_to-2.ensures.keeper.2) c.flushed-answer.ensures.answer
