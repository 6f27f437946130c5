use Rattle.std.proofs.Common.{◌<◌, None, length, set, ap, ◌∙◌, arith, add-one}
use Rattle.ss_lemmas.proofs.Mapped.{mapped-more}
use Rattle.ss_core.proofs.faults.drop_hands.Goals as goal

pub loop-part-preserved : goal.loop-part-preserved
loop-part-preserved c =
    let within : c.loop-part.part < length c.args.hands.now = let e = c.len-part-end.ensures in let t = c.loop-part-test.true in omega arith in
    c.put-hand.ensures.new ∙ ap (λ hands. set hands c.loop-part.part None) c.loop-part.invariant ∙ rw add-one (mapped-more (λ hand. None) c.args.hands.now c.loop-part.part None within)
