use Rattle.std.proofs.Common.{◌<◌, length, set, ap, ◌∙◌, arith, add-one}
use Rattle.ss_lemmas.proofs.Mapped.{mapped-more}
use Rattle.ss_core.proofs.faults.know_all.Goals as goal

pub loop-part-preserved : goal.loop-part-preserved
loop-part-preserved c =
    let within : c.loop-part.part < length c.args.known.now = let e = c.len-part-end.ensures in let t = c.loop-part-test.true in omega arith in
    c.put-old.ensures.new ∙ ap (λ known. set known c.loop-part.part c.args.count) c.loop-part.invariant ∙ rw add-one (mapped-more (λ old. c.args.count) c.args.known.now c.loop-part.part 0 within)
