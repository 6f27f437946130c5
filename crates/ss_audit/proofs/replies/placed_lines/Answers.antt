use Rattle.std.proofs.Common.{◌∙◌, sym, ap}
use Rattle.ss_lemmas.proofs.LoopItem.{next}
use Rattle.ss_audit.proofs.Placing.{one_line}
use Rattle.ss_audit.specs.Positions.{asked_by, placed_lines}
use Rattle.ss_audit.proofs.replies.placed_lines.Goals as goal

pub loop-position-preserved : goal.loop-position-preserved
loop-position-preserved c =
    let all = c.args.entries.now in
    let i = c.loop-position.position in
    let l = c.index-entries-position.result in
    let here = next all i l c.loop-position-test.true c.index-entries-position.is in
    rw c.in_ok-place.ensures
    (one_line all i l c.loop-position.placed.items (placed_lines 0 all) c.asked_by.result here (sym (c.asked_by.ensures ∙ ap asked_by c.in_ok-kind.ensures)) c.loop-position.invariant)
