use Rattle.std.proofs.Common.{◌∙◌, sym}
use Rattle.ss_lemmas.proofs.LoopItem.{next}
use Rattle.ss_audit.proofs.Placing.{found_here, one_passed}
use Rattle.ss_audit.proofs.asked.procedure_named.Goals as goal

pub loop-number-preserved : goal.loop-number-preserved
loop-number-preserved c =
    let all = c.args.procedures.now in
    let i = c.loop-number.number in
    let p = c.index-procedures-number.result in
    let here = next all i p c.loop-number-test.true c.index-procedures-number.is in
    sym (one_passed c.args.name.now all i p here (sym c.is_named.ensures ∙ c.if-is_named.false)) ∙ c.loop-number.invariant

pub returns-then-is_named : goal.returns-then-is_named
returns-then-is_named c =
    let all = c.args.procedures.now in
    let i = c.loop-number.number in
    let p = c.index-procedures-number.result in
    let here = next all i p c.loop-number-test.true c.index-procedures-number.is in
    sym (found_here c.args.name.now all i p here (sym c.is_named.ensures ∙ c.if-is_named.true)) ∙ c.loop-number.invariant
