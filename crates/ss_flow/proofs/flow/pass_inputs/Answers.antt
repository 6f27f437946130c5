use Rattle.std.proofs.Common.{◌+◌, drop, get_or, subst, List, ℕ}
use Rattle.std.proofs.lemmas.List.{at_drop_more}
use Rattle.ss_flow.proofs.Passing.{IsPassing, one_passed}
use Rattle.ss_flow.proofs.flow.pass_inputs.Goals as goal

pub loop-input-preserved : goal.loop-input-preserved
loop-input-preserved c =
    let inputs = c.args.inputs.now in
    let i = c.loop-input.input-index in
    let split = at_drop_more (λ (xs : List ℕ). xs) inputs i 0 c.loop-input-test.true in
    let still = subst (λ (rest : List ℕ). IsPassing c.args.procedure inputs rest c.args.streams.now c.loop-input.streams) split c.loop-input.invariant in
    one_passed c.args.procedure (get_or inputs i 0) inputs (drop (i + 1) inputs) c.args.streams.now c.loop-input.streams still c.pass.new.self c.pass.ensures.passed c.pass.ensures.room c.pass.ensures.elsewhere
