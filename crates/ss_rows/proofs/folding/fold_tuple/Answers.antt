use Rattle.std.proofs.Common.{◌≡◌, ◌<◌, ◌≤◌, ◌++◌, List, take, drop, length, ap, sym, ◌∙◌, subst, arith}
use Rattle.std.proofs.Math.Seq.{take-append_seam}
use Rattle.ss_rows.specs.Folds.{IsNext, TupleFolded}
use Rattle.ss_rows.specs.Tuples.{tuple_of}
use Rattle.ss_rows.specs.declared.item_states.ItemState.{ItemState}
use Rattle.ss_rows.proofs.Folds.{folded_more, folded_upto_all}
use Rattle.ss_rows.proofs.folding.fold_tuple.Goals as goal

pub loop-state-preserved : goal.loop-state-preserved
loop-state-preserved c =
    let now = c.loop-state.state-items in
    let within : c.loop-state.state-index < length now = omega (arith, c.loop-state-test.true, c.loop-state.auto.state-items) in
    let here = tuple_of c.args.here in
    let next = subst (λ (state : ItemState). IsNext c.args.params.now here state c.in_ok-state.field-0) (sym c.state-item.is) c.in_ok-state.ensures in
    folded_more c.args.params.now here c.deref_mut-state-items.result.now c.loop-state.state-index now c.loop-state.invariant c.state-item.result c.in_ok-state.field-0 within c.state-item.is next

pub returns : goal.returns
returns c =
    let old = c.args.states.now.items in
    let now = c.loop-state.state-items in
    let here = tuple_of c.args.here in
    let begun : length c.deref_mut-state-items.result.now ≡ length old = ap length c.deref_mut-state-items.ensures.value in
    let same : length now ≡ length old = omega (arith, c.loop-state.auto.state-items, begun) in
    let past : length now ≤ c.loop-state.state-index = omega (arith, c.loop-state-test.false, c.loop-state.auto.state-items) in
    let all : take c.args.states.now.len (now ++ drop (length now) old) ≡ now = ap (λ n. take n (now ++ drop (length now) old)) (c.args.states.now.ok.0 ∙ sym same) ∙ take-append_seam now (drop (length now) old) in
    let folded = folded_upto_all c.args.params.now here c.deref_mut-state-items.result.now c.loop-state.state-index now c.loop-state.invariant past in
    subst (λ (new : List ItemState). TupleFolded c.args.params.now here old new) (sym all) (subst (λ (old : List ItemState). TupleFolded c.args.params.now here old now) c.deref_mut-state-items.ensures.value folded)
