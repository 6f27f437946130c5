use Rattle.std.proofs.Common.{◌≡◌, ◌<◌, true, Some, length, slice_get, arith, ap, refl, rules}
use Rattle.std.specs.Int.{IsBitSet}
use Rattle.ss_model.specs.Wakes.{wakes}
use Rattle.ss_sched.proofs.Waking.{woken_is, wakes_within, marks_more, marks_same}
use Rattle.ss_sched.proofs.LoopItem.{item_there}
use Rattle.ss_model.proofs.CallerLemmas.{few_procedures, few_streams}
use Rattle.ss_sched.proofs.Inputs.{inputs_below}
use Rattle.ss_sched.proofs.wake.wake_list.Goals as goal
use Rattle.ss_sched.proofs.wake.wake_list.Goals.{then-takes_any, else-takes_any}

pub overflow_cast-number : goal.overflow_cast-number
overflow_cast-number c =
    let few = few_procedures c.args.catalog.now c.requires.accepted.form in
    let long = ap length c.as_slice-procedure-items.ensures in
    let lt : c.loop-number.number < 256 = omega arith in
    search rules

pub insert-requires : goal.insert-requires
insert-requires c =
    let few = few_procedures c.args.catalog.now c.requires.accepted.form in
    let long = ap length c.as_slice-procedure-items.ensures in
    omega arith

pub loop-number-init : goal.loop-number-init
loop-number-init c = λ q. (λ has. absurd (has (rw c.empty-woken.ensures refl)), λ h. absurd (let lt = h.0 in omega arith))

pub loop-number-preserved : goal.loop-number-preserved
loop-number-preserved c =
    let catalog = c.args.catalog.now in
    let e = c.args.entry.now in
    let n = c.loop-number.number in
    let d = c.procedure-item.result in
    let within : n < length catalog.procedures = rw (← c.as_slice-procedure-items.ensures) c.loop-number-test.true in
    let here : slice_get catalog.procedures n ≡ Some d = item_there _ catalog.procedures n d c.as_slice-procedure-items.ensures c.loop-number-test.true c.procedure-item.is in
    let is = woken_is catalog c.requires.accepted.structure.streams.wired e n d here (IsBitSet c.entry_outputs-streams.result) c.entry_outputs-streams.ensures in
    elim c.if-takes_any.branch [
      | then-takes_any w ↦ rw w.woken-is (marks_more (IsBitSet c.loop-number.woken) (IsBitSet w.insert.new.self) (λ q. wakes catalog e q ≡ true) n c.loop-number.invariant (is.0 (c.takes_any.ensures.0 w.if-takes_any.true)) w.insert.ensures)
      | else-takes_any w ↦ rw w.woken-is (marks_same (IsBitSet c.loop-number.woken) (λ q. wakes catalog e q ≡ true) n c.loop-number.invariant (λ t. let t2 = c.takes_any.ensures.1 (is.1 t) in let f = w.if-takes_any.false in cc))
    ]

pub returns : goal.returns
returns c = λ q.
    let long = ap length c.as_slice-procedure-items.ensures in (
      λ has. ((c.loop-number.invariant q).0 has).1,
      λ is. (c.loop-number.invariant q).1 (let below = wakes_within c.args.catalog.now c.args.entry.now q is in let done = c.loop-number-test.false in omega arith, is),
    )

pub takes_any-requires : goal.takes_any-requires
takes_any-requires c =
    let catalog = c.args.catalog.now in
    let n = c.loop-number.number in
    let d = c.procedure-item.result in
    let here : slice_get catalog.procedures n ≡ Some d = item_there _ catalog.procedures n d c.as_slice-procedure-items.ensures c.loop-number-test.true c.procedure-item.is in
    let few = few_streams catalog c.requires.accepted.form in
    inputs_below catalog c.requires.accepted 64 n d (omega arith) here
