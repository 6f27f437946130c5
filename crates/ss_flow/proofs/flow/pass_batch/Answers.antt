use Rattle.std.proofs.Common.{◌≡◌, Some, slice_get, subst}
use Rattle.ss_flow.proofs.Passing.{inputs_may, inputs_sound}
use Rattle.ss_flow.proofs.flow.pass_batch.Goals as goal

at : (c : goal.After-as_slice) → slice_get c.args.catalog.now.procedures c.in-Step.procedure ≡ Some c.in-Some.found.now
at c = subst (λ n. slice_get c.args.catalog.now.procedures n ≡ Some c.in-Some.found.now) c.from.ensures c.in-Some.ensures.item

pub pass_inputs-requires-clause-there : goal.pass_inputs-requires-clause-there
pass_inputs-requires-clause-there c =
    rw (c.as_slice.ensures, c.requires.many) (inputs_sound c.args.catalog.now c.requires.accepted c.in-Step.procedure c.in-Some.found.now (at c)).there

pub pass_inputs-requires-clause-distinct : goal.pass_inputs-requires-clause-distinct
pass_inputs-requires-clause-distinct c =
    rw c.as_slice.ensures (inputs_sound c.args.catalog.now c.requires.accepted c.in-Step.procedure c.in-Some.found.now (at c)).distinct

pub pass_inputs-requires-clause-next : goal.pass_inputs-requires-clause-next
pass_inputs-requires-clause-next c =
    let next = rw c.in-Step.is at c.requires.next in
    rw c.as_slice.ensures (inputs_may c.args.catalog.now c.in-Step.procedure c.in-Step.batch c.args.streams.now c.in-Some.found.now (at c) c.requires.accepted next)
