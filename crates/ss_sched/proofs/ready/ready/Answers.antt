use Rattle.std.proofs.Common.{◌≡◌, ◌∙◌, ℕ, true, false, Some, slice_get, subst, sym}
use Rattle.ss_model.specs.Database.{is_streaming}
use Rattle.ss_sched.proofs.Readiness.{inputs_are_streams, call_or_streams, ready_is}
use Rattle.ss_sched.proofs.ready.ready.Goals as goal

pub all_have-requires : goal.all_have-requires
all_have-requires c =
    let catalog = c.args.catalog.now in
    let here : slice_get catalog.procedures c.args.procedure ≡ Some c.at-found.result.now = subst (λ (k : ℕ). slice_get catalog.procedures k ≡ Some c.at-found.result.now) c.from.ensures c.at-found.ensures in
    rw c.as_slice.ensures (inputs_are_streams catalog c.args.streams.now.streams c.args.procedure c.at-found.result.now c.requires.accepted c.requires.streams here)

pub returns : goal.returns
returns c = λ db progress.
    let catalog = c.args.catalog.now in
    let here : slice_get catalog.procedures c.args.procedure ≡ Some c.at-found.result.now = subst (λ (k : ℕ). slice_get catalog.procedures k ≡ Some c.at-found.result.now) c.from.ensures c.at-found.ensures in
    let streams : is_streaming c.at-found.result.now.kind ≡ true = call_or_streams c.at-found.result.now.kind false (sym c.is_call.ensures ∙ c.if-is_call.false) in
    rw (ready_is catalog db c.args.cursors.now c.args.streams.now.streams c.args.procedure c.at-found.result.now progress here, streams, ← c.as_slice.ensures, ← c.from-2.ensures) c.all_have.ensures
