use Rattle.std.proofs.Common.{◌≡◌, ◌<◌, ◌∙◌, ℕ, true, Some, slice_get, length, ap, subst, arith}
use Rattle.std.specs.List.{list_any}
use Rattle.ss_model.specs.Database.{emits_to}
use Rattle.ss_model.specs.Orders.{procedure_has, procedure_emits}
use Rattle.ss_model.proofs.CallerLemmas.{few_streams}
use Rattle.ss_sched.proofs.wake.entry_outputs.Goals as goal

pub body_outputs-requires : goal.body_outputs-requires
body_outputs-requires c = λ s emits.
    let catalog = c.args.catalog.now in
    let d = c.at-found.result.now in
    let p = c.in-Step.procedure in
    let here : slice_get catalog.procedures p ≡ Some d = subst (λ (k : ℕ). slice_get catalog.procedures k ≡ Some d) c.from.ensures c.at-found.ensures in
    let em : procedure_emits catalog p s ≡ true = ap (procedure_has (λ d. list_any (emits_to s) d.body)) here ∙ rw c.as_slice.ensures at emits in
    let within : s < length catalog.streams = c.requires.accepted.structure.streams.wired.emits_there p s em in
    let few = few_streams catalog c.requires.accepted.form in
    omega arith
