use Rattle.std.proofs.Common.{◌≡◌, ◌<◌, ◌∙◌, ℕ, List, false, Some, length, slice_get, arith, ap, sym, rules}
use Rattle.std.specs.List.{list_any}
use Rattle.ss_model.specs.declared.catalog.Step.{Step}
use Rattle.ss_model.specs.Database.{emits_to}
use Rattle.ss_model.specs.Orders.{procedure_emits}
use Rattle.ss_sched.proofs.LoopItem.{item_there}
use Rattle.ss_model.proofs.CallerLemmas.{few_procedures}
use Rattle.ss_sched.proofs.Ranking.{emits_at, emitter_found, no_emitter, one_more}
use Rattle.ss_sched.proofs.rank.emitting_procedure.Goals as goal

-- the stream of a number that was widened
at_stream : (body : List Step) (wide stream : ℕ) → wide ≡ stream → list_any (emits_to stream) body ≡ list_any (emits_to wide) body
at_stream body wide stream same = ap (λ s. list_any (emits_to s) body) (sym same)

pub overflow_cast-result : goal.overflow_cast-result
overflow_cast-result c =
    let few = few_procedures c.args.catalog.now c.requires.form in
    let long = ap length c.as_slice-procedure-items.ensures in
    let lt : c.loop-number.number < 65536 = omega arith in
    search rules

pub returns-then-emits : goal.returns-then-emits
returns-then-emits c =
    let catalog = c.args.catalog.now in
    let n = c.loop-number.number in
    let d = c.procedure-item.result in
    let within : n < length catalog.procedures = rw (← c.as_slice-procedure-items.ensures) c.loop-number-test.true in
    let here : slice_get catalog.procedures n ≡ Some d = item_there _ catalog.procedures n d c.as_slice-procedure-items.ensures c.loop-number-test.true c.procedure-item.is in
    let few = few_procedures c.args.catalog.now c.requires.form in
    record { emitter = emitter_found catalog n c.args.stream d here (at_stream d.body _ _ c.from.ensures ∙ sym c.emits.ensures ∙ c.if-emits.true) c.loop-number.invariant; small = omega arith }

pub loop-number-preserved : goal.loop-number-preserved
loop-number-preserved c =
    let catalog = c.args.catalog.now in
    let n = c.loop-number.number in
    let d = c.procedure-item.result in
    let here : slice_get catalog.procedures n ≡ Some d = item_there _ catalog.procedures n d c.as_slice-procedure-items.ensures c.loop-number-test.true c.procedure-item.is in
    one_more (λ p. procedure_emits catalog p c.args.stream ≡ false) n c.loop-number.invariant (emits_at catalog n c.args.stream d here ∙ at_stream d.body _ _ c.from.ensures ∙ sym c.emits.ensures ∙ c.if-emits.false)

pub returns : goal.returns
returns c =
    let long = ap length c.as_slice-procedure-items.ensures in
    record { emitter = no_emitter c.args.catalog.now c.loop-number.number c.args.stream (let done = c.loop-number-test.false in omega arith) c.loop-number.invariant; small = omega arith }
