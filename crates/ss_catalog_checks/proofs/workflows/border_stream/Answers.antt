use Rattle.std.proofs.Common.{◌≡◌, ◌+◌, ◌-◌, cond, false, slice_get, unwrap_or, ap, sym, ◌∙◌}
use Rattle.ss_model.specs.Database.{is_border}
use Rattle.ss_model.specs.Orders.{procedure_has}
use Rattle.ss_model.specs.Settling.{first_input, emitting_procedure, border_stream_from}
use Rattle.ss_catalog_checks.proofs.Ways.{way_on}
use Rattle.ss_catalog_checks.proofs.workflows.border_stream.Goals as goal

pub loop-preserved : goal.loop-preserved
loop-preserved c =
    let inside : procedure_has (λ p. is_border p.kind) (slice_get c.args.catalog.now.procedures c.loop.at) ≡ false = sym c.is_border_procedure.ensures ∙ c.if-is_border_procedure.false in
    let rest = border_stream_from (c.len-end.result - (c.loop.counter + 1)) c.args.catalog.now in
    ap rest (c.emitting_procedure-at.ensures ∙ ap (λ o. unwrap_or o 0) (c.requires c.first_input-in-loop.result) ∙ ap (emitting_procedure c.args.catalog.now) c.first_input-in-loop.ensures)
    ∙ sym (way_on c.args.catalog.now c.loop.at c.len-end.result c.loop.counter c.loop-test.true
    ∙ ap (λ b. cond b (first_input c.args.catalog.now c.loop.at) (rest (emitting_procedure c.args.catalog.now (first_input c.args.catalog.now c.loop.at)))) inside)
    ∙ c.loop.invariant
