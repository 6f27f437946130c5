use Rattle.std.proofs.Common.{◌+◌, drop, ◌∙◌}
use Rattle.ss_sql_type.specs.Items.{typed_value}
use Rattle.ss_lemmas.proofs.LoopItem.{next}
use Rattle.ss_sql_type.proofs.Steps.{mapped_step, value_step}
use Rattle.ss_sql_type.proofs.items.values_of.Goals as goal

pub loop-value-preserved : goal.loop-value-preserved
loop-value-preserved c =
    let i = c.loop-value.value-index in
    let split = next c.args.values.now i c.value-item.result c.loop-value-test.true c.value-item.is in
    record {
      typed = mapped_step (typed_value c.args.names.now) c.args.values.now i c.value-item.result c.loop-value.typed c.push.new.self c.in_ok-value.value.expr c.loop-value-test.true c.value-item.is c.loop-value.invariant.typed c.in_ok-value.ensures.ok.0 c.in_ok-push.ensures.ok;
      faults = value_step c.args.names.now c.loop-value.found c.expr_at.new.found c.loop-value.rest.now c.first_needs-needs.result.1.now c.first_needs-needs.result.0 (drop i c.args.values.now) (drop (i + 1) c.args.values.now) c.value-item.result split c.first_needs-needs.ensures.first c.first_needs-needs.ensures.others c.in_ok-value.ensures.faults ∙ c.loop-value.invariant.faults;
    }
