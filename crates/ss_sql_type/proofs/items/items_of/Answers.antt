use Rattle.std.proofs.Common.{◌+◌, drop, ◌∙◌}
use Rattle.ss_sql_type.specs.Expressions.{grouping}
use Rattle.ss_sql_type.specs.Items.{typed_item}
use Rattle.ss_lemmas.proofs.LoopItem.{next}
use Rattle.ss_sql_type.proofs.Steps.{mapped_step, item_step}
use Rattle.ss_sql_type.proofs.items.items_of.Goals as goal

pub loop-item-preserved : goal.loop-item-preserved
loop-item-preserved c =
    let i = c.loop-item.item-index in
    let split = next c.args.items.now i c.item-item.result c.loop-item-test.true c.item-item.is in
    record {
      typed = mapped_step (typed_item c.args.names.now (grouping c.args.grouped)) c.args.items.now i c.item-item.result c.loop-item.typed c.push.new.self c.in_ok-item.item c.loop-item-test.true c.item-item.is c.loop-item.invariant.typed c.in_ok-item.ensures.ok c.in_ok-push.ensures.ok;
      faults = item_step c.args.names.now c.loop-item.found c.item_of.new.found c.loop-item.rest.now c.first_needs-needs.result.1.now c.first_needs-needs.result.0 (grouping c.args.grouped) (drop i c.args.items.now) (drop (i + 1) c.args.items.now) c.item-item.result split c.first_needs-needs.ensures.first c.first_needs-needs.ensures.others c.in_ok-item.ensures.faults ∙ c.loop-item.invariant.faults;
    }
