use Rattle.std.proofs.Common.{◌≡◌, map, take, drop}
use Rattle.std.specs.List.{flat_map}
use Rattle.ss_sql_type.specs.Refusals.{least_of}
use Rattle.ss_sql_type.specs.Items.{typed_order, order_faults}
use Rattle.ss_sql_type.proofs.items.order_of.Given as goal

abbrev pub invariant-loop-order : goal.invariant-loop-order
invariant-loop-order l = record {
  typed : l.typed ≡ map typed_order (take l.order-index l.orders);
  faults : least_of l.found (flat_map (order_faults l.count) (drop l.order-index l.orders)) ≡ least_of l.initial.found (flat_map (order_faults l.count) l.orders);
}
