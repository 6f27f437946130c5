use Rattle.std.proofs.Common.{◌≡◌, map, take, drop}
use Rattle.ss_sql_type.specs.Refusals.{least_of}
use Rattle.ss_sql_type.specs.Expressions.{grouping}
use Rattle.ss_sql_type.specs.Items.{typed_item, items_faults}
use Rattle.ss_sql_type.proofs.items.items_of.Given as goal

abbrev pub invariant-loop-item : goal.invariant-loop-item
invariant-loop-item l = record {
  typed : l.typed ≡ map (typed_item l.names (grouping l.grouped)) (take l.item-index l.items);
  faults : least_of l.found (items_faults l.names (grouping l.grouped) l.rest (drop l.item-index l.items)) ≡ least_of l.initial.found (items_faults l.names (grouping l.grouped) l.columns l.items);
}
