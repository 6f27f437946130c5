use Rattle.std.proofs.Common.{◌≡◌, map, take, drop}
use Rattle.ss_sql_type.specs.Refusals.{least_of}
use Rattle.ss_sql_type.specs.Items.{typed_value, values_faults}
use Rattle.ss_sql_type.proofs.items.values_of.Given as goal

abbrev pub invariant-loop-value : goal.invariant-loop-value
invariant-loop-value l = record {
  typed : l.typed ≡ map (typed_value l.names) (take l.value-index l.values);
  faults : least_of l.found (values_faults l.names l.rest (drop l.value-index l.values)) ≡ least_of l.initial.found (values_faults l.names l.columns l.values);
}
