use Rattle.std.proofs.Common.{◌≡◌, ◌++◌, drop}
use Rattle.ss_sql_type.specs.Refusals.{least_of}
use Rattle.ss_sql_type.specs.Items.{typed_groups, groups_faults}
use Rattle.ss_sql_type.proofs.items.groups_of.Given as goal

abbrev pub invariant-loop-group : goal.invariant-loop-group
invariant-loop-group l = record {
  typed : l.typed ++ typed_groups l.names (drop l.group-index l.groups) ≡ typed_groups l.names l.groups;
  faults : least_of l.found (groups_faults l.names (drop l.group-index l.groups)) ≡ least_of l.initial.found (groups_faults l.names l.groups);
}
