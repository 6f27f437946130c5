use Rattle.std.proofs.Common.{◌≡◌, [], map, take, drop}
use Rattle.ss_sql_type.specs.Refusals.{least_of}
use Rattle.ss_sql_type.specs.Statements.{typed_set, sets_faults}
use Rattle.ss_sql_type.proofs.statement.sets_of.Given as goal

abbrev pub invariant-loop-set : goal.invariant-loop-set
invariant-loop-set l = record {
  typed : l.typed ≡ map (typed_set l.names) (take l.set-index l.sets);
  faults : least_of l.found (sets_faults l.names l.key l.earlier.keys (drop l.set-index l.sets)) ≡ least_of l.initial.found (sets_faults l.names l.key [] l.sets);
}
