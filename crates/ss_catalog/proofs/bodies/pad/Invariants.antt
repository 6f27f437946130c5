use Rattle.std.proofs.Common.{◌≡◌, ◌+◌, ◌++◌, [], replicate}
use Rattle.ss_catalog.proofs.bodies.pad.Given as goal

abbrev pub invariant-loop : goal.invariant-loop
invariant-loop l = record {
  items : l.spares.items ≡ l.initial.spares.items ++ replicate l.counter [];
  room : l.spares.spare + l.counter ≡ l.initial.spares.spare;
}
