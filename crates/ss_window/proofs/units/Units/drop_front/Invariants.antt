use Rattle.std.proofs.Common.{◌≡◌, drop}
use Rattle.ss_window.specs.Numbers.{AreNumbered}
use Rattle.ss_window.proofs.units.Units.drop_front.Given as goal

abbrev pub invariant-loop : goal.invariant-loop
invariant-loop l = record {
  left : l.self-inside.ring.items ≡ drop l.counter l.initial.self-inside.ring.items;
  same : l.self-inside.next ≡ l.initial.self-inside.next;
  numbered : AreNumbered l.self-inside.first l.self-inside.next l.self-inside.unit_ends.items l.self-inside.ring.items;
}
