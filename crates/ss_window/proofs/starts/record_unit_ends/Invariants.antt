use Rattle.std.proofs.Common.{◌≡◌, ◌+◌, length}
use Rattle.ss_window.specs.Numbers.{rows_before, AreStarts}
use Rattle.ss_window.proofs.starts.record_unit_ends.Given as goal

abbrev pub invariant-loop-position : goal.invariant-loop-position
invariant-loop-position l = record {
  noted : length l.unit_ends.items ≡ l.position;
  end_is : l.end ≡ l.first + rows_before l.position l.units.items;
  right : AreStarts l.first l.unit_ends.items l.units.items;
}
