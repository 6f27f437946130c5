use Rattle.std.proofs.Common.{◌≡◌}
use Rattle.ss_window.specs.Numbers.{rows_before}
use Rattle.ss_window.proofs.starts.count_before.Given as goal

abbrev pub invariant-loop-at : goal.invariant-loop-at
invariant-loop-at l = l.rows ≡ rows_before l.at l.units.items
