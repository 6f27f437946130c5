use Rattle.std.proofs.Common.{◌≡◌, drop, slice_get}
use Rattle.ss_window.specs.WindowValue.{rows_in}
use Rattle.ss_window.proofs.starts.row_from.Given as goal

abbrev pub invariant-loop-at : goal.invariant-loop-at
invariant-loop-at l = slice_get (rows_in (drop l.at l.units.items)) l.left ≡ slice_get (rows_in (drop l.position l.units.items)) l.behind
