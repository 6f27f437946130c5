use Rattle.std.proofs.Common.{◌≡◌, ◌++◌, map, drop}
use Rattle.ss_rows.specs.Lent.{lent_row}
use Rattle.ss_rows.proofs.lent_rows.rows_of.Given as goal

abbrev pub invariant-loop-here : goal.invariant-loop-here
invariant-loop-here l = l.rows ++ map (lent_row l.params l.items) (drop l.here-index l.tuples) ≡ map (lent_row l.params l.items) l.tuples
