use Rattle.std.proofs.Common.{◌≡◌, drop}
use Rattle.ss_fragment.specs.Cells.{rows_by}
use Rattle.ss_fragment.proofs.search.compare_by.Given as goal

abbrev pub invariant-loop-column : goal.invariant-loop-column
invariant-loop-column l = rows_by (drop l.column-index l.key) l.a l.b ≡ rows_by l.key l.a l.b
