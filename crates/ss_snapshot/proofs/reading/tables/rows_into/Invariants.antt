use Rattle.std.proofs.Common.{option_map}
use Rattle.ss_value.specs.Rows.{column_values}
use Rattle.ss_snapshot.proofs.Chunks.{IsFilling}
use Rattle.ss_snapshot.proofs.reading.tables.rows_into.Given as goal

abbrev pub invariant-loop-left : goal.invariant-loop-left
invariant-loop-left l = IsFilling l.catalog l.number l.table l.fn.whole l.whole l.count l.left (option_map (column_values l.table.key) l.last) l.bytes l.rest

abbrev pub decreases-loop-left : goal.decreases-loop-left
decreases-loop-left l = l.left
