use Rattle.std.proofs.Common.{map, drop}
use Rattle.ss_model.specs.ReportLines.{row_line}
use Rattle.ss_shard.specs.Lent.{rows_behind}
use Rattle.ss_audit.proofs.Saying.{ComesTo}
use Rattle.ss_audit.proofs.tables.behind_rows_said.Given as goal

abbrev pub invariant-loop-row : goal.invariant-loop-row
invariant-loop-row l = ComesTo l.end (map (row_line l.name) (rows_behind (drop l.row-index l.rows))) l.rest (map (row_line l.name) (rows_behind l.rows)) l.lines
