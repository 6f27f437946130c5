use Rattle.std.proofs.Common.{map, drop}
use Rattle.ss_model.specs.ReportLines.{row_line}
use Rattle.ss_shard.specs.Lent.{rows_behind}
use Rattle.ss_report.proofs.Steps.{IsUnderWay}
use Rattle.ss_report.proofs.tables.append_rows.Given as goal

abbrev pub invariant-loop-row : goal.invariant-loop-row
invariant-loop-row l = IsUnderWay l.fn.out.items l.out.items (map (row_line l.name) (rows_behind (drop l.row-index l.rows))) (map (row_line l.name) (rows_behind l.rows))
