use Rattle.serde_json.specs.View.{view}
use Rattle.ss_model.specs.ReportLines.{table_line}
use Rattle.ss_report.proofs.Depths.{head_shallow}
use Rattle.ss_report.proofs.Steps.{line_added}
use Rattle.ss_report.proofs.tables.append_head.Goals as goal

pub returns : goal.returns
returns c =
    line_added c.append_line.result c.args.out.now.items c.append_line.new.out.items (view c.in_ok-head.head) (table_line c.args.name.now c.args.rows)
    c.in_ok-head.ensures (head_shallow c.args.name.now c.args.rows) c.append_line.ensures.text c.append_line.ensures.reads
