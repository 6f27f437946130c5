use Rattle.serde_json.specs.View.{view}
use Rattle.ss_model.specs.ReportLines.{row_line}
use Rattle.ss_report.proofs.Depths.{row_shallow}
use Rattle.ss_report.proofs.Floats.{row_no_float}
use Rattle.ss_report.proofs.Steps.{line_added}
use Rattle.ss_report.proofs.tables.append_row.Goals as goal

pub append_line-requires : goal.append_line-requires
append_line-requires c = rw c.in_ok-line.ensures (row_no_float c.args.name.now c.as_slice.result.now)

pub returns : goal.returns
returns c =
    line_added c.append_line.result c.args.out.now.items c.append_line.new.out.items (view c.in_ok-line.line) (row_line c.args.name.now c.args.row.now)
    (rw c.as_slice.ensures at c.in_ok-line.ensures) (row_shallow c.args.name.now c.args.row.now) c.append_line.ensures.text c.append_line.ensures.reads
