use Rattle.serde_json.specs.View.{view}
use Rattle.ss_model.specs.ReportLines.{done_line}
use Rattle.ss_report.proofs.Depths.{done_shallow}
use Rattle.ss_report.proofs.Steps.{line_added}
use Rattle.ss_report.proofs.report.append_done.Goals as goal

pub returns : goal.returns
returns c =
    line_added c.append_line.result c.args.out.now.items c.append_line.new.out.items (view c.in_ok-done.done) (done_line c.args.entries)
    c.in_ok-done.ensures (done_shallow c.args.entries) c.append_line.ensures.text c.append_line.ensures.reads
