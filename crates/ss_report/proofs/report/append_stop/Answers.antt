use Rattle.serde_json.specs.View.{view}
use Rattle.ss_model.specs.ReportLines.{stopped_line}
use Rattle.ss_report.proofs.Depths.{stop_shallow}
use Rattle.ss_report.proofs.Steps.{line_added}
use Rattle.ss_report.proofs.report.append_stop.Goals as goal

pub returns : goal.returns
returns c =
    line_added c.append_line.result c.args.out.now.items c.append_line.new.out.items (view c.in_ok-stopped.stopped) (stopped_line c.args.status c.args.count)
    c.in_ok-stopped.ensures (stop_shallow c.args.status c.args.count) c.append_line.ensures.text c.append_line.ensures.reads
