use Rattle.serde_json.specs.View.{view}
use Rattle.ss_model.specs.ReportLines.{entry_line}
use Rattle.ss_report.proofs.Depths.{entry_shallow}
use Rattle.ss_report.proofs.Floats.{entry_no_float}
use Rattle.ss_report.proofs.Steps.{line_added}
use Rattle.ss_report.proofs.report.append_entry.Goals as goal

pub append_line-requires : goal.append_line-requires
append_line-requires c = rw c.in_ok-entry.ensures (entry_no_float c.args.catalog.now c.args.place c.args.listed.now.outcome c.args.listed.now.entry)

pub returns : goal.returns
returns c =
    line_added c.append_line.result c.args.out.now.items c.append_line.new.out.items (view c.in_ok-entry.entry) (entry_line c.args.catalog.now c.args.place c.args.listed.now.outcome c.args.listed.now.entry)
    c.in_ok-entry.ensures (entry_shallow c.args.catalog.now c.args.place c.args.listed.now.outcome c.args.listed.now.entry) c.append_line.ensures.text c.append_line.ensures.reads
