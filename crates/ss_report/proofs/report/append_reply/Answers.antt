use Rattle.serde_json.specs.View.{view}
use Rattle.ss_model.specs.ReportLines.{reply_line}
use Rattle.ss_report.proofs.Depths.{reply_shallow}
use Rattle.ss_report.proofs.Floats.{reply_no_float}
use Rattle.ss_report.proofs.Steps.{line_added}
use Rattle.ss_report.proofs.report.append_reply.Goals as goal

pub append_line-requires : goal.append_line-requires
append_line-requires c = rw c.in_ok-reply.ensures (reply_no_float c.args.catalog.now c.args.line c.args.answer.now)

pub returns : goal.returns
returns c =
    line_added c.append_line.result c.args.out.now.items c.append_line.new.out.items (view c.in_ok-reply.reply) (reply_line c.args.catalog.now c.args.line c.args.answer.now)
    c.in_ok-reply.ensures (reply_shallow c.args.catalog.now c.args.line c.args.answer.now) c.append_line.ensures.text c.append_line.ensures.reads
