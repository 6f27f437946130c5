use Rattle.std.proofs.Common.{subst}
use Rattle.ss_model.specs.Report.{reply_lines}
use Rattle.ss_model.specs.ReportLines.{list_lines}
use Rattle.ss_report_laws.specs.Replies.{weave}
use Rattle.ss_report.specs.Readable.{AddsLines}
use Rattle.ss_report.specs.Reported.{report_lines}
use Rattle.ss_report.proofs.Steps.{both_added}
use Rattle.ss_report.proofs.report.report_bytes.Goals as goal

pub returns : goal.returns
returns c =
    let catalog = c.args.catalog.now in
    let requests = c.args.requests.now in
    let answers = weave c.args.missing.now requests c.args.answers.now in
    let all = both_added c.new-out.result.items c.append_replies.new.out.items c.append_list.new.out.items (reply_lines catalog requests answers) (list_lines catalog c.args.first c.args.list.now) c.in_ok-append_replies.ensures c.in_ok-append_list.ensures in
    subst (λ old. AddsLines old c.append_list.new.out.items (report_lines catalog requests answers c.args.first c.args.list.now)) c.new-out.ensures.items all
