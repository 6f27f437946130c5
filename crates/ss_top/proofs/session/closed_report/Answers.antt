use Rattle.std.proofs.Common.{sym, subst}
use Rattle.std.specs.Prelude.{IfOk, OnOk}
use Rattle.ss_report.specs.declared.run_end.End.{End}
use Rattle.ss_report.specs.Readable.{HasReadableLines}
use Rattle.ss_report.specs.Reported.{IsReportOf, HasEndTables}
use Rattle.ss_top.proofs.Running.{end_tables}
use Rattle.ss_top.proofs.session.closed_report.Goals as goal

pub write_report-requires-clause-tables : goal.write_report-requires-clause-tables
write_report-requires-clause-tables c =
    subst (HasEndTables c.args.closed.catalog) (sym c.end_for-end.ensures)
    (end_tables c.args.closed.catalog c.requires.left.0 c.args.status c.args.printing c.args.closed.database c.args.count c.args.faults c.requires.left.1)

pub returns-clause-report : goal.returns-clause-report
returns-clause-report c =
    subst (λ (end : End). IfOk c.write_report.result (IsReportOf c.args.closed.catalog c.args.requests.now c.args.closed.answers c.args.first c.args.closed.list end)) c.end_for-end.ensures c.write_report.ensures.report

pub returns-clause-readable : goal.returns-clause-readable
returns-clause-readable c =
    subst (λ (end : End). OnOk c.write_report.result (HasReadableLines c.args.closed.catalog c.args.requests.now c.args.closed.answers c.args.first c.args.closed.list end)) c.end_for-end.ensures c.write_report.ensures.readable
