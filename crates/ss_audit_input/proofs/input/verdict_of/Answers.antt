use Rattle.ss_audit_input.proofs.Reports.{told_of}
use Rattle.ss_audit_input.proofs.input.verdict_of.Goals as goal

pub returns : goal.returns
returns c =
    told_of c.args.catalog.now c.args.requests.now c.args.report.now c.args.lines.now c.in-Some.end c.in-Some.ensures.1 c.audit.result c.audit.ensures.checks c.audit.ensures.right c.audit.ensures.valid
