use Rattle.std.proofs.Common.{ℕ, refl, subst}
use Rattle.ss_report.specs.declared.run_end.End.TheVariants.{Stopped}
use Rattle.ss_report.specs.Reported.{IsReportOf}
use Rattle.ss_top.proofs.session.report_past.Goals as goal

pub returns-in-Ok-clause-written : goal.returns-in-Ok-clause-written
returns-in-Ok-clause-written g c = (
  refl,
  subst (λ (n : ℕ). IsReportOf c.args.catalog.now c.args.requests.now c.args.past.now.answers c.args.past.now.first c.args.past.now.list (Stopped n c.args.past.now.receipted 0) c.in-Ok.text) c.number.ensures c.in-Ok.ensures.report,
)
