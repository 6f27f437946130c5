use Rattle.ss_report_laws.proofs.Weaving.{answered_report}
use Rattle.ss_report_laws.proofs.laws.answers_make_report.Goals as goal

pub returns : goal.returns
returns c = answered_report
