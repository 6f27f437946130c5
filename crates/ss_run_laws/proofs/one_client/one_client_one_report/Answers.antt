use Rattle.ss_run_laws.proofs.OneRun.{one_client_one_report}
use Rattle.ss_run_laws.proofs.one_client.one_client_one_report.Goals as goal

pub returns : goal.returns
returns c = one_client_one_report
