use Rattle.ss_headline.specs.Disks.{disk_of}
use Rattle.ss_run_laws.proofs.Done.{whole_runs_of_one_client}
use Rattle.ss_run_laws.proofs.whole_runs.whole_runs_of_one_client.Goals as goal

pub returns : goal.returns
returns g c = whole_runs_of_one_client (disk_of g.D.Disk.kind) c.one_client_one_report.ensures
