use Rattle.ss_headline.specs.Disks.{disk_of}
use Rattle.ss_run_laws.proofs.Done.{whole_runs_take_each_once}
use Rattle.ss_run_laws.proofs.whole_runs.whole_runs_take_each_once.Goals as goal

pub returns : goal.returns
returns g c = whole_runs_take_each_once (disk_of g.D.Disk.kind) c.takes_each_once.ensures
