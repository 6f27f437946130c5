use Rattle.ss_headline.specs.Disks.{disk_of}
use Rattle.ss_run_laws.proofs.Done.{whole_runs_have_one_list}
use Rattle.ss_run_laws.proofs.whole_runs.whole_runs_have_one_list.Goals as goal

pub returns : goal.returns
returns g c =
    whole_runs_have_one_list (disk_of g.D.Disk.kind)
    c.stands_for_one.ensures c.weakly_stands_for_one.ensures c.a_report_has_one_list.ensures
