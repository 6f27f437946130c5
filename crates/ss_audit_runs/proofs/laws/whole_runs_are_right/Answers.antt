use Rattle.ss_headline.specs.Disks.{disk_of}
use Rattle.ss_audit_runs.proofs.Right.{whole_runs_are_right}
use Rattle.ss_audit_runs.proofs.laws.whole_runs_are_right.Goals as goal

pub returns : goal.returns
returns g c =
    whole_runs_are_right (disk_of g.D.Disk.kind)
    c.stands_for_one.ensures c.weakly_stands_for_one.ensures c.drained_at_rest.ensures c.kept_carries.ensures c.printed_is_right.ensures
