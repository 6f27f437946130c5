use Rattle.ss_disk.proofs.Moments.{no_call, one_call, runs_join, leaves_less, goes_on, stays_only}
use Rattle.ss_disk.proofs.laws.runs_compose.Goals as goal

pub returns-clause-none : goal.returns-clause-none
returns-clause-none g c = λ disk here. no_call g.D.Disk.kind.moment g.D.Disk.kind.images disk g.P.Claim.holds here

pub returns-clause-one : goal.returns-clause-one
returns-clause-one g c = λ old new passes before after. one_call g.D.Disk.kind.moment g.D.Disk.kind.images old new g.P.Claim.holds passes before after

pub returns-clause-join : goal.returns-clause-join
returns-clause-join g c = λ old mid new first second. runs_join g.D.Disk.kind.moment g.D.Disk.kind.images old mid new g.P.Claim.holds first second

pub returns-clause-less : goal.returns-clause-less
returns-clause-less g c = λ old new run less. leaves_less g.D.Disk.kind.moment g.D.Disk.kind.images old new g.P.Claim.holds g.Q.Claim.holds run less

pub returns-clause-goes_on : goal.returns-clause-goes_on
returns-clause-goes_on g c = λ from old new le so_far run. goes_on g.D.Disk.kind.moment g.D.Disk.kind.images from old new g.P.Claim.holds le so_far run

pub returns-clause-only : goal.returns-clause-only
returns-clause-only g c = stays_only g.D.Disk.kind.moment g.D.Disk.kind.images
