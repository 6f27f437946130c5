use Rattle.ss_incarnations.proofs.Pushes.{accepted_are_consecutive, all_are_accepted}
use Rattle.ss_incarnations.proofs.Reported.{reported_are_accepted}
use Rattle.ss_incarnations.proofs.laws.pushes_are_accepted.Goals as goal

pub returns-clause-consecutive : goal.returns-clause-consecutive
returns-clause-consecutive c = accepted_are_consecutive

pub returns-clause-all : goal.returns-clause-all
returns-clause-all c = all_are_accepted

pub returns-clause-reported : goal.returns-clause-reported
returns-clause-reported c = reported_are_accepted
