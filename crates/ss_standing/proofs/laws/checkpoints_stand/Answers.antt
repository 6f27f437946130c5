use Rattle.ss_standing.proofs.Checkpoints.{checkpoints_stand, front_checkpoints_stand, checkpoints_change_nothing, either_generation_stands}
use Rattle.ss_standing.proofs.laws.checkpoints_stand.Goals as goal

pub returns-clause-alone : goal.returns-clause-alone
returns-clause-alone c = checkpoints_stand

pub returns-clause-fronts : goal.returns-clause-fronts
returns-clause-fronts c = front_checkpoints_stand (λ catalog accepted. (c.whole_databases_stay.ensures catalog accepted).along) c.batches_are_bounded.ensures

pub returns-clause-meanwhile : goal.returns-clause-meanwhile
returns-clause-meanwhile c = checkpoints_change_nothing

pub returns-clause-either : goal.returns-clause-either
returns-clause-either c = either_generation_stands
