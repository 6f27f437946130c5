use Rattle.ss_lanes.proofs.Telling.{next_number}
use Rattle.ss_lanes.proofs.lane.Lane.next_index.Goals as goal

pub returns : goal.returns
returns g c =
    let lane = c.self.inside in
    next_number lane.ticket lane.due lane.note lane.answers c.args.self.now c.self.view_is c.self.invariant.index_is
