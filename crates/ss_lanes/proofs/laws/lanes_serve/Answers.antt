use Rattle.ss_lanes.proofs.ServedLanes.{lanes_serve}
use Rattle.ss_lanes.proofs.laws.lanes_serve.Goals as goal

pub returns : goal.returns
returns c = lanes_serve
