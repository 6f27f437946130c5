use Rattle.std.proofs.Common.{arith, subst}
use Rattle.ss_lanes.specs.Lanes.{LaneView, IsSubmitted}
use Rattle.ss_lanes.proofs.CallerLemmas.{next_number}
use Rattle.ss_engine.proofs.engine.Engine.send.Goals as goal

pub returns-in-Err : goal.returns-in-Err
returns-in-Err g c =
    subst (λ (lane : LaneView). IsSubmitted g.I.Life.first g.I.Life.limit lane c.args.what.now c.unsent.result) c.lane.view_is
    (c.unsent.ensures g.I.Life.limit c.args.what.now)

pub returned-requires-clause-numbered : goal.returned-requires-clause-numbered
returned-requires-clause-numbered g c =
    let lane = c.lane.inside in
    let number = next_number lane.ticket lane.due lane.note lane.answers c.args.lane c.lane.view_is c.lane.invariant.index_is in
    let small = c.requires.numbered in
    omega arith
