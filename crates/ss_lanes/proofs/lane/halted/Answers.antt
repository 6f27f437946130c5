use Rattle.std.proofs.Common.{◌≢◌, sym, subst, arith}
use Rattle.ss_lanes.specs.declared.ticket.Ticket.{Ticket}
use Rattle.ss_lanes.specs.Lanes.{LaneView, IsLane}
use Rattle.ss_lanes.specs.Mines.{mine_in}
use Rattle.ss_lanes.proofs.Coming.{halted_again}
use Rattle.ss_lanes.proofs.Telling.{lane_halted, listed_few, next_number}
use Rattle.ss_lanes.proofs.lane.halted.Goals as goal

pub next_ticket-next-requires-clause-index : goal.next_ticket-next-requires-clause-index
next_ticket-next-requires-clause-index g c =
    let lane = c.lane.inside in
    let number = next_number lane.ticket lane.due lane.note lane.answers c.args.lane c.lane.view_is c.lane.invariant.index_is in
    let small = c.requires.numbered in
    omega arith

pub next_ticket-next-requires-clause-count : goal.next_ticket-next-requires-clause-count
next_ticket-next-requires-clause-count g c =
    let lane = c.lane.inside in
    let few = listed_few lane.ticket.count (mine_in lane.ticket.client g.I.Life.first lane.note.list) lane.answers.items c.lane.invariant.counted c.lane.invariant.all_told in
    let within = c.lane.invariant.index_is in
    omega arith

pub lane_of-requires : goal.lane_of-requires
lane_of-requires g c =
    let lane = c.lane.inside in
    subst (λ (t : Ticket). IsLane g.I.Life.clients g.I.Life.first t lane.due lane.mark lane.note c.add.new.self.items) (sym c.next_ticket-next.ensures)
    (lane_halted g.I.Life.clients g.I.Life.first lane.ticket lane.due lane.mark lane.note lane.answers.items c.add.new.self.items c.lane.invariant
    (subst (λ (o : LaneView). o.due.faults ≢ 0) (sym c.lane.view_is) c.requires.halted) c.add.ensures.items)

pub returns : goal.returns
returns g c = λ limit what.
    let lane = c.lane.inside in
    let more = c.add.new.self in
    halted_again g.I.Life.first limit lane.ticket c.next_ticket-next.result lane.due what lane.answers more lane.note c.args.lane c.lane_of.result
    c.lane.view_is c.requires.halted c.add.ensures.items c.add.ensures.room c.next_ticket-next.ensures c.lane_of.ensures
