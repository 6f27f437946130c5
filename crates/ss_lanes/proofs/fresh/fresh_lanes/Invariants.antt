use Rattle.std.proofs.Common.{◌≤◌, vec_capacity}
use Rattle.ss_lanes.specs.Lanes.{AreFresh}
use Rattle.ss_lanes.proofs.FreshLanes.{AreLeft}
use Rattle.ss_lanes.proofs.fresh.fresh_lanes.Given as goal

-- marks that are left are those of the clients from the next one on, and there is a note for each of them behind those that stay
abbrev pub invariant-loop-client : goal.invariant-loop-client
invariant-loop-client g l = record {
  left : AreLeft g.I.Life.first g.I.Life.parts g.I.Life.clients l.client l.left.rest.items l.notes;
  fresh : AreFresh g.I.Life.first l.client l.starts l.lanes.items;
  room : l.clients ≤ vec_capacity l.lanes;
}
