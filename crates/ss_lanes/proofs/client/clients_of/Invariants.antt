use Rattle.std.proofs.Common.{◌≡◌, ◌≤◌, ◌+◌, length, drop, vec_len, vec_capacity}
use Rattle.ss_lanes.specs.Clients.{EachHasLane, MayBegin}
use Rattle.ss_lanes.proofs.client.clients_of.Given as goal

-- the first lanes have become clients
abbrev pub invariant-loop-lane : goal.invariant-loop-lane
invariant-loop-lane g l = record {
  rest : l.lane-iterator.rest.items ≡ drop (length l.clients.items) l.fn.lanes.items;
  many : length l.clients.items + length l.lane-iterator.rest.items ≡ length l.fn.lanes.items;
  begin : EachHasLane (length l.clients.items) (MayBegin g.I.Life.first l.starts l.requests) l.clients.items;
  room : length l.lane-iterator.rest.items + vec_len l.clients ≤ vec_capacity l.clients;
}
