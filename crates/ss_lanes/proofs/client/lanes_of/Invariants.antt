use Rattle.std.proofs.Common.{◌≡◌, ◌≤◌, ◌++◌, ◌+◌, map, length, vec_len, vec_capacity}
use Rattle.ss_lanes.specs.Clients.{AllThere, lane_of, some_lane}
use Rattle.ss_lanes.proofs.client.lanes_of.Given as goal

-- the lanes of the clients so far, and those still to come
abbrev pub invariant-loop-client : goal.invariant-loop-client
invariant-loop-client g l = record {
  lanes : map some_lane l.lanes.items ++ map lane_of l.client-iterator.rest.items ≡ map lane_of l.fn.clients.items;
  there : AllThere l.client-iterator.rest.items;
  room : length l.client-iterator.rest.items + vec_len l.lanes ≤ vec_capacity l.lanes;
}
