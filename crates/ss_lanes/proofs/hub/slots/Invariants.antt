use Rattle.std.proofs.Common.{◌≡◌, ◌≤◌, length, vec_capacity}
use Rattle.ss_lanes.proofs.hub.slots.Given as goal

-- one for each client so far, and room for all
abbrev pub invariant-loop : goal.invariant-loop
invariant-loop g l = (length l.made.items ≡ l.counter) × (l.clients ≤ vec_capacity l.made)
