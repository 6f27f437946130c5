use Rattle.std.proofs.Common.{◌≡◌, ◌≤◌, length, vec_capacity}
use Rattle.ss_lanes.proofs.hub.inboxes.Given as goal

-- one for each partition so far, and room for all
abbrev pub invariant-loop : goal.invariant-loop
invariant-loop g l = (length l.made.items ≡ l.counter) × (l.parts ≤ vec_capacity l.made)
