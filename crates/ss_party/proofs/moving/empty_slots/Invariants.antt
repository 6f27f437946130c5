use Rattle.std.proofs.Common.{◌≡◌, ◌++◌, ◌+◌, ◌≤◌, map, reverse, length, vec_len, vec_capacity, Some}
use Rattle.ss_party.proofs.moving.empty_slots.Given as goal

abbrev pub invariant-loop-slot : goal.invariant-loop-slot
invariant-loop-slot g l = record {
  split : l.fn.slots.items ≡ map Some l.items.items ++ reverse l.slots.items;
  room : vec_len l.slots + vec_len l.items ≤ vec_capacity l.items;
}

abbrev pub decreases-loop-slot : goal.decreases-loop-slot
decreases-loop-slot g l = length l.slots.items
