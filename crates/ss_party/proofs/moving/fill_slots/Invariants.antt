use Rattle.std.proofs.Common.{◌≡◌, ◌++◌, ◌+◌, ◌≤◌, List, map, reverse, length, vec_len, vec_capacity, Some}
use Rattle.ss_party.proofs.moving.fill_slots.Given as goal

abbrev pub invariant-loop-item : goal.invariant-loop-item
invariant-loop-item g l = record {
  split : (front : List g.row.T.Denot) × (l.fn.items.items ≡ front ++ reverse l.items.items) × (l.slots.items ≡ map Some front);
  room : vec_len l.items + vec_len l.slots ≤ vec_capacity l.slots;
  kept : vec_capacity l.items ≡ vec_capacity l.fn.items;
}

abbrev pub decreases-loop-item : goal.decreases-loop-item
decreases-loop-item g l = length l.items.items
