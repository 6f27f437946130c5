use Rattle.std.proofs.Common.{◌≡◌, ◌≤◌, ◌+◌, None, length, vec_capacity}
use Rattle.ss_lanes.proofs.LanesApart.{AreApart}
use Rattle.ss_lanes.proofs.apart.take_apart.Given as goal

-- marks and answers are those of the lanes so far, and there is room for the others
abbrev pub invariant-loop-lane : goal.invariant-loop-lane
invariant-loop-lane g l = record {
  so_far : AreApart g.I.Life.first l.fn.lanes.items l.lane-iterator.rest.items l.marks.items l.answers.items;
  room : length l.marks.items + length l.lane-iterator.rest.items ≤ vec_capacity l.marks;
  room_too : length l.answers.items + length l.lane-iterator.rest.items ≤ vec_capacity l.answers;
  same_room : vec_capacity l.marks ≡ vec_capacity l.fn.marks;
  some : l.last ≡ None → l.lane-iterator.rest.items ≡ l.fn.lanes.items;
}
