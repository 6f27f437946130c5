use Rattle.std.proofs.Common.{◌≡◌, ◌≤◌, ◌+◌, ◌++◌, length, vec_capacity}
use Rattle.ss_lanes.proofs.apart.with_parts.Given as goal

abbrev pub invariant-loop-mark : goal.invariant-loop-mark
invariant-loop-mark g l = record {
  so_far : l.marks.items ++ l.mark-iterator.rest.items ≡ l.fn.marks.items ++ l.fn.parts;
  room : length l.marks.items + length l.mark-iterator.rest.items ≤ vec_capacity l.marks;
}
