use Rattle.std.proofs.Common.{◌≡◌, ◌-◌, ◌≤◌, drop}
use Rattle.std.specs.VecDeque.{deque_capacity}
use Rattle.ss_stream.proofs.stream.drop_taken.Given as goal

abbrev pub invariant-loop-at : goal.invariant-loop-at
invariant-loop-at l = record {
  from : l.first ≤ l.at;
  to : l.at ≤ l.least;
  items : l.batches.items ≡ drop (l.at - l.first) l.fn.batches.items;
  room : deque_capacity l.batches ≡ deque_capacity l.fn.batches;
}

abbrev pub decreases-loop-at : goal.decreases-loop-at
decreases-loop-at l = l.least - l.at
