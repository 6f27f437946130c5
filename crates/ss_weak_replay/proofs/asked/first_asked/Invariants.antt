use Rattle.std.proofs.Common.{◌≡◌, ◌≤◌, ◌+◌, ◌-◌, ◌++◌, length, take}
use Rattle.ss_weak_replay.specs.WeakReplaying.{asked_listed}
use Rattle.ss_weak_replay.proofs.asked.first_asked.Given as goal

-- those so far, and the first ones of the rest, are the first ones of all
abbrev pub invariant-loop-listed : goal.invariant-loop-listed
invariant-loop-listed l = record {
  first : l.asked.items ++ take (l.most - length l.asked.items) (asked_listed l.listed-iterator.rest.items) ≡ take l.most (asked_listed l.fn.list);
  few : length l.asked.items ≤ l.most;
  room : l.most ≤ length l.asked.items + l.asked.spare;
}
