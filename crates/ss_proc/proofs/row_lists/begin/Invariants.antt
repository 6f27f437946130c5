use Rattle.std.proofs.Common.{◌≡◌, ◌<◌, ◌≤◌, ◌+◌, ◌-◌, ◌++◌, ℕ, [], replicate, length}
use Rattle.ss_proc.proofs.row_lists.begin.Given as goal

abbrev pub invariant-loop-alloc : goal.invariant-loop-alloc
invariant-loop-alloc l = record {
  more : length l.fn.begun ≤ length l.begun;
  longer : l.begun ≡ l.fn.begun ++ replicate (length l.begun - length l.fn.begun) [];
  most : (count : ℕ) → l.number < count → length l.fn.begun ≤ count → length l.begun ≤ count;
}

abbrev pub decreases-loop-alloc : goal.decreases-loop-alloc
decreases-loop-alloc l = l.number + 1 - length l.begun
