use Rattle.std.proofs.Common.{◌≡◌, ◌<◌, ◌≤◌, ◌+◌, ℕ, get_or, length}
use Rattle.ss_model.specs.Settling.{rank_from}
use Rattle.ss_sched.specs.Ranks.{AreCounted}
use Rattle.ss_sched.proofs.rank.next_ranks.Given as goal

abbrev pub invariant-loop-number : goal.invariant-loop-number
invariant-loop-number l = record {
  ranks_are : (depth : ℕ) → AreCounted l.catalog depth l.ranks → (q : ℕ) → q < l.number → get_or l.by_number q 0 ≡ rank_from (depth + 1) l.catalog q;
  small : (depth : ℕ) → AreCounted l.catalog depth l.ranks → (q : ℕ) → get_or l.by_number q 0 ≤ depth + 1;
  long : length l.by_number ≡ 64;
}
