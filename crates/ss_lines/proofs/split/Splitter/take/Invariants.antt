use Rattle.std.proofs.Common.{◌≡◌, ◌+◌, ◌≤◌, ◌++◌, List, ℕ, length}
use Rattle.ss_lines.specs.Splitting.{lines_with}
use Rattle.ss_lines.proofs.split.Splitter.take.Given as goal

abbrev pub invariant-loop-line : goal.invariant-loop-line
invariant-loop-line l = record {
  lines : (behind : List ℕ) → lines_with l.self (l.rest ++ behind) ≡ lines_with l.fn.self (l.bytes ++ behind);
  number : l.self.number + length l.rest ≤ l.fn.self.number + length l.bytes;
}

abbrev pub decreases-loop-line : goal.decreases-loop-line
decreases-loop-line l = length l.rest
