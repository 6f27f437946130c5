use Rattle.std.proofs.Common.{◌≡◌, ◌≤◌, ◌==◌, length}
use Rattle.std.specs.List.{filter, range_with_len}
use Rattle.ss_model.specs.Nests.{stands_for}
use Rattle.ss_nest.proofs.joined.nested_number.Given as goal

abbrev pub invariant-loop-number : goal.invariant-loop-number
invariant-loop-number l = record {
  count : l.before ≡ length (filter (λ n. stands_for l.nests n == n) (range_with_len 0 l.number));
  within : l.before ≤ l.number;
}
