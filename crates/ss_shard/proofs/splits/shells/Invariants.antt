use Rattle.std.proofs.Common.{◌≡◌, ℕ, length, slice_get, Some}
use Rattle.ss_shard.specs.ShardValue.{ShardValue}
use Rattle.ss_shard.specs.Splits.{IsShellOf}
use Rattle.ss_shard.proofs.splits.shells.Given as goal

abbrev pub invariant-loop-number : goal.invariant-loop-number
invariant-loop-number l = record {
  count : length l.made ≡ l.number;
  each : (p : ℕ) (shell : ShardValue) → slice_get l.made p ≡ Some shell → IsShellOf l.catalog l.parts p shell;
}
