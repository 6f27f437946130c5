use Rattle.std.proofs.Common.{◌≡◌, ℕ, length, slice_get, Some}
use Rattle.ss_model.specs.Database.{empty_database}
use Rattle.ss_shard.specs.Parts.{IsShardOf, HoldTheirParts}
use Rattle.ss_shard.specs.ShardValue.{ShardValue}
use Rattle.ss_shard.proofs.database.blanks.Given as goal

abbrev pub invariant-loop-number : goal.invariant-loop-number
invariant-loop-number l = record {
  count : length l.made ≡ l.number;
  each : (p : ℕ) (shard : ShardValue) → slice_get l.made p ≡ Some shard → IsShardOf l.catalog l.parts p shard;
  hold : HoldTheirParts l.catalog l.parts l.made (empty_database l.catalog);
}
