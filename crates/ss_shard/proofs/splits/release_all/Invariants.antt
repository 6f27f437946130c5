use Rattle.std.proofs.Common.{◌≤◌}
use Rattle.ss_model.specs.Database.{Database}
use Rattle.ss_shard.specs.Splits.{ArePartlyJoined, HoldPartlyJoined}
use Rattle.ss_shard.proofs.splits.release_all.Given as goal

abbrev pub invariant-loop-last : goal.invariant-loop-last
invariant-loop-last l = record {
  some : 1 ≤ l.last;
  within : l.last ≤ l.parts;
  joined : ArePartlyJoined l.catalog l.parts l.last l.whole l.shards;
  hold : (db : Database) → HoldPartlyJoined l.catalog l.parts l.held l.fn.whole l.fn.shards db → HoldPartlyJoined l.catalog l.parts l.last l.whole l.shards db;
}

abbrev pub decreases-loop-last : goal.decreases-loop-last
decreases-loop-last l = l.last
