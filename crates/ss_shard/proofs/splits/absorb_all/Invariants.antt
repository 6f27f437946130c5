use Rattle.std.proofs.Common.{◌≤◌}
use Rattle.ss_model.specs.Database.{Database}
use Rattle.ss_shard.specs.Splits.{ArePartlyJoined, HoldPartlyJoined}
use Rattle.ss_shard.proofs.splits.absorb_all.Given as goal

abbrev pub invariant-loop-next : goal.invariant-loop-next
invariant-loop-next l = record {
  some : 1 ≤ l.next;
  joined : ArePartlyJoined l.catalog l.parts l.next l.whole l.shards;
  hold : (db : Database) → HoldPartlyJoined l.catalog l.parts 1 l.fn.whole l.fn.shards db → HoldPartlyJoined l.catalog l.parts l.next l.whole l.shards db;
}
