use Rattle.std.proofs.Common.{◌≡◌, ◌≤◌, ◌+◌, ◌^◌, length, map}
use Rattle.ss_shard.specs.Databases.{IsWhole}
use Rattle.ss_shard.specs.Parts.{dealing_of}
use Rattle.ss_weak_replay.proofs.Replaying.{FrontReplayed}
use Rattle.ss_weak_replay.proofs.replay.replay_on.Given as goal

-- the list is the weak one of the entries so far on each database that the given one stood for
abbrev pub invariant-loop-entry : goal.invariant-loop-entry
invariant-loop-entry g l = record {
  front : FrontReplayed l.catalog l.fn.so_far.database l.first l.fn.entries l.entry-iterator.rest.items l.before l.so_far.list l.so_far.database;
  placed : l.first + length l.so_far.list ≤ 2 ^ 60;
  many : l.before ≤ length l.so_far.list;
  whole : IsWhole l.catalog l.so_far.database;
  dealt : map dealing_of l.so_far.database.whole.tables ≡ map dealing_of l.fn.so_far.database.whole.tables;
}
