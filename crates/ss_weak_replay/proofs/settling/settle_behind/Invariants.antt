use Rattle.std.proofs.Common.{◌≡◌, ◌≤◌, ◌+◌, ◌-◌, ◌^◌, length, map}
use Rattle.ss_model.specs.Database.{Database as Model}
use Rattle.ss_shard.specs.Parts.{dealing_of}
use Rattle.ss_shard.specs.Shards.{IsCommitted}
use Rattle.ss_replay.specs.Replaying.{IsOnAt}
use Rattle.ss_weak_replay.proofs.SettledLists.{SettlesSoFar}
use Rattle.ss_weak_replay.proofs.settling.settle_behind.Given as goal

-- the steps so far are those of settling on each database that the given one stood for
abbrev pub invariant-loop-procedure : goal.invariant-loop-procedure
invariant-loop-procedure g l = record {
  far : (d : Model) → IsOnAt l.catalog l.fn.so_far.database (l.first + length l.fn.so_far.list) d → SettlesSoFar l.catalog d l.fn.so_far.list l.so_far.list l.so_far.database;
  placed : l.first + length l.so_far.list ≤ 2 ^ 60;
  committed : IsCommitted l.catalog l.so_far.database.whole;
  number : l.so_far.database.whole.number ≡ 0;
  dealt : map dealing_of l.so_far.database.whole.tables ≡ map dealing_of l.fn.so_far.database.whole.tables;
}

-- each step takes one of the places that are left
abbrev pub decreases-loop-procedure : goal.decreases-loop-procedure
decreases-loop-procedure g l = 2 ^ 60 - (l.first + length l.so_far.list)
