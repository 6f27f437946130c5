use Rattle.std.proofs.Common.{◌≡◌, ◌≤◌, ◌+◌, ◌^◌, ◌++◌, length, map}
use Rattle.ss_model.specs.declared.entry.Listed.{Listed}
use Rattle.ss_model.specs.Database.{Database as Model}
use Rattle.ss_shard.specs.Parts.{dealing_of}
use Rattle.ss_shard.specs.Shards.{IsCommitted}
use Rattle.ss_replay.specs.Replaying.{IsOnAt, IsReplayed}
use Rattle.ss_replay.proofs.entries.replay_on.Given as goal

-- the list has the entries so far, with the outcomes that they have on each database that the given one stood for
abbrev pub invariant-loop-entry : goal.invariant-loop-entry
invariant-loop-entry g l = record {
  left : map (λ (l : Listed). l.entry) l.list.items ++ l.entry-iterator.rest.items ≡ l.fn.entries;
  replayed : (d : Model) → IsOnAt l.catalog l.fn.database l.first d → IsReplayed l.catalog d l.list.items l.database;
  placed : l.first + length l.list.items ≤ 2 ^ 60;
  committed : IsCommitted l.catalog l.database.whole;
  number : l.database.whole.number ≡ 0;
  dealt : map dealing_of l.database.whole.tables ≡ map dealing_of l.fn.database.whole.tables;
  room : length l.entry-iterator.rest.items ≤ l.list.spare;
}
