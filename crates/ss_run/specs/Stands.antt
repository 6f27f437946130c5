-- What a store between two executions stands for, and an entry that has run on it.
use Rattle.std.specs.Prelude.{◌≡◌, ◌≤◌, ◌^◌, ℕ, List, [], ◌∷◌, ◌++◌, length}
use Rattle.ss_model.specs.declared.catalog.Catalog.{Catalog}
use Rattle.ss_model.specs.declared.entry.Entry.{Entry}
use Rattle.ss_model.specs.declared.entry.Outcome.{Outcome}
use Rattle.ss_model.specs.declared.entry.Listed.{Listed}
use Rattle.ss_model.specs.Database.{Database as Model, empty_database}
use Rattle.ss_model.specs.Replays.{Replays, after}
use Rattle.ss_model.specs.WholeDatabase.{WholeDatabase, HadAtMost}
use Rattle.ss_shard.specs.Databases.{StandsFor}
use Rattle.ss_shard.specs.ShardValue.{ShardValue}
use Rattle.ss_shard.specs.Shards.{CanRollBack, IsOf, IsCommitted}
use Rattle.ss_proc.specs.declared.runner.Executed.{Executed}
use Rattle.ss_proc.specs.Entries.{EntryHasSource, Ran}
use Rattle.ss_run.specs.declared.entry.Store.{Store}

-- the database after a list, from the empty one on
abbrev pub database_at : Catalog → List Listed → Model
database_at catalog list = after catalog (empty_database catalog) list

-- a list may begin on this database, at this place: it is whole, no stream of it has had more batches than there are places before
-- the list, and no procedure has taken more
pub record CanOpen (catalog : Catalog) (opening : Model) (first : ℕ) : Type 0 where
  pub whole : WholeDatabase catalog opening
  pub had : HadAtMost first opening
  pub few : first ≤ 2 ^ 60

-- between executions: the list replays from the opening on, and the database stands for the one after it, in one shard, of
-- partition 0, with nothing to roll back
pub record IsAt (catalog : Catalog) (opening : Model) (store : Store) : Type 0 where
  pub opens : CanOpen catalog opening store.first
  pub replays : Replays catalog opening store.list
  pub committed : IsCommitted catalog store.database.whole
  pub number : store.database.whole.number ≡ 0
  pub stands : StandsFor catalog store.database (after catalog opening store.list)

-- a list with an entry and its outcome behind it
abbrev pub with_entry : List Listed → Entry → Outcome → List Listed
with_entry list e outcome = list ++ record { entry = e; outcome = outcome } ∷ []

-- an entry joined the list at its end, which is this place, with this outcome
abbrev pub JoinedAs : List Listed → List Listed → Entry → ℕ × Outcome → Type 0
JoinedAs list new e answered = (answered.0 ≡ length list) × (new ≡ with_entry list e answered.1)

-- an entry joined the list at its end, with some outcome
pub record Joined (list new : List Listed) (e : Entry) : Type 0 where
  pub outcome : Outcome
  pub joined : new ≡ with_entry list e outcome

-- ---- one execution

-- an entry has run on the shard to which the list had led, and can be rolled back to it
pub record CanBeListed (catalog : Catalog) (opening : Model) (before : ShardValue) (store : Store) (e : Entry) (executed : Executed) : Type 0 where
  pub at : IsAt catalog opening (record store { database = record store.database { whole = before } })
  pub back : CanRollBack before store.database.whole
  pub of_catalog : IsOf catalog store.database.whole
  pub sourced : EntryHasSource e executed.outcome store.database.whole.sources
  pub ran : Ran catalog (after catalog opening store.list) e executed store.database.whole
