-- The close of an engine: what is handed over.
use Rattle.std.specs.Prelude.{◌≡◌, ◌≤◌, ℕ, List, ◌++◌, length, slice_get, Some, None, IfSome, IfNone, Err}
use Rattle.ss_model.specs.declared.catalog.Catalog.{Catalog}
use Rattle.ss_model.specs.declared.entry.Answer.{Answer}
use Rattle.ss_model.specs.declared.entry.Listed.{Listed}
use Rattle.ss_model.specs.Database.{Database}
use Rattle.ss_model.specs.Orders.{Orders}
use Rattle.ss_model.specs.Replays.{Replays, after}
use Rattle.ss_shard.specs.Databases.{StandsFor}
use Rattle.ss_shard.specs.declared.database.Database as shard
use Rattle.ss_shard.specs.Parts.{IsWholeShard}
use Rattle.ss_commitlog.specs.declared.placed.Unlisted.TheVariants.{NoMemory}
use Rattle.ss_commitlog.specs.Meaning.{listed_of, HaveClientsBelow}
use Rattle.ss_commitlog.specs.Tokens.{Known}
use Rattle.ss_engine.specs.declared.session.close.Closed.{Closed}
use Rattle.ss_lanes.specs.Apart.{IsOfLane}
use Rattle.ss_lanes.specs.Lanes.{LaneView}
use Rattle.ss_settle.specs.Settlings.{SettledInOrder}
-- How its own steps ended, which whoever reports of a run reads.
pub use Rattle.ss_settle.specs.Ready.{SomeReady}
pub use Rattle.ss_settle.specs.Settlings.{EndedWith}

-- this database in one shard, with the streams beside it
abbrev pub IsLeft : Catalog → ℕ → Database → shard.Database → Type 0
IsLeft catalog n d left = IsWholeShard catalog n left.whole × StandsFor catalog left d

-- what is left where there was no memory to take all partitions in one hand: the list, without the database
abbrev pub list_alone : List Listed → Catalog → List (List Answer) → Closed
list_alone list catalog answers = record { list = list; database = None; catalog = catalog; answers = answers; settling = Err NoMemory; settled = 0 }

-- the whole list, with the database that it leaves, where there was memory to have it in one shard, and each lane's answers
pub record IsClosed (catalog : Catalog) (n clients first limit : ℕ) (db : Database) (disk : Known) (lanes : List LaneView) (closed : Closed) : Type 0 where
  pub replays : Replays catalog db closed.list
  pub orders : Orders catalog db closed.list
  pub of_clients : HaveClientsBelow clients closed.list
  pub within : length closed.list ≤ limit
  -- it goes on from what the disk's token knew, and from what each lane knew
  pub rest : List Listed
  pub begins : closed.list ≡ listed_of disk.list ++ rest
  pub many : length closed.answers ≡ clients
  pub each : (k : ℕ) (lane : LaneView) → slice_get lanes k ≡ Some lane → IsOfLane first k disk lane closed.list closed.answers
  pub left : IfSome closed.database (IsLeft catalog n (after catalog db closed.list))
  pub lost : IfNone closed.database (closed.settling ≡ Err NoMemory)
  pub catalog_is : closed.catalog ≡ catalog
  pub end : EndedWith catalog db limit closed.list closed.settling
  pub settled : SettledInOrder catalog db closed.list closed.settled closed.settling
