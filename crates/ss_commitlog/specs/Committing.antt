-- What stands behind the lock, and what a commit answers.
use Rattle.std.specs.Prelude.{◌≡◌, ◌≤◌, ◌<◌, ℕ, ◌+◌, ◌^◌, List, [], length, set, Ok, Err}
use Rattle.std.specs.declared.result.Result.{Result}
use Rattle.atomic_table.specs.Seated.{TableId}
use Rattle.atomic_table.specs.declared.shared.Seat.{Seat}
use Rattle.ss_model.specs.declared.catalog.Catalog.{Catalog}
use Rattle.ss_model.specs.declared.entry.Entry.{Entry}
use Rattle.ss_model.specs.declared.entry.Entry.TheVariants.{Step as StepEntry}
use Rattle.ss_model.specs.declared.entry.Listed.{Listed}
use Rattle.ss_model.specs.Database.{Database, stream_batches}
use Rattle.ss_model.specs.Replays.{after}
use Rattle.ss_model.specs.Orders.{MatchesCounts}
use Rattle.ss_model.specs.Accepted.{Accepted}
use Rattle.ss_stream.specs.Pending.{Pending}
use Rattle.ss_stream.specs.OfDatabase.{AreStreamsOf}
use Rattle.ss_commitlog.specs.declared.rule.Item.{Item}
use Rattle.ss_commitlog.specs.declared.rule.View.{View}
use Rattle.ss_commitlog.specs.declared.placed.Unlisted.{Unlisted}
use Rattle.ss_commitlog.specs.declared.placed.Unlisted.TheVariants.{NoMemory, ListFull}
use Rattle.ss_commitlog.specs.Meaning.{IsLegal, listed_of}
use Rattle.ss_partition.specs.Homes.{homes_of}
use Rattle.ss_commitlog.specs.Tokens.{Known, log_view, roles_of, added, AllKnow, AllContinue}

-- an accepted catalogue on some partitions, with a database of its own
pub record IsOpening (catalog : Catalog) (parts : ℕ) (db : Database) : Type 0 where
  pub accepted : Accepted catalog
  pub some : 1 ≤ parts
  pub matches : MatchesCounts catalog db

-- how many batches each procedure has taken after an entry: a step takes one
abbrev pub counts_after : Entry → List ℕ → List ℕ
counts_after (StepEntry q r) counts = set counts q (r + 1)
counts_after e counts = counts

-- the step's procedure has a count, and its batch is far from the end of 64 bits
abbrev pub CanCount : List ℕ → Entry → Type 0
CanCount counts (StepEntry q r) = (q < length counts) × (r < 2 ^ 63)
CanCount counts e = Unit {0}

-- streams and counts are those of a database, and homes those of the catalogue's procedures
pub record IsFlow (catalog : Catalog) (parts : ℕ) (d : Database) (streams : List Pending) (counts homes : List ℕ) : Type 0 where
  pub streams_are : AreStreamsOf catalog d streams
  pub counts_are : counts ≡ d.counts
  pub homes_are : homes ≡ homes_of catalog parts

-- the log's seat, at the log's table, knows just this list
pub record IsLogSeat (table : TableId) (list : List Listed) (seat : Seat Listed View) : Type 0 where
  pub table_is : seat.table_id ≡ table
  pub same : listed_of seat.me.0.now.known ≡ list
  pub log : seat.me ≡ (log_view seat.me.0.now.known seat.me.0.now.count seat.me.0.now.faults, [])

-- the place of the first entry and how many there may be are those of the opening, and so small that no place and no number of a
-- batch is near the end of 64 bits
pub record AreBounds (first limit : ℕ) (db : Database) (f l : ℕ) : Type 0 where
  pub first_is : f ≡ first
  pub limit_is : l ≡ limit
  pub small : f + l ≤ 2 ^ 60
  pub few : (s : ℕ) → length (stream_batches db s) ≤ f

-- what stands behind the lock: a legal list, the log's seat, which knows it, and streams and counts as the list leaves them
pub record IsDesk (table : TableId) (catalog : Catalog) (parts clients first limit : ℕ) (db : Database) (list : List Listed) (f l : ℕ)
    (streams : List Pending) (counts homes : List ℕ) (seat : Seat Listed View) : Type 0 where
  pub opening : IsOpening catalog parts db
  pub bounds : AreBounds first limit db f l
  pub log_seat : IsLogSeat table list seat
  pub legal : IsLegal catalog parts clients limit db seat.me.0.now.known
  pub flow : IsFlow catalog parts (after catalog db list) streams counts homes

-- the answer to a commit under the lock, where the list goes from one to the other and the marks from ks to ms: the entry's place, or
-- why it has none
abbrev pub IsCommitted : Catalog → ℕ → ℕ → ℕ → List Item → List Item → List Known → Listed → List Known → Result ℕ Unlisted → Type 0
IsCommitted catalog parts first limit old new ks l ms (Ok place) =
    (new ≡ added old (roles_of ks) l) × (place ≡ first + length old) × (place < 2 ^ 60) × AllKnow new ks ms × AllContinue catalog parts old ks
IsCommitted catalog parts first limit old new ks l ms (Err NoMemory) = (new ≡ old) × (ms ≡ ks)
IsCommitted catalog parts first limit old new ks l ms (Err (ListFull count)) =
    (new ≡ old) × (count ≡ limit) × (length old ≡ limit) × AllKnow old ks ms × AllContinue catalog parts old ks

-- the same as a caller sees it, who knows of the list by the tokens alone: the entry stands at its place, behind a list that goes on
-- from what each mark knew, and all marks know the list that ends with it
abbrev pub Commits : Catalog → ℕ → ℕ → ℕ → List Known → Listed → List Known → Result ℕ Unlisted → Type 0
Commits catalog parts first limit ks l ms (Ok place) =
    (list : List Item) × (place ≡ first + length list) × (place < 2 ^ 60) × AllKnow (added list (roles_of ks) l) ks ms × AllContinue catalog parts list ks
Commits catalog parts first limit ks l ms (Err NoMemory) = ms ≡ ks
Commits catalog parts first limit ks l ms (Err (ListFull count)) =
    (list : List Item) × (count ≡ limit) × (length list ≡ limit) × AllKnow list ks ms × AllContinue catalog parts list ks
