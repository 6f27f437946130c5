-- What a run of clients in threads comes to, and what its disk then has.
use Rattle.std.specs.Prelude.{◌≡◌, ◌⊎◌, ◌≤◌, ◌<◌, ◌+◌, ℕ, List, [], length, Option, Some, IfSome, IfNone, IsOk, Result, Err, true}
use Rattle.ss_disk.specs.Kinds.{DiskKind, present}
use Rattle.std.specs.List.{AllByRecursion}
use Rattle.ss_model.specs.declared.catalog.Catalog.{Catalog}
use Rattle.ss_model.specs.declared.entry.Listed.{Listed}
use Rattle.ss_model.specs.Recovery.{Recovery}
use Rattle.ss_model.specs.declared.entry.Request.{Request}
use Rattle.ss_model.specs.Database.{Database}
use Rattle.ss_model.specs.Orders.{Orders}
use Rattle.ss_model.specs.Replays.{Replays, after}
use Rattle.ss_report_laws.specs.Replies.{mine, answers_of}
use Rattle.ss_report_laws.specs.Resuming.{AreToldTo, NoneBehindStop}
use Rattle.ss_disk.specs.Files.{Files}
use Rattle.ss_disk.specs.Moments.{LeavesOnly}
use Rattle.ss_shard.specs.Databases.{StandsFor}
use Rattle.ss_shard.specs.Shards.{IsCommitted}
use Rattle.ss_shard.specs.declared.database.Database as shard
use Rattle.ss_cmdlog.specs.declared.log.CmdLog.{CmdLog}
use Rattle.ss_cmdlog.specs.Generation.{Stood}
use Rattle.ss_cmdlog.specs.Log.{IsOpen}
use Rattle.ss_commitlog.specs.declared.placed.Unlisted.TheVariants.{NoMemory}
use Rattle.ss_commitlog.specs.Meaning.{HaveClientsBelow}
use Rattle.ss_fronts.specs.Fronts.{BeganAt, FrontStands, HoldsFront, StandsOnBy}
use Rattle.ss_cmdlog.specs.declared.log.Receipt.{Receipt as ReceiptValue}
use Rattle.ss_receipts.specs.declared.durable.DurableError.{DurableError}
use Rattle.ss_receipts.specs.Durable.{IsDurable}
use Rattle.ss_receipts.specs.Holding.{Holds}
use Rattle.ss_receipts.specs.Past.{past_of}
use Rattle.ss_engine.specs.declared.session.close.Closed.{Closed}
use Rattle.ss_engine.specs.declared.session.run.Finished.{Finished}
use Rattle.ss_lanes.specs.Clients.{AreListedOr, requests_from}
use Rattle.ss_settle.specs.Settlings.{EndedWith, SettledInOrder}
use Rattle.ss_lanes.specs.Dues.{FewOpen, entries_from}
use Rattle.ss_lanes.specs.Lanes.{start_of}

-- each request is of one of so many clients
abbrev pub AreOfClients : ℕ → List Request → Type 0
AreOfClients clients requests = AllByRecursion (λ (r : Request). r.client < clients) requests

-- where a run begins: how its store is had again, and the database
pub record Beginning : Type 0 where
  pub recovery : Recovery
  pub db : Database

-- a database that a list leaves, between executions
abbrev pub IsLeftOver : Catalog → Database → shard.Database → Type 0
IsLeftOver catalog d left = StandsFor catalog left d × IsCommitted catalog left.whole

-- the run of these requests, of each client from its first one here on, whose list begins at this database and this place, where all
-- places below a count have receipts, and the disk failed at these faults, if at any
pub record IsRun (catalog : Catalog) (db : Database) (first limit clients : ℕ) (requests : List Request) (starts : List ℕ) (count faults : ℕ) (closed : Closed) : Type 0 where
  -- one list that replays, each of its entries a step or of one of the clients
  pub replays : Replays catalog db closed.list
  pub orders : Orders catalog db closed.list
  pub of_clients : HaveClientsBelow clients closed.list
  pub within : length closed.list ≤ limit
  -- each request has an answer, and the list has of each client just the entries that its answers report, at their places
  pub told : (client : ℕ) → AreToldTo client (start_of starts client) first closed.list (requests_from starts client requests) (answers_of closed.answers client)
  -- none is listed behind an answer that the list is full, or that the disk has failed
  pub stops : (client : ℕ) → NoneBehindStop (answers_of closed.answers client)
  -- the other answers say that there was no memory, or that the list is full, which it then is, or that the disk has failed
  pub others : (client : ℕ) → AreListedOr limit (length closed.list) faults (answers_of closed.answers client)
  -- of each client at most 16 entries stand behind those that have a receipt
  pub few_behind : (client : ℕ) → FewOpen (mine client first closed.list) count 16
  -- the database after the list, where there was memory to have it in one shard, and how settling ended on it
  pub left : IfSome closed.database (IsLeftOver catalog (after catalog db closed.list))
  pub lost : IfNone closed.database (closed.settling ≡ Err NoMemory)
  pub catalog_is : closed.catalog ≡ catalog
  pub end : EndedWith catalog db limit closed.list closed.settling
  -- its last entries are the steps by which the database before them settles, in the model's order
  pub settled : SettledInOrder catalog db closed.list closed.settled closed.settling

-- ---- with a disk

module _ {D : Type 0} (kind : DiskKind D) where
  -- the log is open on a generation behind which a run begins at this database and place
  pub record OpensOn (recovery : Recovery) (catalog : Catalog) (db : Database) (first : ℕ) (log : CmdLog D) : Type 0 where
    pub stood : Stood
    pub going : IsOpen kind log stood
    -- bodies may be in it, so whatever runs may be logged
    pub formed : stood.bodies ≡ true
    pub count : log.count ≡ first
    pub began : kind.tells → BeganAt recovery catalog db first
    pub held : kind.tells → HoldsFront recovery catalog db first [] 0 stood

  -- a crash now leaves what has P
  abbrev pub LeavesNow : D → (Files → Type 0) → Type 0
  LeavesNow disk P = kind.honest → (image : Files) → present kind disk image → P image

  -- with checkpoints, or without
  module _ (recovery : Recovery) (every : Option ℕ) (catalog : Catalog) (db : Database) (first : ℕ) where
    -- where checkpoints are asked for and the last flush went well, the log's generation begins near the end of the list
    abbrev pub EndsNear : Finished D → Type 0
    EndsNear ended = IsOk ended.flushed → (k : ℕ) → every ≡ Some k → first + length ended.closed.list < ended.log.first + k

    -- of a log that had all of a list at this receipt: it has, faults that were told are the same ones, and what is answered is that
    -- receipt, with a generation that begins near the end, or why there is no such
    pub record IsTrimmedTo (opened before : ℕ) (past : ℕ → List (List ℕ) → Type 0) (list : List Listed) (receipt : ReceiptValue) (old_fault : ℕ) (new : CmdLog D) (answer : Result ReceiptValue DurableError) : Type 0 where
      pub fault : ℕ
      pub holds : Holds recovery every catalog db first opened before past kind list new receipt.count fault
      pub told : (old_fault ≡ 0) ⊎ (old_fault ≡ fault)
      pub flushed : IsDurable receipt.count receipt.count fault answer
      pub near : IsOk answer → (k : ℕ) → every ≡ Some k → receipt.count < new.first + k

    -- a run's list was flushed behind a receipted count, and where faults were told of before, they are the same. The disk was at this
    -- moment at the opening, with these faults and this past
    pub record IsFlushed (opened before : ℕ) (past : ℕ → List (List ℕ) → Type 0) (old_count old_fault : ℕ) (ended : Finished D) : Type 0 where
      pub count : ℕ
      pub fault : ℕ
      pub holds : Holds recovery every catalog db first opened before past kind ended.closed.list ended.log count fault
      pub more : old_count ≤ ended.receipted
      pub within : ended.receipted ≤ count
      pub told : (old_fault ≡ 0) ⊎ (old_fault ≡ fault)
      pub flushed : IsDurable (first + length ended.closed.list) count fault ended.flushed
      pub all_receipted : IsOk ended.flushed → ended.receipted ≡ first + length ended.closed.list
      pub near : EndsNear ended

    -- what a run on a log leaves: what the log holds of the run's list, and how the last flush ended; a crash now leaves a front of the
    -- list that ends at the count that is told at least, and where the last flush went well, all of it
    pub record Ends (limit clients opened before : ℕ) (past : ℕ → List (List ℕ) → Type 0) (requests : List Request) (starts : List ℕ) (ended : Finished D) : Type 0 where
      pub count : ℕ
      pub fault : ℕ
      pub run : IsRun catalog db first limit clients requests starts ended.receipted fault ended.closed
      pub holds : Holds recovery every catalog db first opened before past kind ended.closed.list ended.log count fault
      pub begun : first ≤ ended.receipted
      pub within : ended.receipted ≤ count
      pub flushed : IsDurable (first + length ended.closed.list) count fault ended.flushed
      pub near : EndsNear ended
      pub fronts : LeavesNow ended.log.disk (FrontStands recovery catalog db first ended.closed.list ended.receipted)
      pub all_stands : IsOk ended.flushed → LeavesNow ended.log.disk (FrontStands recovery catalog db first ended.closed.list (first + length ended.closed.list))

    -- the same with the log at the opening: a crash at any moment since then leaves a front of the list, and takes nothing that one at an
    -- earlier moment could not take; what is below the count that is told stands for good, and of each client at most 16 entries stand from there on
    pub record EndsOnDisk (limit clients : ℕ) (requests : List Request) (starts : List ℕ) (old : CmdLog D) (ended : Finished D) : Type 0 where
      pub ends : Ends limit clients (kind.moment old.disk) (kind.faults old.disk) (past_of kind.images old.disk) requests starts ended
      pub crashes : kind.honest → LeavesOnly kind.moment kind.images old.disk ended.log.disk (FrontStands recovery catalog db first ended.closed.list first)
      pub stands_on : kind.honest → StandsOnBy recovery catalog ended.closed.list kind.moment kind.images (kind.moment old.disk) ended.log.disk
      pub few_behind : (client : ℕ) → entries_from client ended.receipted first ended.closed.list ≤ 16
