-- The headline, a record or a name for each of its sentences.
use Rattle.std.specs.Prelude.{◌==◌, ◌&&◌, not, cond, ℕ, ◌+◌, ◌-◌, ◌^◌, ◌≤◌, min, List, length, drop}
use Rattle.ss_model.specs.declared.catalog.Catalog.{Catalog}
use Rattle.ss_model.specs.declared.entry.Listed.{Listed}
use Rattle.ss_model.specs.declared.entry.Request.{Request}
use Rattle.ss_model.specs.Database.{Database}
use Rattle.ss_model.specs.Recovery.{Recovery}
use Rattle.ss_model.specs.Orders.{Orders}
use Rattle.ss_model.specs.Replays.{Replays, after}
use Rattle.ss_model.specs.Report.{Report, End, Whole, Stopped}
use Rattle.ss_model.specs.Settling.{Drained}
use Rattle.ss_report_laws.specs.Replies.{mine}
use Rattle.ss_fronts.specs.Fronts.{AtLeast, FrontStands}
use Rattle.ss_headline.specs.Disks.{DiskChange, AtEachMoment, AtTheExit}

-- ---- the one serial list

-- the text tells one list, which begins at a database and a place, and replies and tables are those of this list, run in its order
pub record RepliesAndTables (catalog : Catalog) (requests : List Request) (db : Database) (first : ℕ) (list : List Listed) (end : End)
    (text : List ℕ) : Type 0 where
  pub one_by_one : Replays catalog db list
  pub report : Report catalog requests db first list end text

-- each procedure takes its batches in order, and each batch meets the procedures of its workflow in graph order and none twice
abbrev pub InOrder : Catalog → Database → List Listed → Type 0
InOrder catalog db list = Orders catalog db list

-- each accepted batch has met each procedure of its workflow exactly once
abbrev pub AtTheEnd : Catalog → Database → List Listed → Type 0
AtTheEnd catalog db list = Drained catalog (after catalog db list)

-- ---- crashes

-- wherever a crash falls in the call, it leaves what it might have left before, or a disk that is a front of the list
abbrev pub WhereverACrashFalls : Recovery → Catalog → Database → ℕ → List Listed → DiskChange → Type 0
WhereverACrashFalls recovery catalog db first list disk = AtEachMoment disk (FrontStands recovery catalog db first list first)

-- So much that a crash at some moment of the call could not take, a crash at no later moment takes: so many executions, or on a weak store
-- so many of the requests of the list and what it goes on from.
abbrev pub ReceiptsStay : Recovery → Catalog → List Listed → DiskChange → Type 0
ReceiptsStay recovery catalog list disk = disk.honest → (n : ℕ) → disk.stays (AtLeast recovery catalog list n)

-- at the exit it leaves a front that is the whole list
abbrev pub AllStands : Recovery → Catalog → Database → ℕ → List Listed → DiskChange → Type 0
AllStands recovery catalog db first list disk = AtTheExit disk (FrontStands recovery catalog db first list (first + length list))

-- a client's entries from a place on, in a list that begins at a place
abbrev pub entries_from : ℕ → ℕ → ℕ → List Listed → List (ℕ × Listed)
entries_from client place first list = mine client place (drop (place - first) list)

-- at the exit it leaves a front that ends at this place of the list, or its end, at least, and of each client at most 16 entries are from
-- there on
pub record EveryReceiptStands (recovery : Recovery) (catalog : Catalog) (db : Database) (first : ℕ) (list : List Listed) (count : ℕ)
    (disk : DiskChange) : Type 0 where
  pub from_first : first ≤ count
  pub within : count ≤ first + length list
  pub fronts : AtTheExit disk (FrontStands recovery catalog db first list count)
  pub few_behind : (client : ℕ) → length (entries_from client count first list) ≤ 16

-- ---- a whole run

pub record WholeSession (recovery : Recovery) (catalog : Catalog) (requests : List Request) (first : ℕ) (list : List Listed) (text : List ℕ)
    (disk : DiskChange) (db : Database) : Type 0 where
  pub replies_and_tables : RepliesAndTables catalog requests db first list Whole text
  pub in_order : InOrder catalog db list
  pub wherever_a_crash_falls : WhereverACrashFalls recovery catalog db first list disk
  pub receipts_stay : ReceiptsStay recovery catalog list disk
  pub all_stands : AllStands recovery catalog db first list disk
  pub at_the_end : AtTheEnd catalog db list

-- ---- a run that stopped

-- the most entries of a session that begins at this place
abbrev pub room_from : ℕ → ℕ → ℕ
room_from limit first = min limit (2 ^ 60 - first)

-- The stop with this status and count, of this list, at a disk with these faults before and now. A reply may say that the list is full
-- where it is, but not at a stop for want of memory (6); and that the disk has failed at the stop alone that tells so (5).
abbrev pub stop_at : ℕ → ℕ → ℕ → ℕ → List Listed → ℕ → ℕ → End
stop_at status count limit first list before now =
    Stopped (record {
      status = status;
      count = count;
      at_limit = not (status == 6) && length list == room_from limit first;
      faults_before = before;
      faults_after = cond (status == 5) now 0;
    })

-- it stopped with this status, and the executions below this count are receipted
pub record StoppedSession (recovery : Recovery) (catalog : Catalog) (requests : List Request) (limit first : ℕ) (list : List Listed)
    (status count : ℕ) (text : List ℕ) (disk : DiskChange) (db : Database) : Type 0 where
  pub replies : RepliesAndTables catalog requests db first list (stop_at status count limit first list disk.faults_before disk.faults_now) text
  pub in_order : InOrder catalog db list
  pub wherever_a_crash_falls : WhereverACrashFalls recovery catalog db first list disk
  pub receipts_stay : ReceiptsStay recovery catalog list disk
  pub every_receipt_stands : EveryReceiptStands recovery catalog db first list count disk
