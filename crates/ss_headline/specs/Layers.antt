-- What the calls below the top one owe, so that a run is what the headline says.
use Rattle.std.specs.Prelude.{◌≡◌, ℕ, ◌+◌, ◌<◌, ◌≤◌, List, [], ◌++◌, length, Option}
use Rattle.std.specs.List.{AllByRecursion}
use Rattle.ss_model.specs.declared.catalog.Catalog.{Catalog}
use Rattle.ss_model.specs.declared.entry.Listed.{Listed}
use Rattle.ss_model.specs.Database.{Database}
use Rattle.ss_model.specs.Recovery.{Recovery}
use Rattle.ss_model.specs.Orders.{Orders}
use Rattle.ss_model.specs.Replays.{Replays, after}
use Rattle.ss_model.specs.Settling.{Drained}
use Rattle.ss_model.specs.WholeDatabase.{WholeDatabase}
use Rattle.ss_report_laws.specs.Replies.{mine}
use Rattle.ss_fronts.specs.Fronts.{BeganAt, FrontStands, StoodAs}
use Rattle.ss_headline.specs.Disks.{DiskChange, AlwaysLeaves, AtEachMoment, AtTheExit}
use Rattle.ss_headline.specs.Runs.{Logged}
use Rattle.ss_headline.specs.Sentences.{ReceiptsStay}

-- a store was recovered, or made on an empty disk: the files were what a run begins at here, what a crash leaves anew at each moment is a
-- front of no entries, and nothing is pending on the disk
pub record Opened (recovery : Recovery) (catalog : Catalog) (db : Database) (first : ℕ) (disk : DiskChange) : Type 0 where
  pub whole : WholeDatabase catalog db
  pub began : disk.tells → BeganAt recovery catalog db first
  pub stood : disk.tells → StoodAs recovery catalog db first disk.seen_before
  pub crashes : AtEachMoment disk (FrontStands recovery catalog db first [] first)
  pub receipts_stay : (list : List Listed) → ReceiptsStay recovery catalog list disk
  pub settled : AtTheExit disk (λ image. image ≡ disk.seen_now)
  pub faults : disk.faults_before ≤ disk.faults_now

-- an engine was closed: its list since it was opened, and what a crash leaves at each moment since then
pub record Closed (recovery : Recovery) (catalog : Catalog) (db : Database) (first : ℕ) (list : List Listed) (disk : DiskChange) : Type 0 where
  pub replays : Replays catalog db list
  pub orders : Orders catalog db list
  pub crashes : AlwaysLeaves disk (FrontStands recovery catalog db first list first)
  pub receipts_stay : ReceiptsStay recovery catalog list disk

-- the engine had settled, and all was flushed: no batch is pending, all of the list is receipted, and the log ends as the list does
pub record Settled (recovery : Recovery) (every : Option ℕ) (catalog : Catalog) (db : Database) (first : ℕ) (list : List Listed)
    (disk : DiskChange) : Type 0 where
  pub drained : Drained catalog (after catalog db list)
  pub receipt : AtTheExit disk (FrontStands recovery catalog db first list (first + length list))
  pub logged : disk.tells → Logged recovery every first list disk.seen_now

-- a client's entries but for the last 16 at most stand below this place
pub record FewUnreceipted (client first : ℕ) (list : List Listed) (count : ℕ) : Type 0 where
  pub receipted : List (ℕ × Listed)
  pub others : List (ℕ × Listed)
  pub parts : mine client first list ≡ receipted ++ others
  pub below : AllByRecursion (λ (p : ℕ × Listed). p.0 < count) receipted
  pub few : length others ≤ 16

-- the receipts that clients were given: the greatest of them, or the place of the opening, and how few entries are not below it
pub record Receipted (recovery : Recovery) (catalog : Catalog) (db : Database) (first : ℕ) (list : List Listed) (count : ℕ)
    (disk : DiskChange) : Type 0 where
  pub from_first : first ≤ count
  pub within : count ≤ first + length list
  pub receipt : AtTheExit disk (FrontStands recovery catalog db first list count)
  pub few : (client : ℕ) → FewUnreceipted client first list count
