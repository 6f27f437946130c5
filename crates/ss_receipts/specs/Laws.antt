-- What follows where a log holds a list.
use Rattle.std.specs.Prelude.{ℕ, List, ◌++◌, Option, All}
use Rattle.ss_model.specs.declared.catalog.Catalog.{Catalog}
use Rattle.ss_model.specs.declared.entry.Listed.{Listed}
use Rattle.ss_model.specs.Recovery.{Recovery}
use Rattle.ss_model.specs.Accepted.{Accepted}
use Rattle.ss_model.specs.Database.{Database}
use Rattle.ss_model.specs.Replays.{Replays}
use Rattle.ss_disk.specs.Files.{Files}
use Rattle.ss_fronts.specs.Fronts.{FrontStands}
use Rattle.ss_disk.specs.Kinds.{DiskKind}
use Rattle.ss_disk.specs.Moments.{LeavesOnly}
use Rattle.ss_record.specs.Bounds.{IsRecordable}
use Rattle.ss_cmdlog.specs.declared.log.CmdLog.{CmdLog}
use Rattle.ss_standing.specs.Standing.{listed_entries}
use Rattle.ss_receipts.specs.Past.{past_of, LeavesSince}
use Rattle.ss_receipts.specs.Holding.{Holds}

module _ (D : Type 0) (recovery : Recovery) (every : Option ℕ) (catalog : Catalog) (db : Database) (first opened before : ℕ) (past : ℕ → List (List ℕ) → Type 0) (kind : DiskKind D) where
  -- law: what holds of a list holds of each that goes on from it
  abbrev pub HoldsGoOn : Type 0
  HoldsGoOn =
      (list more : List Listed) (log : CmdLog D) (count fault : ℕ) →
      Holds recovery every catalog db first opened before past kind list log count fault →
      Holds recovery every catalog db first opened before past kind (list ++ more) log count fault

-- law: where the past is that of a disk, and the opening its moment, the fronts that are left since are left between the two disks
abbrev pub PastIsOfDisk : (D : Type 0) → (D → ℕ) → (D → ℕ → Files → Type 0) → Type 0
PastIsOfDisk D moment images =
    (recovery : Recovery) (catalog : Catalog) (db : Database) (first : ℕ) (list : List Listed) (old new : D) →
    LeavesSince moment images (moment old) (past_of images old) new (FrontStands recovery catalog db first list first) →
    LeavesOnly moment images old new (FrontStands recovery catalog db first list first)

-- law: the entries of a list that replays have records
abbrev pub ReplayedAreRecordable : Type 0
ReplayedAreRecordable =
    (catalog : Catalog) (db : Database) (list : List Listed) → Accepted catalog → Replays catalog db list → All IsRecordable (listed_entries list)
