-- What a command log and its disk hold of a list that began at the opening.
use Rattle.std.specs.Prelude.{◌≡◌, ◌⊎◌, true, ℕ, ◌+◌, ◌-◌, ◌≤◌, ◌^◌, List, length, take, drop, Option, Some, None}
use Rattle.ss_disk.specs.Files.{Files}
use Rattle.ss_disk.specs.Kinds.{DiskKind, present}
use Rattle.ss_model.specs.declared.catalog.Catalog.{Catalog}
use Rattle.ss_model.specs.declared.entry.Entry.{Entry}
use Rattle.ss_model.specs.declared.entry.Listed.{Listed}
use Rattle.ss_model.specs.Recovery.{Recovery}
use Rattle.ss_model.specs.Database.{Database}
use Rattle.ss_model.specs.Replays.{Replays}
use Rattle.ss_value.specs.FaultCounts.{Rose}
use Rattle.ss_cmdlog.specs.declared.log.CmdLog.{CmdLog}
use Rattle.ss_cmdlog.specs.Generation.{Stood}
use Rattle.ss_cmdlog.specs.Log.{IsOpen}
use Rattle.ss_cmdlog.specs.Logged.{logged}
use Rattle.ss_cmdlog.specs.Store.{entries_of}
use Rattle.ss_commitlog.specs.Tokens.{Known}
use Rattle.ss_standing.specs.Ends.{EndAs}
use Rattle.ss_standing.specs.Standing.{listed_entries}
use Rattle.ss_fronts.specs.Fronts.{BeganAt, FrontStands, HoldsFront, StandsOnBy, mode_of}
use Rattle.ss_receipts.specs.Past.{LeavesSince}

-- by the disk's count of faults at the opening and now: the log goes on, no faults are told, and there were none; or it was halted at this
-- count, to which the disk's rose
abbrev pub HaltedAt : ℕ → ℕ → Option ℕ → ℕ → Type 0
HaltedAt before now halted fault = ((halted ≡ None) × (fault ≡ 0) × (now ≡ before)) ⊎ ((halted ≡ Some fault) × Rose before fault × (fault ≤ now))

-- the log is open on a generation that has the list up to this count, and whose entries end as those that a log of the mode has of that,
-- as far as the disk tells what it has
pub record GoesOnAt {D : Type 0} (recovery : Recovery) (every : Option ℕ) (kind : DiskKind D) (catalog : Catalog) (db : Database) (first : ℕ) (list : List Listed) (log : CmdLog D) (count : ℕ) : Type 0 where
  pub generation : Stood
  pub opened_at : IsOpen kind log generation
  -- bodies may be in it
  pub formed : generation.bodies ≡ true
  pub held : kind.tells → HoldsFront recovery catalog db first list (count - first) generation
  pub ends : kind.tells → EndAs every (entries_of generation) (logged (mode_of recovery) (listed_entries (take (count - first) list)))

-- Of the list, which began at this first place behind this database, the log's disk has all entries below the count for good, and
-- what a crash since the opening leaves is a front of it; what one at some moment since then could not take, one at no later moment
-- takes. A log that wasn't halted goes on at that count.
pub record Holds {D : Type 0} (recovery : Recovery) (every : Option ℕ) (catalog : Catalog) (db : Database) (first opened before : ℕ) (past : ℕ → List (List ℕ) → Type 0) (kind : DiskKind D) (list : List Listed) (log : CmdLog D) (count fault : ℕ) : Type 0 where
  pub began : kind.tells → BeganAt recovery catalog db first
  pub begun : first ≤ count
  pub within : count ≤ first + length list
  pub counted : log.halted ≡ None → log.count ≡ count
  pub later : before ≤ kind.faults log.disk
  pub halt : HaltedAt before (kind.faults log.disk) log.halted fault
  pub going : log.halted ≡ None → GoesOnAt recovery every kind catalog db first list log count
  pub crashes : kind.honest → LeavesSince kind.moment kind.images opened past log.disk (FrontStands recovery catalog db first list first)
  pub receipt : kind.honest → (image : Files) → present kind log.disk image → FrontStands recovery catalog db first list count image
  pub stands_on : kind.honest → StandsOnBy recovery catalog list kind.moment kind.images opened log.disk

-- the entries are those of a list that replays, from this place on, which has no place above the greatest
pub record AreRest (catalog : Catalog) (db : Database) (first : ℕ) (list : List Listed) (from : ℕ) (entries : List Entry) : Type 0 where
  pub replays : Replays catalog db list
  pub small : first + length list ≤ 2 ^ 60
  pub entries_are : entries ≡ listed_entries (drop (from - first) list)

-- a log, how far it is receipted, and the disk's note of the commit log
pub record KeeperView (D : Type 0) : Type 0 where
  pub log : CmdLog D
  pub count : ℕ
  pub note : Known
