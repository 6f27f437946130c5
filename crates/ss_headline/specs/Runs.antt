-- Runs on a disk: the session is one from each database that the disk stood for.
use Rattle.std.specs.Prelude.{◌≡◌, ◌⊎◌, ◌<◌, ◌≤◌, ◌+◌, ℕ, List, length, take, Option, Some, None}
use Rattle.ss_value.specs.FaultCounts.{Rose}
use Rattle.ss_model.specs.declared.catalog.Catalog.{Catalog}
use Rattle.ss_model.specs.declared.entry.Listed.{Listed}
use Rattle.ss_model.specs.declared.entry.Request.{Request}
use Rattle.ss_model.specs.Database.{Database}
use Rattle.ss_model.specs.Recovery.{Recovery}
use Rattle.ss_model.specs.Asked.{listed_entries}
use Rattle.ss_model.specs.Settling.{kept}
use Rattle.ss_model.specs.WholeDatabase.{WholeDatabase}
use Rattle.ss_disk.specs.Files.{Files}
use Rattle.ss_cmdlog.specs.Generation.{Stood}
use Rattle.ss_cmdlog.specs.Logged.{logged}
use Rattle.ss_cmdlog.specs.Store.{StandsFor, entries_of}
use Rattle.ss_standing.specs.Ends.{EndAs}
use Rattle.ss_fronts.specs.Fronts.{BeganAt, StoodAs, mode_of}
use Rattle.ss_headline.specs.Disks.{DiskChange}
use Rattle.ss_headline.specs.Sentences.{WholeSession, StoppedSession, room_from}

-- Before the call the disk was what a run begins at from this place and database, where it tells its contents; and this holds from each
-- database of which the same is kept.
pub record FromStore (recovery : Recovery) (catalog : Catalog) (opening : Database) (first : ℕ) (disk : DiskChange) (session : Database → Type 0) : Type 0 where
  pub whole : WholeDatabase catalog opening
  pub began : disk.tells → BeganAt recovery catalog opening first
  pub stood : disk.tells → StoodAs recovery catalog opening first disk.seen_before
  pub each : (db : Database) → kept catalog db ≡ kept catalog opening → session db

-- ---- what the log has

-- the last entries of the store are those that a log of its mode has of the list; with checkpoints it may have begun anew in the middle of it
pub record LogEndsAs (recovery : Recovery) (every : Option ℕ) (list : List Listed) (seen : Files) : Type 0 where
  pub stood : Stood
  pub stands : StandsFor seen stood
  pub ends : EndAs every (entries_of stood) (logged (mode_of recovery) (listed_entries list))

-- so they are those of a front of the list, which ends at this place at least
pub record LogEndsWithFront (recovery : Recovery) (every : Option ℕ) (first : ℕ) (list : List Listed) (least : ℕ) (seen : Files) : Type 0 where
  pub some : ℕ
  pub within : some ≤ length list
  pub enough : least ≤ first + some
  pub logged : LogEndsAs recovery every (take some list) seen

-- the current generation began less than so many executions before this place
pub record BeginsNear (every place : ℕ) (seen : Files) : Type 0 where
  pub stood : Stood
  pub stands : StandsFor seen stood
  pub near : place < stood.first + every

-- behind a list that began at this place the log ends as the list does, and with checkpoints its generation began near the end
abbrev pub Logged : Recovery → Option ℕ → ℕ → List Listed → Files → Type 0
Logged recovery None first list seen = LogEndsAs recovery None list seen
Logged recovery (Some every) first list seen = LogEndsAs recovery (Some every) list seen × BeginsNear every (first + length list) seen

-- the disk failed in the call, and the run stopped with the status that tells so (5), or where there was no memory to tell it (6)
pub record HasFailed (status : ℕ) (disk : DiskChange) : Type 0 where
  pub status_is : (status ≡ 5) ⊎ (status ≡ 6)
  pub rose : Rose disk.faults_before disk.faults_now

-- the log ends as a front of the list that has all below this count, or the disk has failed
abbrev pub LogEndsAsStopped : Recovery → Option ℕ → ℕ → ℕ → List Listed → ℕ → DiskChange → Type 0
LogEndsAsStopped recovery every status first list count disk =
    disk.tells → LogEndsWithFront recovery every first list count disk.seen_now ⊎ HasFailed status disk

-- ---- runs

-- This list, which began at this database and place, is a whole run with this report. Without checkpoints the log ends with the list,
-- and tells it also where the report is cut; with them the last one is near the list's end.
pub record IsWholeRun (recovery : Recovery) (every : Option ℕ) (limit : ℕ) (catalog : Catalog) (requests : List Request) (opening : Database)
    (first : ℕ) (list : List Listed) (text : List ℕ) (disk : DiskChange) : Type 0 where
  pub within : length list ≤ room_from limit first
  pub logged : disk.tells → Logged recovery every first list disk.seen_now
  pub session : FromStore recovery catalog opening first disk (WholeSession recovery catalog requests first list text disk)

-- the list stopped with this status, where the executions below the count are receipted
pub record IsStoppedRun (recovery : Recovery) (every : Option ℕ) (limit : ℕ) (catalog : Catalog) (requests : List Request)
    (opening : Database) (first : ℕ) (list : List Listed) (status count : ℕ) (text : List ℕ) (disk : DiskChange) : Type 0 where
  pub within : length list ≤ room_from limit first
  pub logged : LogEndsAsStopped recovery every status first list count disk
  pub session : FromStore recovery catalog opening first disk (StoppedSession recovery catalog requests limit first list status count text disk)
