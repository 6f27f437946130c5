-- How the headline's sentences come from what the calls below owe.
use Rattle.std.specs.Prelude.{◌≡◌, ◌+◌, ◌<◌, ◌≤◌, ℕ, List, length, Option, Some}
use Rattle.ss_model.specs.declared.catalog.Catalog.{Catalog}
use Rattle.ss_model.specs.declared.entry.Answer.{Answer}
use Rattle.ss_model.specs.declared.entry.Listed.{Listed}
use Rattle.ss_model.specs.declared.entry.Request.{Request}
use Rattle.ss_model.specs.Database.{Database}
use Rattle.ss_model.specs.Recovery.{Recovery, Strong}
use Rattle.ss_model.specs.Report.{End, Whole, Report, report_text}
use Rattle.ss_model.specs.Settling.{kept}
use Rattle.ss_report_laws.specs.Replies.{AreAnswered, weave}
use Rattle.ss_disk.specs.Files.{Files}
use Rattle.ss_cmdlog.specs.Generation.{Stood}
use Rattle.ss_cmdlog.specs.Logged.{logged}
use Rattle.ss_cmdlog.specs.Store.{StandsFor}
use Rattle.ss_standing.specs.Standing.{listed_entries, Stands}
use Rattle.ss_standing.specs.Behind.{IsBehind}
use Rattle.ss_fronts.specs.Fronts.{mode_of}
use Rattle.ss_headline.specs.Disks.{DiskChange}
use Rattle.ss_headline.specs.Sentences.{WholeSession, StoppedSession, entries_from, room_from, stop_at}
use Rattle.ss_headline.specs.Runs.{LogEndsAs, LogEndsAsStopped, Logged, IsWholeRun, IsStoppedRun}
use Rattle.ss_headline.specs.Layers.{Opened, Closed, Settled, FewUnreceipted, Receipted}

-- ---- receipts and logs

-- law: where a generation has a list behind the entries that it was opened with, the store's log ends with the list
abbrev pub LogsEndWithLists : Type 0
LogsEndWithLists =
    (recovery : Recovery) (every : Option ℕ) (opened now : Stood) (list : List Listed) (seen : Files) →
    IsBehind opened now (logged (mode_of recovery) (listed_entries list)) → StandsFor seen now → LogEndsAs recovery every list seen

-- law: where a log ends as a list does, and its generation began near the list's end, it has what it should with checkpoints
abbrev pub NearGenerationsBegin : Type 0
NearGenerationsBegin =
    (recovery : Recovery) (every first : ℕ) (list : List Listed) (now : Stood) (seen : Files) → LogEndsAs recovery (Some every) list seen →
    StandsFor seen now → first + length list < now.first + every → Logged recovery (Some every) first list seen

-- law: where all but 16 of a client's entries stand below a place, at most 16 are from there on
abbrev pub FewStandBehind : Type 0
FewStandBehind =
    (client first : ℕ) (list : List Listed) (count : ℕ) → first ≤ count → FewUnreceipted client first list count →
    length (entries_from client count first list) ≤ 16

-- law: and so they do below a later place
abbrev pub FewStayFew : Type 0
FewStayFew =
    (client first : ℕ) (list : List Listed) (count later : ℕ) → count ≤ later → FewUnreceipted client first list count →
    FewUnreceipted client first list later

module _ {D : Type 0} (disk_of : D → D → DiskChange) where
  -- ---- sessions

  -- law: an opening, an engine that was settled and closed, and its report are a whole session
  abbrev pub WholeSessions : Type 0
  WholeSessions =
      (recovery : Recovery) (every : Option ℕ) (catalog : Catalog) (requests : List Request) (db : Database) (first : ℕ) (list : List Listed)
      (text : List ℕ) (old mid new : D) → Opened recovery catalog db first (disk_of old mid) → Closed recovery catalog db first list (disk_of mid new) →
      Settled recovery every catalog db first list (disk_of mid new) →
      Report catalog requests db first list Whole text → WholeSession recovery catalog requests first list text (disk_of old new) db

  -- the stop of this list on a disk that was so before and is so now
  abbrev pub stop_on : ℕ → ℕ → ℕ → ℕ → List Listed → D → D → End
  stop_on status count limit first list old new =
      stop_at status count limit first list (disk_of old new).faults_before (disk_of old new).faults_now

  -- law: an opening, an engine that was closed, its receipts and its stopped report are a stopped session
  abbrev pub StoppedSessions : Type 0
  StoppedSessions =
      (recovery : Recovery) (catalog : Catalog) (requests : List Request) (limit : ℕ) (db : Database) (first : ℕ) (list : List Listed)
      (status count : ℕ) (text : List ℕ) (old mid new : D) → Opened recovery catalog db first (disk_of old mid) →
      Closed recovery catalog db first list (disk_of mid new) → Receipted recovery catalog db first list count (disk_of mid new) →
      Report catalog requests db first list (stop_on status count limit first list old new) text →
      StoppedSession recovery catalog requests limit first list status count text (disk_of old new) db

  -- law: what is said of a session from one database holds from another
  pub record HoldsFromOther (recovery : Recovery) (catalog : Catalog) (x y : Database) : Type 0 where
    pub whole : (requests : List Request) (first : ℕ) (list : List Listed) (text : List ℕ) (old new : D) →
        WholeSession recovery catalog requests first list text (disk_of old new) x → WholeSession recovery catalog requests first list text (disk_of old new) y
    pub stopped : (requests : List Request) (limit first : ℕ) (list : List Listed) (status count : ℕ) (text : List ℕ) (old new : D) →
        StoppedSession recovery catalog requests limit first list status count text (disk_of old new) x →
        StoppedSession recovery catalog requests limit first list status count text (disk_of old new) y

  -- law: of each two databases of which the same is kept
  abbrev pub SessionsHoldFromEach : Type 0
  SessionsHoldFromEach = (recovery : Recovery) (catalog : Catalog) (x y : Database) → kept catalog x ≡ kept catalog y → HoldsFromOther recovery catalog x y

  -- ---- runs

  -- law: an opening, an engine that was settled and closed, and the answers to its clients are a whole run
  abbrev pub WholeRuns : Type 0
  WholeRuns =
      (recovery : Recovery) (every : Option ℕ) (limit : ℕ) (catalog : Catalog) (requests : List Request) (db : Database) (first : ℕ)
      (list : List Listed) (missing : Answer) (answers : List (List Answer)) (old mid new : D) →
      Opened recovery catalog db first (disk_of old mid) → Closed recovery catalog db first list (disk_of mid new) →
      Settled recovery every catalog db first list (disk_of mid new) →
      AreAnswered requests first list Whole answers → length list ≤ room_from limit first →
      IsWholeRun recovery every limit catalog requests db first list
      (report_text catalog requests (weave missing requests answers) first list db Whole) (disk_of old new)

  -- law: an opening, an engine that was closed, its receipts, its log and the answers to its clients are a stopped run
  abbrev pub StoppedRuns : Type 0
  StoppedRuns =
      (recovery : Recovery) (every : Option ℕ) (limit : ℕ) (catalog : Catalog) (requests : List Request) (db : Database) (first : ℕ)
      (list : List Listed) (status count : ℕ) (missing : Answer) (answers : List (List Answer)) (old mid new : D) →
      Opened recovery catalog db first (disk_of old mid) → Closed recovery catalog db first list (disk_of mid new) →
      Receipted recovery catalog db first list count (disk_of mid new) → LogEndsAsStopped recovery every status first list count (disk_of mid new) →
      AreAnswered requests first list (stop_on status count limit first list mid new) answers → length list ≤ room_from limit first →
      IsStoppedRun recovery every limit catalog requests db first list status count
      (report_text catalog requests (weave missing requests answers) first list db (stop_on status count limit first list old new)) (disk_of old new)

  -- law: a run on a strong store is one from every place and database that the disk stood for
  pub record RunsHoldFromEach : Type 0 where
    pub whole : (every : Option ℕ) (limit : ℕ) (catalog : Catalog) (requests : List Request) (opening : Database) (first : ℕ) (list : List Listed)
        (text : List ℕ) (old new : D) → IsWholeRun Strong every limit catalog requests opening first list text (disk_of old new) → (disk_of old new).tells →
        (place : ℕ) (db : Database) → Stands catalog (disk_of old new).seen_before place (kept catalog db) →
        (place ≡ first) × WholeSession Strong catalog requests first list text (disk_of old new) db
    pub stopped : (every : Option ℕ) (limit : ℕ) (catalog : Catalog) (requests : List Request) (opening : Database) (first : ℕ) (list : List Listed)
        (status count : ℕ) (text : List ℕ) (old new : D) →
        IsStoppedRun Strong every limit catalog requests opening first list status count text (disk_of old new) → (disk_of old new).tells →
        (place : ℕ) (db : Database) → Stands catalog (disk_of old new).seen_before place (kept catalog db) →
        (place ≡ first) × StoppedSession Strong catalog requests limit first list status count text (disk_of old new) db
