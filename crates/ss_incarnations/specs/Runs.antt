-- Sessions and runs over incarnations: those of a call that opened its disk once, but for the moments at which each list stands.
use Rattle.std.specs.Prelude.{◌≡◌, ◌≤◌, ◌+◌, ℕ, List, [], ◌∷◌, ◌++◌, length, take, Option}
use Rattle.ss_model.specs.declared.catalog.Catalog.{Catalog}
use Rattle.ss_model.specs.declared.entry.Answer.{Answer}
use Rattle.ss_model.specs.declared.entry.Listed.{Listed}
use Rattle.ss_model.specs.declared.entry.Request.{Request}
use Rattle.ss_model.specs.Database.{Database}
use Rattle.ss_model.specs.Recovery.{Strong}
use Rattle.ss_model.specs.Report.{End, Whole, report_text}
use Rattle.ss_model.specs.Settling.{kept}
use Rattle.ss_report_laws.specs.Replies.{AreAnswered, weave}
use Rattle.ss_disk.specs.Kinds.{DiskKind}
use Rattle.ss_standing.specs.Standing.{Stands}
use Rattle.ss_headline.specs.Disks.{DiskChange, disk_of}
use Rattle.ss_headline.specs.Runs.{FromStore, LogEndsAsStopped, Logged}
use Rattle.ss_headline.specs.Sentences.{RepliesAndTables, InOrder, ReceiptsStay, AllStands, AtTheEnd, EveryReceiptStands, room_from, stop_at}
use Rattle.ss_incarnations.specs.Incarnations.{Incarnation, AreIncarnations}
use Rattle.ss_incarnations.specs.Reopening.{Lived}

-- the list behind which an incarnation went on: that of the one before it, if there is one
abbrev pub list_before : List Incarnation → List Listed
list_before [] = []
list_before (i ∷ earlier) = i.list

-- the list is a front of the one before it, and behind that, from this place on, what the last incarnation ran itself, of which this is said
pub record EndsWithOwn (first : ℕ) (list before : List Listed) (P : ℕ → List Listed → Type 0) : Type 0 where
  pub stayed : ℕ
  pub within : stayed ≤ length before
  pub own : List Listed
  pub parts : list ≡ take stayed before ++ own
  pub says : P (first + stayed) own

module _ {D : Type 0} (kind : DiskKind D) where
  abbrev pub change : D → D → DiskChange
  change = disk_of kind

  -- ---- sessions

  -- a whole session whose printed list is the last incarnation's
  pub record WholeSessionOver (catalog : Catalog) (requests : List Request) (first : ℕ) (last : Incarnation) (earlier : List Incarnation) (text : List ℕ)
      (old new : D) (db : Database) : Type 0 where
    pub replies_and_tables : RepliesAndTables catalog requests db first last.list Whole text
    pub in_order : InOrder catalog db last.list
    pub wherever_a_crash_falls : kind.honest → AreIncarnations kind catalog db first (last ∷ earlier) old new
    pub receipts_stay : ReceiptsStay Strong catalog last.list (change old new)
    pub all_stands : AllStands Strong catalog db first last.list (change old new)
    pub at_the_end : AtTheEnd catalog db last.list

  -- the stop with this status of a run whose last incarnation is this
  abbrev pub stop_over : ℕ → ℕ → ℕ → Incarnation → D → D → End
  stop_over status limit first last old new = stop_at status last.receipted limit first last.list (kind.faults old) (kind.faults new)

  -- it stopped with this status, and the executions below the last incarnation's count are receipted
  pub record StoppedSessionOver (catalog : Catalog) (requests : List Request) (limit first : ℕ) (last : Incarnation) (earlier : List Incarnation) (status : ℕ)
      (text : List ℕ) (old new : D) (db : Database) : Type 0 where
    pub replies : RepliesAndTables catalog requests db first last.list (stop_over status limit first last old new) text
    pub in_order : InOrder catalog db last.list
    pub wherever_a_crash_falls : kind.honest → AreIncarnations kind catalog db first (last ∷ earlier) old new
    pub receipts_stay : ReceiptsStay Strong catalog last.list (change old new)
    pub every_receipt_stands : EveryReceiptStands Strong catalog db first last.list last.receipted (change old new)

  -- ---- runs

  -- These incarnations, the first of which began at this database and place, are a whole run with this report. The log ends as the list of the
  -- last one does.
  pub record IsWholeRunOver (every : Option ℕ) (limit : ℕ) (catalog : Catalog) (requests : List Request) (opening : Database) (first : ℕ)
      (last : Incarnation) (earlier : List Incarnation) (text : List ℕ) (old new : D) : Type 0 where
    pub within : length last.list ≤ room_from limit first
    pub logged : kind.tells → EndsWithOwn first last.list (list_before earlier) (λ place own. Logged Strong every place own (kind.seen new))
    pub session : FromStore Strong catalog opening first (change old new) (WholeSessionOver catalog requests first last earlier text old new)

  -- they stopped with this status, where the executions below the last one's count are receipted
  pub record IsStoppedRunOver (every : Option ℕ) (limit : ℕ) (catalog : Catalog) (requests : List Request) (opening : Database) (first : ℕ)
      (last : Incarnation) (earlier : List Incarnation) (status : ℕ) (text : List ℕ) (old new : D) : Type 0 where
    pub within : length last.list ≤ room_from limit first
    pub logged : EndsWithOwn first last.list (list_before earlier) (λ place own. LogEndsAsStopped Strong every status place own last.receipted (change old new))
    pub session : FromStore Strong catalog opening first (change old new) (StoppedSessionOver catalog requests limit first last earlier status text old new)

  -- law: what a run has come to over its incarnations, with the answers to its clients, is a whole run, or one that stopped
  pub record RunsOverRestarts : Type 0 where
    -- the engine had settled, and all was flushed
    pub whole : (every : Option ℕ) (limit : ℕ) (catalog : Catalog) (requests : List Request) (db : Database) (first : ℕ) (last : Incarnation)
        (earlier : List Incarnation) (missing : Answer) (answers : List (List Answer)) (old new : D) → Lived kind catalog db first last earlier old new →
        last.receipted ≡ first + length last.list → AtTheEnd catalog db last.list →
        (kind.tells → EndsWithOwn first last.list (list_before earlier) (λ place own. Logged Strong every place own (kind.seen new))) →
        AreAnswered requests first last.list Whole answers → length last.list ≤ room_from limit first →
        IsWholeRunOver every limit catalog requests db first last earlier
        (report_text catalog requests (weave missing requests answers) first last.list db Whole) old new
    -- of the log and the answers this is known since a later disk, which has failed as often at least: the last one that was opened
    pub stopped : (every : Option ℕ) (limit : ℕ) (catalog : Catalog) (requests : List Request) (db : Database) (first : ℕ) (last : Incarnation)
        (earlier : List Incarnation) (status : ℕ) (missing : Answer) (answers : List (List Answer)) (old before new : D) →
        kind.faults old ≤ kind.faults before → Lived kind catalog db first last earlier old new →
        EndsWithOwn first last.list (list_before earlier) (λ place own. LogEndsAsStopped Strong every status place own last.receipted (change before new)) →
        AreAnswered requests first last.list (stop_over status limit first last before new) answers → length last.list ≤ room_from limit first →
        IsStoppedRunOver every limit catalog requests db first last earlier status
        (report_text catalog requests (weave missing requests answers) first last.list db (stop_over status limit first last old new)) old new

  -- law: a run over incarnations is one from every place and database that the disk stood for
  pub record RunsOverHoldFromEach : Type 0 where
    pub whole : (every : Option ℕ) (limit : ℕ) (catalog : Catalog) (requests : List Request) (opening : Database) (first : ℕ) (last : Incarnation)
        (earlier : List Incarnation) (text : List ℕ) (old new : D) →
        IsWholeRunOver every limit catalog requests opening first last earlier text old new → kind.tells →
        (place : ℕ) (db : Database) → Stands catalog (kind.seen old) place (kept catalog db) →
        (place ≡ first) × WholeSessionOver catalog requests first last earlier text old new db
    pub stopped : (every : Option ℕ) (limit : ℕ) (catalog : Catalog) (requests : List Request) (opening : Database) (first : ℕ) (last : Incarnation)
        (earlier : List Incarnation) (status : ℕ) (text : List ℕ) (old new : D) →
        IsStoppedRunOver every limit catalog requests opening first last earlier status text old new → kind.tells →
        (place : ℕ) (db : Database) → Stands catalog (kind.seen old) place (kept catalog db) →
        (place ≡ first) × StoppedSessionOver catalog requests limit first last earlier status text old new db
