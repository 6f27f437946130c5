-- How a session ended, by the answers and the ways in which settling and the last flush ended; its report, and how that is told.
use Rattle.std.specs.Prelude.{◌≡◌, ◌⊎◌, ◌≤◌, ◌^◌, ℕ, Bool, cond, List, [], Option, Some, None, Result, Ok, Err, IfSome, IfNone, IsOk, true, ◌<◌}
use Rattle.std.specs.Option.{is_some}
use Rattle.ss_disk.specs.Kinds.{DiskKind}
use Rattle.ss_value.specs.FaultCounts.{Rose}
use Rattle.ss_model.specs.declared.catalog.Catalog.{Catalog}
use Rattle.ss_model.specs.declared.entry.Answer.{Answer}
use Rattle.ss_model.specs.declared.entry.Listed.{Listed}
use Rattle.ss_model.specs.declared.entry.Mode.{Mode}
use Rattle.ss_model.specs.declared.entry.Request.{Request}
use Rattle.ss_model.specs.Accepted.{Accepted}
use Rattle.ss_model.specs.Database.{Database as Model}
use Rattle.ss_model.specs.InStep.{IsInStep}
use Rattle.ss_model.specs.Recovery.{Recovery}
use Rattle.ss_cmdlog.specs.declared.log.CmdLog.{CmdLog}
use Rattle.ss_fronts.specs.Fronts.{mode_of}
use Rattle.ss_headline.specs.Disks.{DiskChange, disk_of}
use Rattle.ss_headline.specs.Layers.{Opened}
use Rattle.ss_headline.specs.Sentences.{room_from}
use Rattle.ss_shard.specs.declared.database.Database.{Database}
use Rattle.ss_engine.specs.declared.session.run.Finished.{Finished}
use Rattle.ss_commitlog.specs.declared.placed.Unlisted as placed
use Rattle.ss_commitlog.specs.declared.placed.Unlisted.TheVariants as unlisted
use Rattle.ss_engine.specs.Sessions.{EndsOnDisk}
use Rattle.ss_report.specs.declared.run_end.End.{End}
use Rattle.ss_report.specs.declared.run_end.End.TheVariants as report
use Rattle.ss_report.specs.Readable.{HasReadableLines}
use Rattle.ss_report.specs.Reported.{IsReportOf}
use Rattle.ss_resume.specs.declared.past.Past.{Past}
use Rattle.ss_refusals.specs.declared.status.Status.{Status}
use Rattle.ss_refusals.specs.declared.status.Status.TheVariants.{Done, Disk, NoMemory, Limit}
use Rattle.ss_refusals.specs.Sinks.{SinkChange, ExitsAs}
use Rattle.ss_refusals.specs.Statuses.{no_memory_text, status_number}
use Rattle.ss_refusals.specs.StoreRefusals.{WritesWhole}
use Rattle.ss_top.specs.declared.session.Printing.{Printing}
use Rattle.ss_top.specs.declared.session.Printing.TheVariants.{InFull, Summary}
use Rattle.ss_top.specs.declared.session.Reported.{Reported}
use Rattle.ss_top.specs.Stores.{RanAs}
use Rattle.ss_top.specs.Told.{some_say_full}

-- the end where settling ended so: nothing is pending, and all is written; or the list is full; or there was no memory
abbrev pub settled_status : Result Unit placed.Unlisted → Bool → Status
settled_status (Ok done) flushed = cond flushed Done NoMemory
settled_status (Err (unlisted.ListFull count)) flushed = Limit
settled_status (Err unlisted.NoMemory) flushed = NoMemory

-- the end of a session with these answers to each client, whose disk may have failed
abbrev pub session_status : Bool → List (List Answer) → Result Unit placed.Unlisted → Bool → Status
session_status failed answers end flushed = cond failed Disk (cond (some_say_full answers) Limit (settled_status end flushed))

-- what the report says of it: its tables, or the numbers that sum it up, or where it stopped
abbrev pub end_for : Status → Printing → Option Database → ℕ → ℕ → End
end_for Done InFull (Some database) count faults = report.Tables database
end_for Done (Summary votes) database count faults = report.Voter votes
end_for status printing database count faults = report.Stopped (status_number status) count faults

-- a session ended with this status, and this is its report, where there was memory for one; else it stopped for want of memory
pub record Reports (mode : Mode) (every : Option ℕ) (limit : ℕ) (printing : Printing) (catalog : Catalog) (requests : List Request) (status : Status)
    (text : Option (List ℕ)) (disk : DiskChange) : Type 0 where
  pub whole : List ℕ
  pub ran : RanAs mode every limit printing catalog requests status whole disk
  pub written : IfSome text (λ some. some ≡ whole)
  pub unwritten : IfNone text (status ≡ NoMemory)
  pub rose : status ≡ Disk → Rose disk.faults_before disk.faults_now

-- that the disk failed is told: its count of faults rose where the status says so, or where there was no memory, and there alone
abbrev pub TellsDiskFault : Status → ℕ → ℕ → Type 0
TellsDiskFault status before now = (status ≡ Disk) ⊎ (status ≡ NoMemory) ⊎ (now ≡ before)

-- these bytes are the report with this end, and each of its lines is read as what it says
abbrev pub IsWrittenReport : Catalog → List Request → List (List Answer) → ℕ → List Listed → End → List ℕ → Type 0
IsWrittenReport catalog requests answers first list end text = IsReportOf catalog requests answers first list end text × HasReadableLines catalog requests answers first list end

-- a finished session is reported by this status and this text
pub record IsReportedAs {D : Type 0} (printing : Printing) (requests : List Request) (first : ℕ) (finished : Finished D) (status : Status) (text : List ℕ) : Type 0 where
  pub flushed : Bool
  pub all : flushed ≡ true → IsOk finished.flushed
  pub faults : ℕ
  pub small : (fault : ℕ) → finished.log.halted ≡ Some fault → fault < 2 ^ 64
  pub is : status ≡ session_status (is_some finished.log.halted) finished.closed.answers finished.closed.settling flushed
  pub written : IsWrittenReport finished.closed.catalog requests finished.closed.answers first finished.closed.list (end_for status printing finished.closed.database finished.receipted faults) text

-- or there was no memory for a report
abbrev pub ReportsAs : {D : Type 0} → Printing → List Request → ℕ → Finished D → Status → Option (List ℕ) → Type 0
ReportsAs printing requests first finished status (Some text) = IsReportedAs printing requests first finished status text
ReportsAs printing requests first finished status None = status ≡ NoMemory

-- how a session with this status is told, by its report, or by a line where there was no memory for one
abbrev pub TellsReport : Status → Option (List ℕ) → Status → SinkChange → Type 0
TellsReport status None ended w = ExitsAs NoMemory ended no_memory_text w
TellsReport Done (Some text) ended w = WritesWhole ended text w
TellsReport status (Some text) ended w = ExitsAs status ended text w

-- the report of a finished session, wherever it began: the status and the text are those of its run on the disk that was opened for it
abbrev pub ReportsFinished : {D : Type 0} → DiskKind D → Printing → List Request → ℕ → Finished D → Reported D → Type 0
ReportsFinished {D} kind printing requests first finished reported =
    (recovery : Recovery) (every : Option ℕ) (limit clients : ℕ) (catalog : Catalog) (db : Model) (old : D) (log : CmdLog D) → first ≤ 2 ^ 60 →
    Accepted catalog → IsInStep catalog db → Opened recovery catalog db first (disk_of kind old log.disk) →
    EndsOnDisk kind recovery every catalog db first (room_from limit first) clients requests [] log finished →
    Reports (mode_of recovery) every limit printing catalog requests reported.status reported.text (disk_of kind old reported.disk)

-- and it tells whether the disk has failed since then
abbrev pub TellsFinished : {D : Type 0} → DiskKind D → List Request → ℕ → Finished D → Reported D → Type 0
TellsFinished {D} kind requests first finished reported =
    (recovery : Recovery) (every : Option ℕ) (limit clients : ℕ) (starts : List ℕ) (catalog : Catalog) (db : Model) (log : CmdLog D) →
    EndsOnDisk kind recovery every catalog db first limit clients requests starts log finished →
    TellsDiskFault reported.status (kind.faults log.disk) (kind.faults reported.disk)

-- what could be said of a past was written as the report of a run that stopped because the disk has failed, or there was no memory for one
abbrev pub ReportsPast : Catalog → Past → List Request → Status → Option (List ℕ) → Type 0
ReportsPast catalog past requests status (Some text) =
    (status ≡ Disk) × IsReportOf catalog requests past.answers past.first past.list (report.Stopped (status_number Disk) past.receipted 0) text
ReportsPast catalog past requests status None = status ≡ NoMemory
