-- What running requests on a store comes to, by the status with which the program ends.
use Rattle.std.specs.Prelude.{◌≡◌, ◌≢◌, ◌⊎◌, ◌<◌, ℕ, true, List, [], length, Option, Some, None}
use Rattle.ss_model.specs.declared.catalog.Catalog.{Catalog}
use Rattle.ss_model.specs.declared.entry.Answer.{Answer}
use Rattle.ss_model.specs.declared.entry.Listed.{Listed}
use Rattle.ss_model.specs.declared.entry.Mode.{Mode}
use Rattle.ss_model.specs.declared.entry.Request.{Request}
use Rattle.ss_model.specs.Accepted.{Accepted}
use Rattle.ss_model.specs.Database.{Database}
use Rattle.ss_model.specs.Recovery.{Recovery}
use Rattle.ss_model.specs.Replays.{after}
use Rattle.ss_model.specs.Report.{voter_text}
use Rattle.ss_audit_laws.specs.Printed.{IsReadableReport}
use Rattle.ss_cmdlog.specs.Store.{IsEmpty}
use Rattle.ss_fronts.specs.Fronts.{mode_of}
use Rattle.ss_headline.specs.Disks.{DiskChange, AtEachMoment, OnlyRead}
use Rattle.ss_headline.specs.Layers.{Opened}
use Rattle.ss_headline.specs.Owed.{owed}
use Rattle.ss_headline.specs.Sentences.{room_from, stop_at}
use Rattle.ss_headline.specs.Runs.{IsWholeRun, IsStoppedRun}
use Rattle.ss_recover.specs.Faults.{HasFaultAt, IsStore}
use Rattle.ss_recover.specs.Recovering.{MayMake}
use Rattle.ss_engine.specs.Closings.{SomeReady}
use Rattle.ss_refusals.specs.declared.status.Status.{Status}
use Rattle.ss_refusals.specs.declared.status.Status.TheVariants.{Done, WriteFault, Disk, NoMemory, Foreign, OtherMode, OtherCatalog, Limit}
use Rattle.ss_refusals.specs.Sinks.{SinkChange, Writes, WritesAll, WritesPrefix}
use Rattle.ss_refusals.specs.Statuses.{status_number, disk_fault_text, foreign_text, no_memory_text, nothing_text, other_catalog_text, other_mode_text}
use Rattle.ss_top.specs.declared.session.Printing.{Printing}
use Rattle.ss_top.specs.declared.session.Printing.TheVariants.{InFull, Summary}
use Rattle.ss_top.specs.Told.{WereTold, some_say_full}

-- ---- before the clients start

-- nothing ran: wherever a crash fell, it left what it might have left before, or, of an empty disk, what a store of this mode is that was
-- being made for the given catalogue, or, of a store of an older form, a checkpoint in the new one, which stands for the same
abbrev pub NothingStarted : Mode → Option Catalog → DiskChange → Type 0
NothingStarted mode given disk = AtEachMoment disk (MayMake mode given disk.seen_before)

-- nothing ran, and this was written
pub record EndsBefore (mode : Mode) (given : Option Catalog) (text : List ℕ) (w : SinkChange) (disk : DiskChange) : Type 0 where
  pub nothing_ran : NothingStarted mode given disk
  pub written : Writes text w

-- nothing ran, this was written, and reads give what they gave
pub record EndsRead (text : List ℕ) (w : SinkChange) (disk : DiskChange) : Type 0 where
  pub only_read : OnlyRead disk
  pub written : Writes text w

-- the same, and no call has reached the disk
pub record EndsUncalled (text : List ℕ) (w : SinkChange) (disk : DiskChange) : Type 0 where
  pub uncalled : disk.uncalled
  pub written : Writes text w

-- the disk stood for a database, no client started, and a crash leaves what it might have left before, or what stands for the same
pub record EndsOpened (mode : Mode) (catalog : Catalog) (text : List ℕ) (w : SinkChange) (disk : DiskChange) : Type 0 where
  pub recovery : Recovery
  pub of_mode : mode_of recovery ≡ mode
  pub db : Database
  pub first : ℕ
  pub opened : Opened recovery catalog db first disk
  pub written : Writes text w

-- the disk is neither empty nor a store, and this is the first byte that can't be of one
pub record IsForeign (w : SinkChange) (disk : DiskChange) : Type 0 where
  pub file : ℕ
  pub place : ℕ
  pub fault : disk.tells → HasFaultAt disk.seen_before file place
  pub ends : EndsRead (foreign_text file place) w disk

-- the disk is a store of another mode than this one, whatever its catalogue
pub record IsOfOtherMode (mode : Mode) (w : SinkChange) (disk : DiskChange) : Type 0 where
  pub stored : Mode
  pub another : stored ≢ mode
  pub catalog : Catalog
  pub accepted : Accepted catalog
  pub store : disk.tells → IsStore stored disk.seen_before catalog
  pub ends : EndsRead (other_mode_text stored) w disk

-- the disk is a store of this mode, and of a catalogue with another text
pub record IsOther (mode : Mode) (given : List ℕ) (w : SinkChange) (disk : DiskChange) : Type 0 where
  pub stored : Catalog
  pub accepted : Accepted stored
  pub store : disk.tells → IsStore mode disk.seen_before stored
  pub differs : stored.text ≢ given
  pub ends : EndsRead (other_catalog_text stored.text given) w disk

-- the disk was empty, or a store of this mode and catalogue
abbrev pub WasOf : Mode → Catalog → DiskChange → Type 0
WasOf mode catalog disk = disk.tells → IsEmpty disk.seen_before ⊎ IsStore mode disk.seen_before catalog

-- ---- once the clients have started on a store of a mode, with a checkpoint from so many entries on, or with none

-- a whole run is printed in full, by its report, or by the line that sums up its list
abbrev pub IsPrinted : Printing → List Listed → List ℕ → List ℕ → Type 0
IsPrinted InFull list report text = text ≡ report
IsPrinted (Summary votes) list report text = text ≡ voter_text votes list

-- a report that is printed can be read again: each of its lines is read as what it says
abbrev pub IsReadAgain : Printing → Catalog → List Request → Database → ℕ → List Listed → List ℕ → Type 0
IsReadAgain InFull catalog requests opening first list report = IsReadableReport catalog requests opening first list report
IsReadAgain (Summary votes) catalog requests opening first list report = Unit {0}

-- a whole run: one list, from a database and a place on, with its report, and what is printed of it
pub record WholeRun (mode : Mode) (every : Option ℕ) (limit : ℕ) (printing : Printing) (catalog : Catalog) (requests : List Request) (text : List ℕ)
    (disk : DiskChange) : Type 0 where
  pub recovery : Recovery
  pub of_mode : mode_of recovery ≡ mode
  pub opening : Database
  pub first : ℕ
  pub list : List Listed
  pub report : List ℕ
  pub run : IsWholeRun recovery every limit catalog requests opening first list report disk
  pub printed : IsPrinted printing list report text
  pub read_again : IsReadAgain printing catalog requests opening first list report

-- a run that stopped with this status, and with a count below which all executions are receipted
pub record StoppedRun (mode : Mode) (every : Option ℕ) (limit : ℕ) (catalog : Catalog) (requests : List Request) (status : Status) (text : List ℕ)
    (disk : DiskChange) : Type 0 where
  pub recovery : Recovery
  pub of_mode : mode_of recovery ≡ mode
  pub opening : Database
  pub first : ℕ
  pub list : List Listed
  pub count : ℕ
  pub run : IsStoppedRun recovery every limit catalog requests opening first list (status_number status) count text disk

-- a run that stopped where its list has all its room, and a request was answered that the list is full, or a procedure is ready behind it,
-- so that more was owed than there was room for
pub record FullRun (mode : Mode) (every : Option ℕ) (limit : ℕ) (catalog : Catalog) (requests : List Request) (text : List ℕ) (disk : DiskChange) : Type 0 where
  pub stopped : StoppedRun mode every limit catalog requests Limit text disk
  pub full : length stopped.list ≡ room_from limit stopped.first
  pub answers : List (List Answer)
  pub told : WereTold catalog requests stopped.opening stopped.first stopped.list
      (stop_at (status_number Limit) stopped.count limit stopped.first stopped.list disk.faults_before disk.faults_now) text answers
  pub more : (some_say_full answers ≡ true) ⊎ SomeReady catalog (after catalog stopped.opening stopped.list)
  pub owed_more : room_from limit stopped.first < owed catalog stopped.opening requests

-- a session that ended with this status has this report
abbrev pub RanAs : Mode → Option ℕ → ℕ → Printing → Catalog → List Request → Status → List ℕ → DiskChange → Type 0
RanAs mode every limit printing catalog requests Done text disk = WholeRun mode every limit printing catalog requests text disk
RanAs mode every limit printing catalog requests Disk text disk = StoppedRun mode every limit catalog requests Disk text disk
RanAs mode every limit printing catalog requests NoMemory text disk = StoppedRun mode every limit catalog requests NoMemory text disk
RanAs mode every limit printing catalog requests Limit text disk = FullRun mode every limit catalog requests text disk
RanAs mode every limit printing catalog requests _ text disk = ⊥

-- a session on an empty disk or a store of this mode and catalogue ended with the first status, of whose report this was written
pub record Ran (mode : Mode) (every : Option ℕ) (limit : ℕ) (printing : Printing) (catalog : Catalog) (requests : List Request) (status : Status)
    (written : List ℕ → Type 0) (disk : DiskChange) : Type 0 where
  pub was : WasOf mode catalog disk
  pub text : List ℕ
  pub ran : RanAs mode every limit printing catalog requests status text disk
  pub wrote : written text

-- a stopped report was written, or, at status 6, that there was no memory for it
abbrev pub WritesStop : Status → SinkChange → List ℕ → Type 0
WritesStop NoMemory w text = Writes text w ⊎ Writes no_memory_text w
WritesStop _ w text = Writes text w

-- ---- by status

-- what running these requests of this catalogue on a store of this mode has come to
abbrev pub CameTo : Mode → Option ℕ → ℕ → Printing → Catalog → List Request → Status → SinkChange → DiskChange → Type 0
CameTo mode every limit printing catalog requests Done w disk = Ran mode every limit printing catalog requests Done (WritesAll w) disk
CameTo mode every limit printing catalog requests WriteFault w disk = Ran mode every limit printing catalog requests Done (λ text. WritesPrefix text w) disk
CameTo mode every limit printing catalog requests Disk w disk =
    EndsBefore mode (Some catalog) disk_fault_text w disk ⊎ Ran mode every limit printing catalog requests Disk (WritesStop Disk w) disk
CameTo mode every limit printing catalog requests NoMemory w disk =
    EndsBefore mode (Some catalog) no_memory_text w disk ⊎ EndsOpened mode catalog no_memory_text w disk
    ⊎ Ran mode every limit printing catalog requests NoMemory (WritesStop NoMemory w) disk
CameTo mode every limit printing catalog requests Limit w disk = Ran mode every limit printing catalog requests Limit (WritesStop Limit w) disk
CameTo mode every limit printing catalog requests Foreign w disk = IsForeign w disk
CameTo mode every limit printing catalog requests OtherMode w disk = IsOfOtherMode mode w disk
CameTo mode every limit printing catalog requests OtherCatalog w disk = IsOther mode catalog.text w disk
CameTo mode every limit printing catalog requests _ w disk = ⊥

-- an empty disk was recovered: there is no execution, and the disk was read alone
pub record RecoversNothing (told : List ℕ → Type 0) (disk : DiskChange) : Type 0 where
  pub empty : disk.tells → IsEmpty disk.seen_before
  pub only_read : OnlyRead disk
  pub written : told nothing_text

-- a store of this mode was recovered, whose catalogue, with the bodies that the store names, is accepted: what was pending ran, without
-- checkpoints
pub record RecoversStore (mode : Mode) (limit : ℕ) (status : Status) (w : SinkChange) (disk : DiskChange) : Type 0 where
  pub catalog : Catalog
  pub accepted : Accepted catalog
  pub stored : disk.tells → IsStore mode disk.seen_before catalog
  pub came : CameTo mode None limit InFull catalog [] status w disk

-- what a recovery has come to
abbrev pub RecoveredTo : Mode → ℕ → Status → SinkChange → DiskChange → Type 0
RecoveredTo mode limit Done w disk = RecoversNothing (WritesAll w) disk ⊎ RecoversStore mode limit Done w disk
RecoveredTo mode limit WriteFault w disk = RecoversNothing (λ text. WritesPrefix text w) disk ⊎ RecoversStore mode limit WriteFault w disk
RecoveredTo mode limit Disk w disk = EndsBefore mode None disk_fault_text w disk ⊎ RecoversStore mode limit Disk w disk
RecoveredTo mode limit NoMemory w disk = EndsBefore mode None no_memory_text w disk ⊎ RecoversStore mode limit NoMemory w disk
RecoveredTo mode limit Limit w disk = RecoversStore mode limit Limit w disk
RecoveredTo mode limit Foreign w disk = IsForeign w disk
RecoveredTo mode limit OtherMode w disk = IsOfOtherMode mode w disk
RecoveredTo mode limit _ w disk = ⊥
