-- A run whose disk was opened again behind faults, as a strong store's may be: what it has come to, by the status with which the program ends.
use Rattle.std.specs.Prelude.{◌≡◌, ◌⊎◌, ◌+◌, ◌-◌, ◌^◌, ◌≤◌, min, ℕ, true, List, length, Option}
use Rattle.ss_model.specs.declared.catalog.Catalog.{Catalog}
use Rattle.ss_model.specs.declared.entry.Answer.{Answer}
use Rattle.ss_model.specs.declared.entry.Mode.{Mode}
use Rattle.ss_model.specs.declared.entry.Mode.TheVariants.{Strong}
use Rattle.ss_model.specs.declared.entry.Request.{Request}
use Rattle.ss_model.specs.Database.{Database}
use Rattle.ss_model.specs.Replays.{after}
use Rattle.ss_model.specs.Settling.{kept}
use Rattle.ss_disk.specs.Kinds.{DiskKind}
use Rattle.ss_headline.specs.Disks.{DiskChange, disk_of}
use Rattle.ss_headline.specs.Sentences.{room_from}
use Rattle.ss_incarnations.specs.Incarnations.{Incarnation}
use Rattle.ss_incarnations.specs.Openings.{NotOpened}
use Rattle.ss_incarnations.specs.Runs.{IsStoppedRunOver, IsWholeRunOver, stop_over}
use Rattle.ss_engine.specs.Closings.{SomeReady}
use Rattle.ss_refusals.specs.declared.status.Status.{Status}
use Rattle.ss_refusals.specs.declared.status.Status.TheVariants.{Done, WriteFault, Disk, NoMemory, Foreign, OtherMode, OtherCatalog, Limit}
use Rattle.ss_refusals.specs.Sinks.{SinkChange, Writes, WritesAll, WritesPrefix}
use Rattle.ss_refusals.specs.Statuses.{disk_fault_text, no_memory_text, status_number}
use Rattle.ss_top.specs.declared.session.Printing.{Printing}
use Rattle.ss_top.specs.Stores.{CameTo, IsForeign, IsOfOtherMode, IsOther, IsPrinted, IsReadAgain, WasOf, WritesStop}
use Rattle.ss_top.specs.Told.{WereTold, some_say_full}

-- a count of faults rose by so many, or is at the greatest number of 64 bits
abbrev pub RoseBy : ℕ → ℕ → ℕ → Type 0
RoseBy by before now = min (before + by) (2 ^ 64 - 1) ≤ now

-- a disk may be opened so often again: only that of a strong store at all
abbrev pub MayRestart : Mode → ℕ → Type 0
MayRestart mode restarts = (restarts ≡ 0) ⊎ (mode ≡ Strong)

-- the statuses of a run whose input was read
abbrev pub MayEnd : Status → Type 0
MayEnd Done = Unit {0}
MayEnd WriteFault = Unit {0}
MayEnd Disk = Unit {0}
MayEnd NoMemory = Unit {0}
MayEnd Foreign = Unit {0}
MayEnd OtherMode = Unit {0}
MayEnd OtherCatalog = Unit {0}
MayEnd Limit = Unit {0}
MayEnd _ = ⊥

module _ {D : Type 0} (kind : DiskKind D) where
  abbrev pub change : D → D → DiskChange
  change = disk_of kind

  module _ (every : Option ℕ) (limit again : ℕ) where
    -- a whole run over so many restarts at most: its incarnations, the list of the last one, its report, and what is printed of it
    pub record WholeRunOver (printing : Printing) (catalog : Catalog) (requests : List Request) (text : List ℕ) (old new : D) : Type 0 where
      pub opening : Database
      pub first : ℕ
      pub last : Incarnation
      pub earlier : List Incarnation
      pub few : length earlier ≤ again
      pub report : List ℕ
      pub run : IsWholeRunOver kind every limit catalog requests opening first last earlier report old new
      pub printed : IsPrinted printing last.list report text
      pub read_again : IsReadAgain printing catalog requests opening first last.list report

    -- one that stopped with this status
    pub record StoppedRunOver (catalog : Catalog) (requests : List Request) (status : Status) (text : List ℕ) (old new : D) : Type 0 where
      pub opening : Database
      pub first : ℕ
      pub last : Incarnation
      pub earlier : List Incarnation
      pub few : length earlier ≤ again
      pub run : IsStoppedRunOver kind every limit catalog requests opening first last earlier (status_number status) text old new

    -- one that stopped where its list has all its room, and a request was answered that the list is full, or a procedure is ready behind it
    pub record FullRunOver (catalog : Catalog) (requests : List Request) (text : List ℕ) (old new : D) : Type 0 where
      pub stopped : StoppedRunOver catalog requests Limit text old new
      pub full : length stopped.last.list ≡ room_from limit stopped.first
      pub answers : List (List Answer)
      pub told : WereTold catalog requests stopped.opening stopped.first stopped.last.list (stop_over kind (status_number Limit) limit stopped.first stopped.last old new) text answers
      pub behind : Database
      pub same : kept catalog behind ≡ kept catalog (after catalog stopped.opening stopped.last.list)
      pub more : (some_say_full answers ≡ true) ⊎ SomeReady catalog behind

    -- a session over restarts that ended with this status has this report
    abbrev pub RanAsOver : Printing → Catalog → List Request → Status → List ℕ → D → D → Type 0
    RanAsOver printing catalog requests Done text old new = WholeRunOver printing catalog requests text old new
    RanAsOver printing catalog requests Disk text old new = StoppedRunOver catalog requests Disk text old new
    RanAsOver printing catalog requests NoMemory text old new = StoppedRunOver catalog requests NoMemory text old new
    RanAsOver printing catalog requests Limit text old new = FullRunOver catalog requests text old new
    RanAsOver printing catalog requests _ text old new = ⊥

    -- a session on an empty disk or a store of this catalogue ended with the first status, of whose report this was written
    pub record RanOver (printing : Printing) (catalog : Catalog) (requests : List Request) (status : Status) (written : List ℕ → Type 0) (old new : D) : Type 0 where
      pub was : WasOf Strong catalog (change old new)
      pub text : List ℕ
      pub ran : RanAsOver printing catalog requests status text old new
      pub wrote : written text

    -- where an engine had run before the disk was opened for the last time
    abbrev pub CameOver : Printing → Catalog → List Request → Status → SinkChange → D → D → Type 0
    CameOver printing catalog requests Done w old new = RanOver printing catalog requests Done (WritesAll w) old new
    CameOver printing catalog requests WriteFault w old new = RanOver printing catalog requests Done (λ text. WritesPrefix text w) old new
    CameOver printing catalog requests Disk w old new = RanOver printing catalog requests Disk (WritesStop Disk w) old new
    CameOver printing catalog requests NoMemory w old new = RanOver printing catalog requests NoMemory (WritesStop NoMemory w) old new
    CameOver printing catalog requests Limit w old new = RanOver printing catalog requests Limit (WritesStop Limit w) old new
    CameOver printing catalog requests _ w old new = ⊥

  -- no engine had run at any opening: there was no memory for more, or the disk failed once too often, or it was then found to hold something
  -- else
  abbrev pub FoundLater : Catalog → Status → SinkChange → D → D → Type 0
  FoundLater catalog Disk w old new = NotOpened catalog (change old new) × Writes disk_fault_text w
  FoundLater catalog NoMemory w old new = NotOpened catalog (change old new) × Writes no_memory_text w
  FoundLater catalog Foreign w old new = (mid : D) × NotOpened catalog (change old mid) × IsForeign w (change mid new)
  FoundLater catalog OtherMode w old new = (mid : D) × NotOpened catalog (change old mid) × IsOfOtherMode Strong w (change mid new)
  FoundLater catalog OtherCatalog w old new = (mid : D) × NotOpened catalog (change old mid) × IsOther Strong catalog.text w (change mid new)
  FoundLater catalog _ w old new = ⊥

  -- The disk was opened so often again, behind as many faults, and on an honest disk the run has come to what one comes to that opens its disk
  -- once, or to what it comes to over its incarnations.
  pub record CameAgain (every : Option ℕ) (limit again : ℕ) (printing : Printing) (catalog : Catalog) (requests : List Request) (status : Status) (w : SinkChange)
      (old new : D) : Type 0 where
    pub some : 1 ≤ again
    pub rose : RoseBy again (kind.faults old) (kind.faults new)
    pub may : MayEnd status
    pub came : kind.honest →
        CameTo Strong every limit printing catalog requests status w (change old new) ⊎ FoundLater catalog status w old new
        ⊎ CameOver every limit again printing catalog requests status w old new

  -- running these requests on a store of this mode, over so many restarts at most
  abbrev pub ComesOver : Mode → Option ℕ → ℕ → ℕ → Printing → Catalog → List Request → Status → SinkChange → D → D → Type 0
  ComesOver mode every limit restarts printing catalog requests status w old new =
      CameTo mode every limit printing catalog requests status w (change old new)
      ⊎ ((again : ℕ) × (again ≤ restarts) × (mode ≡ Strong) ×
      CameAgain every limit again printing catalog requests status w old new)
