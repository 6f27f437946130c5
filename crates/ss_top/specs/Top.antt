-- What the top call promises.
use Rattle.std.specs.Prelude.{◌≡◌, ◌≤◌, ◌⊎◌, ℕ, suc, List, [], Option, IfSome, ◌+◌, ◌↔◌, String}
use Rattle.std.specs.declared.alloc.Global.{Global}
use Rattle.ss_value.specs.FaultCounts.{Rose}
use Rattle.ss_lines.specs.Causes.{TakesAtMost}
use Rattle.ss_lines.specs.Lines.{max_input}
use Rattle.ss_model.specs.declared.catalog.Catalog.{Catalog}
use Rattle.ss_model.specs.declared.entry.Mode.{Mode}
use Rattle.ss_model.specs.declared.entry.Request.{Request}
use Rattle.ss_model.specs.Accepted.{Accepted}
use Rattle.ss_model.specs.SparesAside.{with_spares}
use Rattle.ss_disk.specs.Kinds.{DiskKind}
use Rattle.ss_headline.specs.Disks.{DiskChange, disk_of}
use Rattle.ss_refusals.specs.declared.status.Status.{Status}
use Rattle.ss_refusals.specs.declared.status.Status.TheVariants.{Done, Usage, Input, ReadFault, WriteFault, Disk, NoMemory, Differs}
use Rattle.ss_refusals.specs.Inputs.{LeavesOfSource, ExitsAsRefused, ExitsAsStarted, DidNotRise}
use Rattle.ss_refusals.specs.Sinks.{SinkChange, SinkHeld, SourceChange, SourceHeld, TellsSourceFault, Writes, IsRefused}
use Rattle.ss_refusals.specs.Starts.{HasBodiesFor, Starts}
use Rattle.ss_refusals.specs.Statuses.{usage_text, read_fault_text, no_memory_text}
use Rattle.ss_top.specs.declared.session.Printing.TheVariants.{InFull}
use Rattle.ss_top.specs.Complete.{HasRoom, IsDoneOrShort}
use Rattle.ss_top.specs.Runs.{TellsDiskFault}
use Rattle.ss_top.specs.Shows.{ShowEnds, IsCompleteShow}
use Rattle.ss_top.specs.Over.{ComesOver, RoseBy}
use Rattle.ss_top.specs.Stores.{EndsUncalled, RecoveredTo}
use Rattle.ss_audit_input.specs.Told.{AuditEnds, EndsWithVerdict}
use Rattle.ss_words.specs.declared.names.Command.TheVariants.{Run, Recover, Audit, Voter}
use Rattle.ss_words.specs.declared.command.CommandLine.{CommandLine}
use Rattle.ss_words.specs.declared.command.Options.{Options}
use Rattle.ss_words.specs.declared.names.Show.{Show}
use Rattle.ss_words.specs.Words.{IsCommand, AsksFor, words_of}

-- the most entries that the list of a run may have
abbrev pub most_entries : ℕ
most_entries = 1000000

-- a fault is answered only where its count rose
abbrev pub HasCause : Status → SourceChange → SinkChange → DiskChange → Type 0
HasCause ReadFault s w disk = Rose s.faults_before s.faults_now
HasCause WriteFault s w disk = Rose w.faults_before w.faults_now
HasCause Disk s w disk = Rose disk.faults_before disk.faults_now
HasCause _ s w disk = Unit {0}

-- where the disk may be opened so often again, its fault is answered only behind as many, and one
abbrev pub UsesUp : ℕ → Status → DiskChange → Type 0
UsesUp restarts ended disk = ended ≡ Disk → RoseBy (suc restarts) disk.faults_before disk.faults_now

-- that a device failed is told. The source's count of faults rose where the status says so, and there alone; the disk's, where it isn't to be
-- opened again, where the status says so, or where there was no memory, and there alone; and the sink's rose neither where all is done nor
-- with a verdict
pub record TellsFaults (restarts : ℕ) (ended : Status) (s : SourceChange) (w : SinkChange) (disk : DiskChange) : Type 0 where
  pub source : TellsSourceFault ended s.faults_before s.faults_now
  pub store : restarts ≡ 0 → TellsDiskFault ended disk.faults_before disk.faults_now
  pub sink : (ended ≡ Done) ⊎ (ended ≡ Differs) → w.faults_now ≡ w.faults_before

-- no fault of the disk was counted
abbrev pub DiskHeld : DiskChange → Type 0
DiskHeld disk = DidNotRise disk.faults_before disk.faults_now

-- what is written where the input says nothing of it
abbrev pub WritesOnly : Status → SinkChange → Type 0
WritesOnly Usage w = Writes usage_text w
WritesOnly ReadFault w = Writes read_fault_text w
WritesOnly _ w = Unit {0}

module _ {D : Type 0} (kind : DiskKind D) (old new : D) where
  abbrev changed : DiskChange
  changed = disk_of kind old new

  -- There is a catalogue that is accepted, and requests, which are what the input says where its bytes are known; with bodies to be installed,
  -- each the one of its text, each request fits it; and running the requests on the disk has come to this. Among those bodies are all that the
  -- requests install, and all that a store has whose entries were replayed.
  pub record RanInput (mode : Mode) (every : Option ℕ) (limit restarts : ℕ) (input : Option (List ℕ)) (status : Status) (w : SinkChange) : Type 0 where
    pub catalog : Catalog
    pub requests : List Request
    pub starts : IfSome input (λ bytes. Starts bytes catalog requests)
    pub accepted : Accepted catalog
    pub bodies : HasBodiesFor catalog requests
    pub came : ComesOver kind mode every limit restarts InFull (with_spares catalog bodies.spares) requests status w old new

  -- the input's first refusal was written, and no call has reached the disk
  pub record RefusedInput (input : Option (List ℕ)) (w : SinkChange) : Type 0 where
    pub refused : IsRefused input Input w
    pub uncalled : changed.uncalled

  -- what the command run has come to on this input, whose bytes may not be known
  abbrev pub RunEnds : Mode → Option ℕ → ℕ → ℕ → Option (List ℕ) → Status → SinkChange → Type 0
  RunEnds mode every limit restarts input Usage w = ⊥
  RunEnds mode every limit restarts input Differs w = ⊥
  RunEnds mode every limit restarts input Input w = RefusedInput input w
  RunEnds mode every limit restarts input ReadFault w = changed.uncalled
  RunEnds mode every limit restarts input NoMemory w = EndsUncalled no_memory_text w changed ⊎ RanInput mode every limit restarts input NoMemory w
  RunEnds mode every limit restarts input status w = RanInput mode every limit restarts input status w

  -- an input that starts, on a disk with room for all that is owed, ends as done or at out of memory
  abbrev pub IsComplete : Mode → ℕ → List ℕ → Status → Type 0
  IsComplete mode limit input ended =
      (catalog : Catalog) (requests : List Request) → Starts input catalog requests → HasRoom mode limit catalog requests changed → IsDoneOrShort ended

  -- what the command run promises
  pub record EndsRun (mode : Mode) (every : Option ℕ) (limit restarts : ℕ) (s : SourceChange) (w : SinkChange) (ended : Status) : Type 0 where
    -- the headline
    pub came : RunEnds mode every limit restarts s.before ended w
    -- the disk was opened again as often as it may be before its fault is answered
    pub used_up : UsesUp restarts ended changed
    -- how much of the source is left
    pub empties : LeavesOfSource ended s.before s.now
    -- an input has one answer, and gets it, unless a fault was counted or at out of memory
    pub refused : SourceHeld s → IfSome s.before (λ input. ExitsAsRefused input ended)
    pub started : SourceHeld s → SinkHeld w → DiskHeld changed → IfSome s.before (λ input. ExitsAsStarted input ended)
    -- where there is room for all that is owed it is done
    pub complete : SourceHeld s → SinkHeld w → DiskHeld changed → IfSome s.before (λ input. IsComplete mode limit input ended)

  -- what a run promises, with the causes of its status and what is written of it alone
  pub record RunEndsSo (mode : Mode) (every : Option ℕ) (limit restarts : ℕ) (s : SourceChange) (w : SinkChange) (ended : Status) : Type 0 where
    pub ends : EndsRun mode every limit restarts s w ended
    pub only : WritesOnly ended w
    pub cause : HasCause ended s w changed
    pub no_usage : ended ≡ Usage → ⊥

  -- what the command voter promises: the headline of its script, that it does all of it where there is room for it, and that it reads
  -- nothing
  pub record EndsVoter (mode : Mode) (every : Option ℕ) (limit restarts : ℕ) (show : Show) (s : SourceChange) (w : SinkChange) (ended : Status) : Type 0 where
    pub came : ShowEnds kind mode every limit restarts show ended w old new
    pub used_up : UsesUp restarts ended changed
    pub complete : SinkHeld w → DiskHeld changed → IsCompleteShow mode limit show changed ended
    pub unread : (s.now ≡ s.before) × (s.faults_now ≡ s.faults_before)

-- what the command recover promises: the headline, that it does what is pending where there is room for it, and that it reads nothing
pub record EndsRecover (mode : Mode) (limit : ℕ) (s : SourceChange) (w : SinkChange) (disk : DiskChange) (ended : Status) : Type 0 where
  pub came : RecoveredTo mode limit ended w disk
  pub complete : SinkHeld w → DiskHeld disk → (catalog : Catalog) → HasRoom mode limit catalog [] disk → IsDoneOrShort ended
  pub unread : (s.now ≡ s.before) × (s.faults_now ≡ s.faults_before)

-- what the command audit promises: the verdict of the report for the script that stands before it, or the input's first refusal; that
-- it reads the input to its end; a verdict where the input is within its limits; and that no call reaches the disk
pub record EndsAudit (s : SourceChange) (w : SinkChange) (disk : DiskChange) (ended : Status) : Type 0 where
  pub came : AuditEnds s.before ended w
  pub empties : LeavesOfSource ended s.before s.now
  pub complete : SourceHeld s → SinkHeld w → IfSome s.before (λ input. EndsWithVerdict input ended)
  pub uncalled : disk.uncalled

-- all that the program promises of a call with these words, on this source, sink and disk, whose list has at most so many entries
pub record Ends {D : Type 0} (kind : DiskKind D) (old new : D) (limit : ℕ) (words : List (String Global)) (s : SourceChange) (w : SinkChange) (ended : Status) : Type 0 where
  -- the words alone decide whether they are a command, and which
  pub usage : (ended ≡ Usage) ↔ ¬ (IsCommand (words_of words))
  pub run : (what : Options) → AsksFor (words_of words) (record { command = Run; options = what }) →
      EndsRun kind old new what.mode what.every limit what.restarts s w ended
  pub recover : (what : Options) → AsksFor (words_of words) (record { command = Recover; options = what }) →
      EndsRecover what.mode limit s w (disk_of kind old new) ended
  pub voter : (what : Options) (show : Show) → AsksFor (words_of words) (record { command = Voter show; options = what }) →
      EndsVoter kind old new what.mode what.every limit what.restarts show s w ended
  pub audit : (what : Options) → AsksFor (words_of words) (record { command = Audit; options = what }) → EndsAudit s w (disk_of kind old new) ended
  -- where they are none nothing is read, and no call reaches the disk
  pub unread : ended ≡ Usage → (s.now ≡ s.before) × (s.faults_now ≡ s.faults_before)
  pub untouched : ended ≡ Usage → (disk_of kind old new).uncalled
  pub only : WritesOnly ended w
  -- a fault is answered only where it was counted, and counts never fall
  pub counts : (s.faults_before ≤ s.faults_now) × (w.faults_before ≤ w.faults_now) × (kind.faults old ≤ kind.faults new)
  pub cause : HasCause ended s w (disk_of kind old new)
  -- and each that was counted is told
  pub told : (line : CommandLine) → AsksFor (words_of words) line → TellsFaults line.options.restarts ended s w (disk_of kind old new)
  -- how much of the source is taken
  pub taken : TakesAtMost (max_input + 1) s.before s.now
