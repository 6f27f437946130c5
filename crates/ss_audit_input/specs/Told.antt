-- What is written of an audit, and with which status it ends.
use Rattle.std.specs.Prelude.{◌≡◌, ◌⊎◌, ℕ, List, [], ◌∷◌, length, codes, Option, IfSome}
use Rattle.serde_json.specs.Data.{Data, string}
use Rattle.ss_lines.specs.declared.line.Line.{Line}
use Rattle.ss_lines.specs.Lines.{lines_of}
use Rattle.ss_model.specs.declared.catalog.Catalog.{Catalog}
use Rattle.ss_model.specs.declared.entry.Listed.{Listed}
use Rattle.ss_model.specs.declared.entry.Request.{Request}
use Rattle.ss_model.specs.Accepted.{Accepted}
use Rattle.ss_model.specs.SparesAside.{with_spares}
use Rattle.ss_model.specs.ReportLines.{array_of, count, line_text}
use Rattle.ss_audit_laws.specs.Checks.{audited}
use Rattle.ss_audit_laws.specs.Valid.{AreLines, IsReadable, IsValid, bytes_of}
use Rattle.ss_audit.specs.declared.verdict.Verdict.{Verdict}
use Rattle.ss_audit.specs.declared.verdict.Verdict.TheVariants.{Yes, No}
use Rattle.ss_audit.specs.Breaks.{verdict_of}
use Rattle.ss_refusals.specs.declared.input.InputError.{InputError}
use Rattle.ss_refusals.specs.declared.status.Status.{Status}
use Rattle.ss_refusals.specs.declared.status.Status.TheVariants.{Done, Input, ReadFault, WriteFault, NoMemory, Differs}
use Rattle.ss_refusals.specs.Inputs.{LeavesOfSource}
use Rattle.ss_refusals.specs.Starts.{HasBodiesFor}
use Rattle.ss_refusals.specs.Sinks.{SinkChange, SinkHeld, SourceChange, SourceHeld, TellsSourceFault, Writes, WritesAll, WritesPrefix}
use Rattle.ss_refusals.specs.Statuses.{no_memory_text, read_fault_text, refusal_status, refusal_text}
use Rattle.ss_value.specs.FaultCounts.{Rose}
use Rattle.ss_audit_input.specs.Audits.{AuditLines, Audits, number_behind}
use Rattle.ss_audit_input.specs.Refused.{IsRefusedAudit}

-- the line of a verdict
abbrev pub verdict_line : Verdict → Data
verdict_line (Yes n) = array_of (string (codes "audit") ∷ string (codes "yes") ∷ count n ∷ [])
verdict_line (No check line) = array_of (string (codes "audit") ∷ string (codes "no") ∷ count check ∷ count line ∷ [])

-- and its bytes
abbrev pub verdict_text : Verdict → List ℕ
verdict_text v = line_text (verdict_line v)

-- the status with which a verdict is told
abbrev pub verdict_status : Verdict → Status
verdict_status (Yes n) = Done
verdict_status (No check line) = Differs

-- what an audit says of a report of these requests, where a line that is missing would have this number
pub record IsVerdictOf (catalog : Catalog) (requests : List Request) (report : List Line) (end : ℕ) (v : Verdict) : Type 0 where
  pub is : v ≡ verdict_of (audited catalog requests report end)
  -- yes is said of a report that is valid, with as many entries, and of each such report that is read as what it says
  pub right : (n : ℕ) → v ≡ Yes n → (list : List Listed) × IsValid catalog requests (bytes_of report) list × (length list ≡ n)
  pub valid : (list : List Listed) → AreLines report → (valid : IsValid catalog requests (bytes_of report) list) → IsReadable catalog requests (valid.report).answers list → v ≡ Yes (length list)

-- lines are a catalogue that is accepted, a script and a report, of which this is the verdict with the bodies that the script installs
pub record IsVerdict (lines : List Line) (v : Verdict) : Type 0 where
  pub catalog : Catalog
  pub requests : List Request
  pub report : List Line
  pub accepted : Accepted catalog
  pub lines_are : AuditLines lines catalog requests report
  pub bodies : HasBodiesFor catalog requests
  pub says : IsVerdictOf (with_spares catalog bodies.spares) requests report (number_behind lines) v

-- the verdict of what the bytes say, where they are known
abbrev pub HasVerdict : Option (List ℕ) → Verdict → Type 0
HasVerdict input v = IfSome input (λ bytes. IsVerdict (lines_of bytes) v)

-- the whole verdict was written, with its status
pub record ToldWhole (input : Option (List ℕ)) (ended : Status) (w : SinkChange) : Type 0 where
  pub verdict : Verdict
  pub has : HasVerdict input verdict
  pub status : ended ≡ verdict_status verdict
  pub written : WritesAll w (verdict_text verdict)

-- the sink failed in it
pub record ToldPart (input : Option (List ℕ)) (w : SinkChange) : Type 0 where
  pub verdict : Verdict
  pub has : HasVerdict input verdict
  pub written : WritesPrefix (verdict_text verdict) w

-- the input's first refusal was written
pub record ToldRefusal (input : Option (List ℕ)) (status : Status) (w : SinkChange) : Type 0 where
  pub refusal : InputError
  pub first : IfSome input (λ bytes. IsRefusedAudit bytes refusal)
  pub is : refusal_status refusal ≡ status
  pub reported : Writes (refusal_text refusal) w

-- how an audit of this input ends, whose bytes may not be known
abbrev pub AuditEnds : Option (List ℕ) → Status → SinkChange → Type 0
AuditEnds input Done w = ToldWhole input Done w
AuditEnds input Differs w = ToldWhole input Differs w
AuditEnds input WriteFault w = ToldPart input w
AuditEnds input Input w = ToldRefusal input Input w
AuditEnds input ReadFault w = Writes read_fault_text w
AuditEnds input NoMemory w = Writes no_memory_text w
AuditEnds input _ w = ⊥

-- an input that is within its limits, with a script and a report, ends with a verdict or at out of memory, where no count of faults rose
abbrev pub EndsWithVerdict : List ℕ → Status → Type 0
EndsWithVerdict input ended = (catalog : Catalog) (requests : List Request) (report : List Line) → Audits input catalog requests report → (ended ≡ Done) ⊎ (ended ≡ Differs) ⊎ (ended ≡ NoMemory)

-- how a verdict is told: whole with its status; or a front of it, where the sink failed; or that there was no memory for its text
abbrev pub TellsVerdict : Verdict → Status → SinkChange → Type 0
TellsVerdict v Done w = (verdict_status v ≡ Done) × WritesAll w (verdict_text v) × (w.faults_now ≡ w.faults_before)
TellsVerdict v Differs w = (verdict_status v ≡ Differs) × WritesAll w (verdict_text v) × (w.faults_now ≡ w.faults_before)
TellsVerdict v WriteFault w = WritesPrefix (verdict_text v) w × Rose w.faults_before w.faults_now
TellsVerdict v NoMemory w = Writes no_memory_text w
TellsVerdict v _ w = ⊥

-- a fault is answered only where its count rose
abbrev pub HasAuditCause : Status → SourceChange → SinkChange → Type 0
HasAuditCause ReadFault s w = Rose s.faults_before s.faults_now
HasAuditCause WriteFault s w = Rose w.faults_before w.faults_now
HasAuditCause _ s w = Unit {0}

-- that a device failed is told: the source's count of faults rose where the status says so, and there alone, and with a verdict the sink's didn't
pub record TellsAuditFaults (ended : Status) (s : SourceChange) (w : SinkChange) : Type 0 where
  pub source : TellsSourceFault ended s.faults_before s.faults_now
  pub sink : (ended ≡ Done) ⊎ (ended ≡ Differs) → w.faults_now ≡ w.faults_before

-- what an audit comes to, what it leaves of its source, that it ends with a verdict where it can, and why where it doesn't
pub record AuditComes (s : SourceChange) (w : SinkChange) (ended : Status) : Type 0 where
  pub ends : AuditEnds s.before ended w
  pub empties : LeavesOfSource ended s.before s.now
  pub complete : SourceHeld s → SinkHeld w → IfSome s.before (λ input. EndsWithVerdict input ended)
  pub cause : HasAuditCause ended s w
