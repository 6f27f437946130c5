-- What a call has written to its sink, and taken of its source.
use Rattle.std.specs.Prelude.{◌≡◌, ◌≤◌, ◌<◌, ◌⊎◌, ℕ, List, length, take, Option, IfSome, Result, MatchResult}
use Rattle.std.specs.Io.KnownBytes.{Appends, IsAtEnd}
use Rattle.ss_value.specs.FaultCounts.{Rose}
use Rattle.ss_lines.specs.Kinds.{SourceKind, SinkKind}
use Rattle.ss_lines.specs.declared.line.LineError.TheVariants as cause
use Rattle.ss_lines.specs.Lines.{max_input}
use Rattle.ss_refusals.specs.declared.input.InputError.{InputError}
use Rattle.ss_refusals.specs.declared.input.InputError.TheVariants.{Line as OfLine}
use Rattle.ss_refusals.specs.declared.status.Status.{Status}
use Rattle.ss_refusals.specs.declared.status.Status.TheVariants.{ReadFault, NoMemory}
use Rattle.ss_refusals.specs.Inputs.{DidNotRise}
use Rattle.ss_refusals.specs.Refused.{IsRefusedBy}
use Rattle.ss_refusals.specs.Statuses.{refusal_status, refusal_text, no_memory_text}

-- a sink before and after a call: what was written, where it is known, and how often it has failed
pub record SinkChange : Type 0 where
  pub before : Option (List ℕ)
  pub now : Option (List ℕ)
  pub faults_before : ℕ
  pub faults_now : ℕ

-- the sink that was so before, and is so now
abbrev pub sink_of : {K : Type 0} → SinkKind K → K → K → SinkChange
sink_of kind before now = record { before = kind.written before; now = kind.written now; faults_before = kind.faults before; faults_now = kind.faults now }

-- some first bytes of the text were written
pub record WritesPrefix (text : List ℕ) (w : SinkChange) : Type 0 where
  pub some : ℕ
  pub within : some ≤ length text
  pub written : Appends w.before w.now (take some text)

-- the text was written, or, where the sink failed, some first bytes of it
pub record Writes (text : List ℕ) (w : SinkChange) : Type 0 where
  pub part : WritesPrefix text w
  pub whole : Appends w.before w.now text ⊎ Rose w.faults_before w.faults_now

-- the program ended with this status, and this text was written
pub record ExitsAs (status ended : Status) (text : List ℕ) (w : SinkChange) : Type 0 where
  pub is : ended ≡ status
  pub reported : Writes text w

-- the whole text was written
abbrev pub WritesAll : SinkChange → List ℕ → Type 0
WritesAll w text = Appends w.before w.now text

-- no fault of the sink was counted
abbrev pub SinkHeld : SinkChange → Type 0
SinkHeld w = DidNotRise w.faults_before w.faults_now

-- the refusal was reported with its status, or that there was no memory for it
abbrev pub ExitsRefused : InputError → Status → SinkChange → Type 0
ExitsRefused refusal ended w = ExitsAs (refusal_status refusal) ended (refusal_text refusal) w ⊎ ExitsAs NoMemory ended no_memory_text w

-- what reading leaves of the source where it is refused so, and that a fault of the source was counted
abbrev pub LeavesOfRefusedSource : InputError → ℕ → ℕ → Option (List ℕ) → Option (List ℕ) → Type 0
LeavesOfRefusedSource (OfLine cause.NoMemory) faults_before faults_now before now = Unit {0}
LeavesOfRefusedSource (OfLine cause.ReadFault) faults_before faults_now before now = Rose faults_before faults_now
LeavesOfRefusedSource (OfLine cause.InputTooLong) faults_before faults_now before now = IfSome before (λ input. max_input < length input)
LeavesOfRefusedSource _ faults_before faults_now before now = IsAtEnd now

-- that the source failed is told: its count of faults rose where the status says so, and there alone
abbrev pub TellsSourceFault : Status → ℕ → ℕ → Type 0
TellsSourceFault ended before now = (ended ≡ ReadFault) ⊎ (now ≡ before)

-- the same where reading an input gives this
abbrev pub TellsReading : {T : Type 0} → Result T InputError → ℕ → ℕ → Type 0
TellsReading result before now = MatchResult result (λ _. now ≡ before) (λ refusal. TellsSourceFault (refusal_status refusal) before now)

-- the input is refused with this status, by its first refusal where its bytes are known, and the refusal was reported
pub record IsRefused (input : Option (List ℕ)) (status : Status) (w : SinkChange) : Type 0 where
  pub refusal : InputError
  pub first : IfSome input (λ bytes. IsRefusedBy bytes refusal)
  pub is : refusal_status refusal ≡ status
  pub reported : Writes (refusal_text refusal) w

-- ---- sources

-- a source before and after a call: what is left of it, where it is known, and how often it has failed
pub record SourceChange : Type 0 where
  pub before : Option (List ℕ)
  pub now : Option (List ℕ)
  pub faults_before : ℕ
  pub faults_now : ℕ

-- the source that was so before, and is so now
abbrev pub source_of : {S : Type 0} → SourceKind S → S → S → SourceChange
source_of kind before now = record { before = kind.left before; now = kind.left now; faults_before = kind.faults before; faults_now = kind.faults now }

-- no fault of the source was counted
abbrev pub SourceHeld : SourceChange → Type 0
SourceHeld s = DidNotRise s.faults_before s.faults_now
