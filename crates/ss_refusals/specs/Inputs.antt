-- An input has one answer: it starts, or it has one refusal.
use Rattle.std.specs.Prelude.{◌≡◌, ◌≤◌, ◌⊎◌, Bool, true, false, ℕ, List, length, Option, IfSome}
use Rattle.std.specs.Io.KnownBytes.{IsAtEnd}
use Rattle.ss_lines.specs.Lines.{max_input}
use Rattle.ss_lines.specs.declared.line.LineError.TheVariants as cause
use Rattle.ss_value.specs.FaultCounts.{Rose}
use Rattle.ss_model.specs.declared.catalog.Catalog.{Catalog}
use Rattle.ss_model.specs.declared.entry.Request.{Request}
use Rattle.ss_nest.specs.declared.error.NestError.TheVariants as nested
use Rattle.ss_catalog_requests.specs.declared.request.RequestError.TheVariants as request
use Rattle.ss_refusals.specs.declared.input.InputError.{InputError}
use Rattle.ss_refusals.specs.declared.input.InputError.TheVariants.{Line as OfLine, Catalog as OfCatalog, Request as OfRequest}
use Rattle.ss_refusals.specs.declared.status.Status.{Status}
use Rattle.ss_refusals.specs.declared.status.Status.TheVariants.{Done, Input, ReadFault, NoMemory, Foreign, OtherCatalog, OtherMode, Limit}
use Rattle.ss_refusals.specs.Refused.{IsRefusedBy}
use Rattle.ss_refusals.specs.Starts.{Starts}
use Rattle.ss_refusals.specs.Statuses.{refusal_status}

-- whether a refusal says nothing of the input: out of memory, wherever it came, and a fault of the source
abbrev pub says_nothing : InputError → Bool
says_nothing (OfLine cause.NoMemory) = true
says_nothing (OfLine cause.ReadFault) = true
says_nothing (OfCatalog line nested.NoMemory) = true
says_nothing (OfRequest request.NoMemory) = true
says_nothing _ = false

-- the input is refused so, and this says something of it
pub record HasRefusal (input : List ℕ) (e : InputError) : Type 0 where
  pub first : IsRefusedBy input e
  pub says : says_nothing e ≡ false

-- ---- laws

-- law: an input starts with one catalogue and one list of requests
abbrev pub HasOneStart : Type 0
HasOneStart = (input : List ℕ) (a b : Catalog) (xs ys : List Request) → Starts input a xs → Starts input b ys → (a ≡ b) × (xs ≡ ys)

-- law: whatever refuses an input that starts says nothing of it
abbrev pub StartsOrRefused : Type 0
StartsOrRefused = (input : List ℕ) (c : Catalog) (rs : List Request) (e : InputError) → Starts input c rs → IsRefusedBy input e → says_nothing e ≡ true

-- law: an input has one refusal
abbrev pub HasOneRefusal : Type 0
HasOneRefusal = (input : List ℕ) (e f : InputError) → HasRefusal input e → HasRefusal input f → e ≡ f

-- ---- how an input ends

-- what a run leaves of its source: nothing, but where reading failed, at out of memory, and of an input that is too long
abbrev pub LeavesOfSource : Status → Option (List ℕ) → Option (List ℕ) → Type 0
LeavesOfSource Input before now = IfSome before (λ input. length input ≤ max_input → IsAtEnd now)
LeavesOfSource ReadFault before now = Unit {0}
LeavesOfSource NoMemory before now = Unit {0}
LeavesOfSource _ before now = IsAtEnd now

-- a count of faults didn't rise, and is below the greatest number of 64 bits
abbrev pub DidNotRise : ℕ → ℕ → Type 0
DidNotRise before now = Rose before now → ⊥

-- an input with a refusal ends with the status of the refusal, or at out of memory
abbrev pub ExitsAsRefused : List ℕ → Status → Type 0
ExitsAsRefused input ended = (e : InputError) → HasRefusal input e → (ended ≡ refusal_status e) ⊎ (ended ≡ NoMemory)

-- the statuses of an input that starts, where no fault is counted
abbrev pub OfStarted : Status → Type 0
OfStarted Done = Unit {0}
OfStarted NoMemory = Unit {0}
OfStarted Foreign = Unit {0}
OfStarted OtherMode = Unit {0}
OfStarted OtherCatalog = Unit {0}
OfStarted Limit = Unit {0}
OfStarted _ = ⊥

-- an input that starts ends as done, or with a full list, or at a disk that holds something else, or at out of memory
abbrev pub ExitsAsStarted : List ℕ → Status → Type 0
ExitsAsStarted input ended = (c : Catalog) (rs : List Request) → Starts input c rs → OfStarted ended
