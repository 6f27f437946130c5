-- Why an input with a script and a report is refused: its first refusal, line by line.
use Rattle.std.specs.Prelude.{◌≡◌, ◌≤◌, ◌<◌, ◌⊎◌, ℕ, List, [], ◌∷◌, ◌++◌, length}
use Rattle.std.specs.List.{AllByRecursion}
use Rattle.ss_lines.specs.declared.line.Line.{Line}
use Rattle.ss_lines.specs.declared.line.LineError.TheVariants as cause
use Rattle.ss_lines.specs.Json.{value_at}
use Rattle.ss_lines.specs.Lines.{lines_of, max_input}
use Rattle.ss_lines.specs.Refusals.{RefusesAs}
use Rattle.ss_model.specs.declared.catalog.Catalog.{Catalog}
use Rattle.ss_model.specs.declared.entry.Request.{Request}
use Rattle.ss_refusals.specs.declared.input.InputError.{InputError}
use Rattle.ss_refusals.specs.declared.input.InputError.TheVariants.{Line as OfLine, NoCatalog, Catalog as OfCatalog, Request as OfRequest}
use Rattle.ss_refusals.specs.Refused.{RefusesFirst, RefusesRequest}
use Rattle.ss_refusals.specs.Starts.{SaysCatalog, AskInOrder}
use Rattle.ss_audit_input.specs.Audits.{AreScript, BeginsReport, HasValue}

-- a line of a script is refused so: for its bytes, and then, where it begins no report, for its value
abbrev pub RefusesAsked : Catalog → Line → InputError → Type 0
RefusesAsked catalog l (OfLine e) = RefusesAs (value_at l) e
RefusesAsked catalog l (OfRequest e) = RefusesRequest catalog l e × (BeginsReport l → ⊥)
RefusesAsked catalog l NoCatalog = ⊥
RefusesAsked catalog l (OfCatalog line e) = ⊥

-- one of a script's lines is refused so, and all lines before it ask for requests
pub record RefusesScript (catalog : Catalog) (lines : List Line) (e : InputError) : Type 0 where
  pub before : List Line
  pub line : Line
  pub behind : List Line
  pub parts : lines ≡ before ++ line ∷ behind
  pub requests : List Request
  pub fine : AskInOrder catalog before requests
  pub refused : RefusesAsked catalog line e

-- a line of a report is refused for its bytes alone
abbrev pub RefusesTold : Line → InputError → Type 0
RefusesTold l (OfLine e) = RefusesAs (value_at l) e
RefusesTold l _ = ⊥

-- one of a report's lines is refused so, and all lines before it have values
pub record RefusesReport (lines : List Line) (e : InputError) : Type 0 where
  pub before : List Line
  pub line : Line
  pub behind : List Line
  pub parts : lines ≡ before ++ line ∷ behind
  pub fine : AllByRecursion HasValue before
  pub refused : RefusesTold line e

-- behind the requests of a script one of a report's lines is refused so
pub record RefusesBehindScript (catalog : Catalog) (lines : List Line) (e : InputError) : Type 0 where
  pub requests : List Request
  pub report : List Line
  pub script : AreScript catalog lines requests report
  pub refused : RefusesReport report e

-- the first line is a catalogue, and one behind it is refused so
pub record RefusesBehindCatalog (l : Line) (ls : List Line) (e : InputError) : Type 0 where
  pub catalog : Catalog
  pub says : SaysCatalog l catalog
  pub refused : RefusesScript catalog ls e ⊎ RefusesBehindScript catalog ls e

-- the first refusal of lines; where there are none, the catalogue is missing
abbrev pub RefusesAudit : List Line → InputError → Type 0
RefusesAudit [] e = e ≡ NoCatalog
RefusesAudit (l ∷ ls) e = RefusesFirst l e ⊎ RefusesBehindCatalog l ls e

-- the first refusal of the bytes: of their length, and then of their lines; out of memory and a fault of the source say nothing of them
abbrev pub IsRefusedAudit : List ℕ → InputError → Type 0
IsRefusedAudit input (OfLine cause.NoMemory) = Unit {0}
IsRefusedAudit input (OfLine cause.ReadFault) = Unit {0}
IsRefusedAudit input (OfLine cause.InputTooLong) = max_input < length input
IsRefusedAudit input e = (length input ≤ max_input) × RefusesAudit (lines_of input) e
