-- Why the bytes of an input are refused: their first refusal, line by line.
use Rattle.std.specs.Prelude.{◌≡◌, ◌≤◌, ◌<◌, ◌⊎◌, ℕ, List, [], ◌∷◌, ◌++◌, length, Ok}
use Rattle.serde_json.specs.Data.{Data}
use Rattle.ss_lines.specs.declared.line.Line.{Line}
use Rattle.ss_lines.specs.declared.line.LineError.TheVariants as cause
use Rattle.ss_lines.specs.Json.{value_at}
use Rattle.ss_lines.specs.Lines.{lines_of, max_input}
use Rattle.ss_lines.specs.Refusals.{RefusesAs}
use Rattle.ss_model.specs.declared.catalog.Catalog.{Catalog}
use Rattle.ss_model.specs.declared.entry.Request.{Request}
use Rattle.ss_nest.specs.declared.error.NestError.{NestError}
use Rattle.ss_nest.specs.Reads.{RefusesNested}
use Rattle.ss_catalog_requests.specs.declared.request.RequestError.{RequestError}
use Rattle.ss_catalog_requests.specs.Answers.{RefusesRequest as RefusesValue}
use Rattle.ss_refusals.specs.declared.input.InputError.{InputError}
use Rattle.ss_refusals.specs.declared.input.InputError.TheVariants.{Line as OfLine, NoCatalog, Catalog as OfCatalog, Request as OfRequest}
use Rattle.ss_refusals.specs.Starts.{SaysCatalog, AskInOrder}

-- ---- the catalogue's line

-- the line's value is refused as a catalogue, by the line's number
pub record RefusesCatalog (l : Line) (line : ℕ) (e : NestError) : Type 0 where
  pub here : line ≡ l.number
  pub value : Data
  pub json : value_at l ≡ Ok value
  pub refused : RefusesNested value e

-- the catalogue's line is refused so: for its bytes, then for its value
abbrev pub RefusesFirst : Line → InputError → Type 0
RefusesFirst l (OfLine e) = RefusesAs (value_at l) e
RefusesFirst l (OfCatalog line e) = RefusesCatalog l line e
RefusesFirst l NoCatalog = ⊥
RefusesFirst l (OfRequest e) = ⊥

-- ---- requests

-- the line's value is refused as a request of the catalogue
pub record RefusesRequest (catalog : Catalog) (l : Line) (e : RequestError) : Type 0 where
  pub value : Data
  pub json : value_at l ≡ Ok value
  pub refused : RefusesValue catalog l.number value e

-- a request's line is refused so, in the same order
abbrev pub RefusesLater : Catalog → Line → InputError → Type 0
RefusesLater catalog l (OfLine e) = RefusesAs (value_at l) e
RefusesLater catalog l (OfRequest e) = RefusesRequest catalog l e
RefusesLater catalog l NoCatalog = ⊥
RefusesLater catalog l (OfCatalog line e) = ⊥

-- one of the lines is refused so, and all lines before it ask for requests
pub record RefusesAmong (catalog : Catalog) (lines : List Line) (e : InputError) : Type 0 where
  pub before : List Line
  pub line : Line
  pub behind : List Line
  pub parts : lines ≡ before ++ line ∷ behind
  pub requests : List Request
  pub fine : AskInOrder catalog before requests
  pub refused : RefusesLater catalog line e

-- ---- inputs

-- the first line is a catalogue, and one behind it is refused so
pub record RefusesBehind (l : Line) (ls : List Line) (e : InputError) : Type 0 where
  pub catalog : Catalog
  pub says : SaysCatalog l catalog
  pub refused : RefusesAmong catalog ls e

-- the first refusal of lines; where there are none, the catalogue is missing
abbrev pub RefusesLines : List Line → InputError → Type 0
RefusesLines [] e = e ≡ NoCatalog
RefusesLines (l ∷ ls) e = RefusesFirst l e ⊎ RefusesBehind l ls e

-- the first refusal of the bytes: of their length, and then of their lines; out of memory and a fault of the source say nothing of them
abbrev pub IsRefusedBy : List ℕ → InputError → Type 0
IsRefusedBy input (OfLine cause.NoMemory) = Unit {0}
IsRefusedBy input (OfLine cause.ReadFault) = Unit {0}
IsRefusedBy input (OfLine cause.InputTooLong) = max_input < length input
IsRefusedBy input e = (length input ≤ max_input) × RefusesLines (lines_of input) e

-- the refusals that lines can have once they are there
abbrev pub ComesOfLines : InputError → Type 0
ComesOfLines (OfLine cause.ReadFault) = ⊥
ComesOfLines (OfLine cause.InputTooLong) = ⊥
ComesOfLines _ = Unit {0}
