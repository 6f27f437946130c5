-- What the bytes of an input say: a catalogue, and requests.
use Rattle.std.specs.Prelude.{◌≡◌, ◌≤◌, ℕ, List, [], ◌∷◌, length, true, Ok}
use Rattle.std.specs.List.{list_all}
use Rattle.serde_json.specs.Data.{Data}
use Rattle.ss_lines.specs.declared.line.Line.{Line}
use Rattle.ss_lines.specs.Json.{value_at}
use Rattle.ss_lines.specs.Lines.{lines_of, max_input}
use Rattle.ss_model.specs.declared.catalog.Body.{Body}
use Rattle.ss_model.specs.declared.catalog.Catalog.{Catalog}
use Rattle.ss_model.specs.declared.entry.Request.{Request}
use Rattle.ss_model.specs.Database.{fits_entry}
use Rattle.ss_model.specs.Report.{asked_entries}
use Rattle.ss_model.specs.SparesAside.{GoesOnWith, with_spares}
use Rattle.ss_nest.specs.Reads.{ReadsNested}
use Rattle.ss_catalog_requests.specs.Answers.{Asks}
use Rattle.ss_recover.specs.Recovering.{IsOwnCatalog}

-- the line's value is read as this catalogue, which has no bodies to be installed
pub record SaysCatalog (l : Line) (catalog : Catalog) : Type 0 where
  pub value : Data
  pub json : value_at l ≡ Ok value
  pub reads : ReadsNested value catalog

-- the line's value is this request of the catalogue
pub record AsksFor (catalog : Catalog) (l : Line) (r : Request) : Type 0 where
  pub value : Data
  pub json : value_at l ≡ Ok value
  pub asks : Asks catalog l.number value r

-- each line asks for its request, and there are as many of both
abbrev pub AskInOrder : Catalog → List Line → List Request → Type 0
AskInOrder catalog [] [] = Unit {0}
AskInOrder catalog (l ∷ ls) (r ∷ rs) = AsksFor catalog l r × AskInOrder catalog ls rs
AskInOrder catalog _ _ = ⊥

-- the first line is read as the catalogue, and the others ask for the requests
abbrev pub StartLines : List Line → Catalog → List Request → Type 0
StartLines [] catalog requests = ⊥
StartLines (l ∷ ls) catalog requests = SaysCatalog l catalog × AskInOrder catalog ls requests

-- the bytes are read as this catalogue and these requests; which bodies may be installed makes no difference to what is asked for
pub record Starts (input : List ℕ) (catalog : Catalog) (requests : List Request) : Type 0 where
  pub within : length input ≤ max_input
  pub lines : StartLines (lines_of input) catalog requests

-- bodies that may be installed in a catalogue: each is the one of its text, and with them each of the requests fits it
pub record HasBodiesFor (catalog : Catalog) (requests : List Request) : Type 0 where
  pub spares : List (List Body)
  pub goes_on : GoesOnWith catalog spares
  pub own : IsOwnCatalog (with_spares catalog spares)
  pub fit : list_all (fits_entry (with_spares catalog spares)) (asked_entries requests) ≡ true
