-- What an audit is given: a script, and the report of its run, in one input.
use Rattle.std.specs.Prelude.{◌≡◌, ◌≤◌, ◌+◌, ℕ, List, [], ◌∷◌, ◌++◌, length, slice_get, IfSome, Ok}
use Rattle.std.specs.List.{AllByRecursion}
use Rattle.serde_json.specs.Data.{Data, Items, array}
use Rattle.ss_lines.specs.declared.line.Line.{Line}
use Rattle.ss_lines.specs.Json.{value_at}
use Rattle.ss_lines.specs.Lines.{lines_of, max_input}
use Rattle.ss_model.specs.declared.catalog.Catalog.{Catalog}
use Rattle.ss_model.specs.declared.entry.Request.{Request}
use Rattle.ss_refusals.specs.Starts.{SaysCatalog, AskInOrder}

-- the line's value is an array, as of each line of a report
pub record BeginsReport (l : Line) : Type 0 where
  pub items : Items
  pub json : value_at l ≡ Ok (array items)

-- the line has a value
pub record HasValue (l : Line) : Type 0 where
  pub value : Data
  pub json : value_at l ≡ Ok value

-- the first of these begins a report, where there is one, and each has a value
pub record AreOfReport (lines : List Line) : Type 0 where
  pub begins : IfSome (slice_get lines 0) BeginsReport
  pub values : AllByRecursion HasValue lines

-- these ask for the requests, up to the report, which stands behind them
pub record AreScript (catalog : Catalog) (lines : List Line) (requests : List Request) (report : List Line) : Type 0 where
  pub script : List Line
  pub parts : lines ≡ script ++ report
  pub asked : AskInOrder catalog script requests
  pub begins : IfSome (slice_get report 0) BeginsReport

-- the first line is read as the catalogue, and behind it stand the script and the report
pub record AuditLines (lines : List Line) (catalog : Catalog) (requests : List Request) (report : List Line) : Type 0 where
  pub first : Line
  pub rest : List Line
  pub parts : lines ≡ first ∷ rest
  pub says : SaysCatalog first catalog
  pub script : AreScript catalog rest requests report
  pub told : AreOfReport report

-- the number that a line behind these would have
abbrev pub number_behind : List Line → ℕ
number_behind [] = 1
number_behind (l ∷ []) = l.number + 1
number_behind (l ∷ m ∷ ls) = number_behind (m ∷ ls)

-- the bytes are read as this catalogue, these requests and this report
pub record Audits (input : List ℕ) (catalog : Catalog) (requests : List Request) (report : List Line) : Type 0 where
  pub within : length input ≤ max_input
  pub lines : AuditLines (lines_of input) catalog requests report
