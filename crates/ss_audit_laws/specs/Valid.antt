-- When a printed report is right, and that the audit answers exactly that.
use Rattle.std.specs.Prelude.{◌≡◌, ℕ, List, [], ◌∷◌, ◌++◌, length, Ok, IsTrue}
use Rattle.std.specs.List.{AllByRecursion, flat_map}
use Rattle.ss_lines.specs.declared.line.Line.{Line}
use Rattle.ss_lines.specs.Json.{ReadsBack}
use Rattle.ss_lines.specs.Lines.{is_one_line}
use Rattle.ss_model.specs.declared.catalog.Catalog.{Catalog}
use Rattle.ss_model.specs.declared.entry.Listed.{Listed}
use Rattle.ss_model.specs.declared.entry.Request.{Request}
use Rattle.ss_model.specs.declared.entry.Answer.{Answer}
use Rattle.ss_model.specs.Accepted.{Accepted}
use Rattle.ss_model.specs.Database.{empty_database}
use Rattle.ss_model.specs.Orders.{Orders}
use Rattle.ss_model.specs.Replays.{Replays, after}
use Rattle.ss_model.specs.Report.{Report, Whole, reply_lines, end_lines}
use Rattle.ss_model.specs.ReportLines.{list_lines}
use Rattle.ss_model.specs.Settling.{Drained}
use Rattle.ss_audit_laws.specs.Checks.{audited}

-- the bytes of lines, each followed by a line feed
abbrev pub bytes_of : List Line → List ℕ
bytes_of lines = flat_map (λ l. l.bytes ++ 10 ∷ []) lines

-- bytes are the report of a run of this list on an empty disk, that went to its end
pub record IsValid (catalog : Catalog) (requests : List Request) (bytes : List ℕ) (list : List Listed) : Type 0 where
  pub report : Report catalog requests (empty_database catalog) 0 list Whole bytes
  pub replays : Replays catalog (empty_database catalog) list
  pub orders : Orders catalog (empty_database catalog) list
  pub drained : Drained catalog (after catalog (empty_database catalog) list)

-- each line of a report is read as what it says
abbrev pub IsReadable : Catalog → List Request → List Answer → List Listed → Type 0
IsReadable catalog requests answers list =
    AllByRecursion ReadsBack (reply_lines catalog requests answers ++ list_lines catalog 0 list ++ end_lines catalog (empty_database catalog) list Whole)

-- each of these has no line feed
abbrev pub AreLines : List Line → Type 0
AreLines lines = AllByRecursion (λ (l : Line). IsTrue (is_one_line l.bytes)) lines

-- law: what an audit finds right is the report of a list with so many entries
abbrev pub RightIsValid : Type 0
RightIsValid =
    (catalog : Catalog) → Accepted catalog → (requests : List Request) (lines : List Line) (end n : ℕ) → audited catalog requests lines end ≡ Ok n →
    (list : List Listed) × IsValid catalog requests (bytes_of lines) list × (length list ≡ n)

-- law: an audit finds each such report right, whose lines are read as what they say
abbrev pub ValidIsRight : Type 0
ValidIsRight =
    (catalog : Catalog) → Accepted catalog → (requests : List Request) (lines : List Line) (end : ℕ) (list : List Listed) → AreLines lines →
    (valid : IsValid catalog requests (bytes_of lines) list) → IsReadable catalog requests (valid.report).answers list →
    audited catalog requests lines end ≡ Ok (length list)
