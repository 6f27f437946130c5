-- Reports that were printed, and that an audit finds right what a run printed.
use Rattle.std.specs.Prelude.{◌≡◌, ℕ, List, ◌++◌, length, Ok}
use Rattle.std.specs.List.{AllByRecursion}
use Rattle.ss_lines.specs.declared.line.Line.{Line}
use Rattle.ss_lines.specs.Json.{ReadsBack}
use Rattle.ss_model.specs.declared.catalog.Catalog.{Catalog}
use Rattle.ss_model.specs.declared.entry.Answer.{Answer}
use Rattle.ss_model.specs.declared.entry.Listed.{Listed}
use Rattle.ss_model.specs.declared.entry.Request.{Request}
use Rattle.ss_model.specs.Accepted.{Accepted}
use Rattle.ss_model.specs.Database.{Database, empty_database}
use Rattle.ss_model.specs.Report.{Whole, end_lines, reply_lines, report_text}
use Rattle.ss_model.specs.ReportLines.{list_lines}
use Rattle.ss_audit_laws.specs.Checks.{audited}
use Rattle.ss_audit_laws.specs.Valid.{bytes_of, AreLines, IsValid}

-- a text is the report of this list, from this database and place on, and each of its lines is read as what it says
pub record IsReadableReport (catalog : Catalog) (requests : List Request) (db : Database) (first : ℕ) (list : List Listed) (text : List ℕ) : Type 0 where
  pub answers : List Answer
  pub written : text ≡ report_text catalog requests answers first list db Whole
  pub readable : AllByRecursion ReadsBack (reply_lines catalog requests answers ++ list_lines catalog first list ++ end_lines catalog db list Whole)

-- law: an audit finds a report of a run on an empty disk right that was printed so
abbrev pub PrintedIsRight : Type 0
PrintedIsRight =
    (catalog : Catalog) → Accepted catalog → (requests : List Request) (lines : List Line) (end : ℕ) (list : List Listed) → AreLines lines →
    IsValid catalog requests (bytes_of lines) list → IsReadableReport catalog requests (empty_database catalog) 0 list (bytes_of lines) →
    audited catalog requests lines end ≡ Ok (length list)
