-- That each line of a report is read again as what it says.
use Rattle.std.specs.Prelude.{◌≡◌, ◌++◌, ℕ, List}
use Rattle.std.specs.List.{AllByRecursion}
use Rattle.serde_json.specs.Data.{Data}
use Rattle.ss_lines.specs.Json.{ReadsBack}
use Rattle.ss_model.specs.declared.catalog.Catalog.{Catalog}
use Rattle.ss_model.specs.declared.entry.Answer.{Answer}
use Rattle.ss_model.specs.declared.entry.Answer.TheVariants.{NoMemory}
use Rattle.ss_model.specs.declared.entry.Listed.{Listed}
use Rattle.ss_model.specs.declared.entry.Request.{Request}
use Rattle.ss_model.specs.Database.{Database}
use Rattle.ss_model.specs.Replays.{after}
use Rattle.ss_model.specs.Report.{Stop, Whole, Stopped, reply_lines, end_lines}
use Rattle.ss_model.specs.ReportLines.{list_lines, lines_text}
use Rattle.ss_shard.specs.Contents.{tables_of}
use Rattle.ss_report_laws.specs.Replies.{weave}
use Rattle.ss_report.specs.Reported.{missing_answer}
use Rattle.ss_report.specs.declared.run_end.End.{End}
use Rattle.ss_report.specs.declared.run_end.End.TheVariants.{Tables as TablesEnd, Stopped as StoppedEnd, Voter as VoterEnd}

-- each of these lines is read as what it says
abbrev pub AreReadable : List Data → Type 0
AreReadable lines = AllByRecursion ReadsBack lines

-- these lines were written behind the old bytes, and each of them is read as what it says
pub record AddsLines (old new : List ℕ) (lines : List Data) : Type 0 where
  pub text : new ≡ old ++ lines_text lines
  pub readable : AreReadable lines

-- each line of the report with this end is read as what it says: with tables, of the report that each database makes which has them
-- after the list; with a stop, of that which each stop of this status and count makes. A summary is no report
abbrev pub HasReadableLines : Catalog → List Request → List (List Answer) → ℕ → List Listed → End → Type 0
HasReadableLines catalog requests answers first list (TablesEnd database) =
    (db : Database) → tables_of database.whole.tables ≡ (after catalog db list).contents.tables →
    AreReadable (reply_lines catalog requests (weave NoMemory requests answers) ++ list_lines catalog first list ++ end_lines catalog db list Whole)
HasReadableLines catalog requests answers first list (StoppedEnd status count faults) =
    (db : Database) (stop : Stop) → stop.status ≡ status → stop.count ≡ count →
    AreReadable (reply_lines catalog requests (weave (missing_answer (StoppedEnd status count faults)) requests answers) ++ list_lines catalog first list ++ end_lines catalog db list (Stopped stop))
HasReadableLines catalog requests answers first list (VoterEnd votes) = Unit {0}
