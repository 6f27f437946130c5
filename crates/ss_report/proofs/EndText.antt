-- The report is the lines of the replies and the list, and behind them those of the end.
use Rattle.std.proofs.Common.{◌≡◌, ℕ, ◌++◌, List, [], ◌∷◌, length, sym, subst}
use Rattle.serde_json.specs.Data.{Data}
use Rattle.ss_model.specs.declared.catalog.Catalog.{Catalog}
use Rattle.ss_model.specs.declared.entry.Answer.{Answer}
use Rattle.ss_model.specs.declared.entry.Answer.TheVariants.{NoMemory}
use Rattle.ss_model.specs.declared.entry.Listed.{Listed}
use Rattle.ss_model.specs.declared.entry.Request.{Request}
use Rattle.ss_model.specs.Contents.{Table}
use Rattle.ss_model.specs.Report.{reply_lines}
use Rattle.ss_model.specs.ReportLines.{list_lines, database_lines, done_line, stopped_line}
use Rattle.ss_shard.specs.Contents.{tables_of}
use Rattle.ss_shard.specs.declared.database.Database.{Database}
use Rattle.ss_report_laws.specs.Replies.{weave}
use Rattle.ss_report.specs.declared.run_end.End.{End}
use Rattle.ss_report.specs.declared.run_end.End.TheVariants.{Tables as TablesEnd, Stopped as StoppedEnd}
use Rattle.ss_report.specs.Readable.{AddsLines, HasReadableLines}
use Rattle.ss_report.specs.Reported.{missing_answer, report_lines, with_tables, IsReportOf}
use Rattle.ss_report.proofs.Steps.{both_added}

-- what is promised of the bytes and of the lines
pub record IsTold (catalog : Catalog) (requests : List Request) (answers : List (List Answer)) (first : ℕ) (list : List Listed) (end : End) (bytes : List ℕ) : Type 0 where
  pub report : IsReportOf catalog requests answers first list end bytes
  pub readable : HasReadableLines catalog requests answers first list end

-- lines behind the replies and the list
behind : (front bytes : List ℕ) (replies entries rest : List Data) → AddsLines [] front (replies ++ entries) → AddsLines front bytes rest → AddsLines [] bytes (replies ++ entries ++ rest)
behind front bytes replies entries rest told ended = both_added [] front bytes (replies ++ entries) rest told ended

module _ (catalog : Catalog) (requests : List Request) (answers : List (List Answer)) (first : ℕ) (list : List Listed) (front bytes : List ℕ) where
  pub settled : (database : Database)
      → AddsLines [] front (report_lines catalog requests (weave NoMemory requests answers) first list)
      → AddsLines front bytes (database_lines catalog (with_tables catalog (tables_of database.whole.tables)) ++ done_line (length list) ∷ [])
      → IsTold catalog requests answers first list (TablesEnd database) bytes
  settled database told ended =
      let replies = reply_lines catalog requests (weave NoMemory requests answers) in
      let entries = list_lines catalog first list in
      let all = behind front bytes replies entries (database_lines catalog (with_tables catalog (tables_of database.whole.tables)) ++ done_line (length list) ∷ []) told ended in
      let all_of : (ts : List Table) → tables_of database.whole.tables ≡ ts → AddsLines [] bytes (replies ++ entries ++ (database_lines catalog (with_tables catalog ts) ++ done_line (length list) ∷ [])) =
      λ ts same. subst (λ (xs : List Table). AddsLines [] bytes (replies ++ entries ++ (database_lines catalog (with_tables catalog xs) ++ done_line (length list) ∷ []))) same all in
      record {
        report = λ db same. (all_of _ same).text;
        readable = λ db same. (all_of _ same).readable;
      }

  pub stopped : (status count faults : ℕ)
      → AddsLines [] front (report_lines catalog requests (weave (missing_answer (StoppedEnd status count faults)) requests answers) first list)
      → AddsLines front bytes (stopped_line status count ∷ [])
      → IsTold catalog requests answers first list (StoppedEnd status count faults) bytes
  stopped status count faults told ended =
      let replies = reply_lines catalog requests (weave (missing_answer (StoppedEnd status count faults)) requests answers) in
      let entries = list_lines catalog first list in
      let all = behind front bytes replies entries (stopped_line status count ∷ []) told ended in
      let all_of : (s n : ℕ) → s ≡ status → n ≡ count → AddsLines [] bytes (replies ++ entries ++ stopped_line s n ∷ []) =
      λ s n is many. subst (λ m. AddsLines [] bytes (replies ++ entries ++ stopped_line s m ∷ [])) (sym many) (subst (λ k. AddsLines [] bytes (replies ++ entries ++ stopped_line k count ∷ [])) (sym is) all) in
      record {
        report = λ db stop is many. (all_of stop.status stop.count is many).text;
        readable = λ db stop is many. (all_of stop.status stop.count is many).readable;
      }
