-- The report of a run that began on an empty disk is right.
use Rattle.std.proofs.Common.{◌≡◌, ◌∙◌, ℕ, List, ◌++◌, sym, ap, subst}
use Rattle.std.specs.List.{AllByRecursion}
use Rattle.serde_json.specs.Data.{Data}
use Rattle.ss_lines.specs.Json.{ReadsBack}
use Rattle.ss_model.specs.declared.catalog.Catalog.{Catalog}
use Rattle.ss_model.specs.declared.entry.Listed.{Listed}
use Rattle.ss_model.specs.declared.entry.Request.{Request}
use Rattle.ss_model.specs.Database.{Database, empty_database}
use Rattle.ss_model.specs.Recovery.{Recovery}
use Rattle.ss_model.specs.Report.{Whole, reply_lines}
use Rattle.ss_model.specs.ReportLines.{list_lines, lines_text}
use Rattle.ss_model.specs.Settled.{DrainedAtRest}
use Rattle.ss_model.specs.Settling.{kept, KeptCarries}
use Rattle.ss_standing.specs.Laws.{StandsForOne}
use Rattle.ss_fronts.specs.WeakLaws.{WeaklyStandsForOne}
use Rattle.ss_audit_laws.specs.Printed.{IsReadableReport, PrintedIsRight}
use Rattle.ss_audit_laws.specs.Valid.{IsValid}
use Rattle.ss_headline.specs.Disks.{DiskChange}
use Rattle.ss_headline.specs.Sentences.{WholeSession}
use Rattle.ss_headline.proofs.CallerLemmas.{same_end}
use Rattle.ss_audit_runs.specs.Runs.{WholeRunsAreRight}
use Rattle.ss_audit_runs.proofs.Beginning.{began_empty}

module _ (catalog : Catalog) (requests : List Request) (list : List Listed) where
  -- what is read again of a report is so of the same list's, from a database of which the same is kept
  readable_from : KeptCarries → (x y : Database) → kept catalog x ≡ kept catalog y → (first : ℕ) (text : List ℕ) → IsReadableReport catalog requests x first list text
      → IsReadableReport catalog requests y first list text
  readable_from carries x y same first text printed =
      let before = reply_lines catalog requests printed.answers ++ list_lines catalog first list in
      let ends = same_end carries catalog x y same list Whole in
      record {
        answers = printed.answers;
        written = printed.written ∙ ap (λ (ds : List Data). lines_text (before ++ ds)) ends;
        readable = subst (λ (ds : List Data). AllByRecursion ReadsBack (before ++ ds)) ends printed.readable;
      }

  -- a whole session from the empty database is valid
  session_valid : (recovery : Recovery) (disk : DiskChange) (text : List ℕ) → WholeSession recovery catalog requests 0 list text disk (empty_database catalog) → IsValid catalog requests text list
  session_valid recovery disk text session = record {
    report = session.replies_and_tables.report;
    replays = session.replies_and_tables.one_by_one;
    orders = session.in_order;
    drained = session.at_the_end;
  }

module _ {D : Type 0} (change : D → D → DiskChange) where
  pub whole_runs_are_right : StandsForOne → WeaklyStandsForOne → DrainedAtRest → KeptCarries → PrintedIsRight → WholeRunsAreRight change
  whole_runs_are_right one weak_one at_rest carries law = λ recovery every limit catalog accepted requests opening first list text old new run tells empty printed lines end are.
      let disk = change old new in
      let start = empty_database catalog in
      let begins = began_empty catalog accepted at_rest one weak_one recovery opening first disk.seen_before empty (run.session.began tells) (run.session.stood tells) in
      let session = subst (λ (place : ℕ). WholeSession recovery catalog requests place list text disk start) (sym begins.0) (run.session.each start begins.1) in
      let read =
      subst (λ (place : ℕ). IsReadableReport catalog requests start place list text) (sym begins.0) (readable_from catalog requests list carries opening start (sym begins.1) first text printed) in
      let valid = subst (λ (t : List ℕ). IsValid catalog requests t list) (sym are.all) (session_valid catalog requests list recovery disk text session) in
      let told = subst (λ (t : List ℕ). IsReadableReport catalog requests start 0 list t) (sym are.all) read in
      record { valid = valid; yes = law catalog accepted requests lines end list are.each valid told }
