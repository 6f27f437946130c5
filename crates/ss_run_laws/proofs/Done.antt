-- The laws, of runs that are done.
use Rattle.std.proofs.Common.{◌≡◌, ℕ, List, refl, sym, subst}
use Rattle.ss_model.specs.declared.catalog.Catalog.{Catalog}
use Rattle.ss_model.specs.declared.entry.Listed.{Listed}
use Rattle.ss_model.specs.declared.entry.Request.{Request}
use Rattle.ss_model.specs.Accepted.{Accepted}
use Rattle.ss_model.specs.Database.{Database}
use Rattle.ss_model.specs.Recovery.{Recovery, Strong, Weak}
use Rattle.ss_model.specs.Report.{Whole}
use Rattle.ss_model.specs.Settling.{kept}
use Rattle.ss_report_laws.specs.OneList.{AReportHasOneList}
use Rattle.ss_disk.specs.Files.{Files}
use Rattle.ss_standing.specs.Laws.{StandsForOne}
use Rattle.ss_fronts.specs.Fronts.{BeganAt, mode_of, StoodAs}
use Rattle.ss_fronts.specs.WeakLaws.{WeaklyStandsForOne}
use Rattle.ss_headline.specs.Disks.{DiskChange}
use Rattle.ss_headline.specs.Owed.{ListsAsked}
use Rattle.ss_headline.specs.Sentences.{RepliesAndTables}
use Rattle.ss_headline.proofs.CallerLemmas.{weakly_began}
use Rattle.ss_run_laws.specs.Once.{TakesEachOnce}
use Rattle.ss_run_laws.specs.OneClient.{RunsAlone, OneClientOneReport}
use Rattle.ss_run_laws.specs.WholeRun.{WholeRunsTakeEachOnce, WholeRunsOfOneClient, WholeRunsHaveOneList}

-- what has a report lists what is asked for
lists : (catalog : Catalog) (requests : List Request) (db : Database) (first : ℕ) (list : List Listed) (text : List ℕ) → RepliesAndTables catalog requests db first list Whole text → ListsAsked catalog db requests list
lists catalog requests db first list text told = record { replays = told.one_by_one; asked = told.report.asked; in_turn = told.report.in_turn }

-- runs in one mode that began at the same files began at one place, and at databases of which the same is kept
began_alike : StandsForOne → WeaklyStandsForOne → (catalog : Catalog) → Accepted catalog → (recovery again : Recovery) → mode_of recovery ≡ mode_of again → (x y : Database) (first place : ℕ) (files : Files)
    → BeganAt recovery catalog x first → StoodAs recovery catalog x first files → BeganAt again catalog y place → StoodAs again catalog y place files → (first ≡ place) × (kept catalog x ≡ kept catalog y)
began_alike one weak_one catalog accepted Strong Strong alike x y first place files began stood began_too stood_too = one catalog files first place (kept catalog x) (kept catalog y) stood stood_too
began_alike one weak_one catalog accepted (Weak o) (Weak p) alike x y first place files began stood began_too stood_too =
    weak_one catalog accepted files first place (kept catalog x) (kept catalog y) (weakly_began catalog o x first files began stood) (weakly_began catalog p y place files began_too stood_too)
began_alike one weak_one catalog accepted Strong (Weak p) alike x y first place files began stood began_too stood_too = cc
began_alike one weak_one catalog accepted (Weak o) Strong alike x y first place files began stood began_too stood_too = cc

module _ {D : Type 0} (change : D → D → DiskChange) where
  pub whole_runs_take_each_once : TakesEachOnce → WholeRunsTakeEachOnce change
  whole_runs_take_each_once law = λ recovery every limit catalog accepted requests opening first list text old new run q streams.
      let session = run.session.each opening refl in
      law catalog accepted opening run.session.whole.in_step list session.replies_and_tables.one_by_one session.at_the_end q streams

  pub whole_runs_of_one_client : OneClientOneReport → WholeRunsOfOneClient change
  whole_runs_of_one_client law = λ recovery again every each limit catalog accepted requests client alone x y same settled first list other text more old new before now one two refused none none_other.
      let told = (one.session.each x refl).replies_and_tables in
      let also = (two.session.each y refl).replies_and_tables in
      let runs : RunsAlone catalog x client requests list = record {
        alone = alone;
        in_step = one.session.whole.in_step;
        settled = settled;
        lists = lists catalog requests x first list text told;
        none_accepted = refused;
      } in
      let both = law catalog accepted x y same client requests list other runs (lists catalog requests y first other more also) none none_other in
      (both.same_list, both.same_report first text more told.report also.report)

  pub whole_runs_have_one_list : StandsForOne → WeaklyStandsForOne → AReportHasOneList → WholeRunsHaveOneList change
  whole_runs_have_one_list one weak_one one_list = λ recovery again alike every each limit bound catalog accepted requests x y first place list other text old new before now ran ran_too tells tells_too same.
      let stood = subst (StoodAs again catalog y place) same (ran_too.session.stood tells_too) in
      let began =
      began_alike one weak_one catalog accepted recovery again alike x y first place (change old new).seen_before (ran.session.began tells) (ran.session.stood tells) (ran_too.session.began tells_too) stood in
      let told = (ran.session.each y (sym began.1)).replies_and_tables in
      let also = (ran_too.session.each y refl).replies_and_tables in (
        one_list catalog accepted requests y text list other
            (record { replays = told.one_by_one; first = first; end = Whole; report = told.report })
            (record { replays = also.one_by_one; first = place; end = Whole; report = also.report }),
        began.0,
      )
