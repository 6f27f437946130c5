-- Runs come together.
use Rattle.std.proofs.Common.{◌≡◌, ◌⊎◌, inl, inr, ℕ, ◌-◌, ◌^◌, ◌<◌, ◌≤◌, List, [], ◌∷◌, Option, sym, arith}
use Rattle.ss_disk.specs.Kinds.{DiskKind}
use Rattle.std.specs.List.{AllByRecursion}
use Rattle.ss_model.specs.declared.entry.Answer.{Answer}
use Rattle.ss_model.specs.declared.entry.Answer.TheVariants.{Listed as ListedAnswer, NoMemory, ListFull, Halted}
use Rattle.ss_model.specs.declared.entry.Listed.{Listed}
use Rattle.ss_model.specs.declared.entry.Request.{Request}
use Rattle.ss_model.specs.Recovery.{Recovery}
use Rattle.ss_model.specs.Report.{Stop, Stopped, Whole, Unlisted, report_text}
use Rattle.ss_model.specs.Settling.{kept}
use Rattle.ss_report_laws.specs.Replies.{answers_of, IsListedOr, AreAnswered, weave, AnswersMakeReport}
use Rattle.ss_standing.specs.Laws.{StandsForOne}
use Rattle.ss_headline.specs.Disks.{DiskChange, disk_of}
use Rattle.ss_headline.specs.Sentences.{stop_at}
use Rattle.ss_headline.specs.Runs.{LogEndsAsStopped}
use Rattle.ss_headline.specs.Laws.{WholeSessions, StoppedSessions, SessionsHoldFromEach, WholeRuns, StoppedRuns, RunsHoldFromEach}

-- ---- answers that a later count of faults explains, an earlier one explains too

module _ (stop : Stop) (before : ℕ) (le : before ≤ stop.faults_before) where
  abbrev earlier : Stop
  earlier = record stop { faults_before = before }

  explained : (a : Answer) → IsListedOr (Unlisted (Stopped stop)) a → IsListedOr (Unlisted (Stopped earlier)) a
  explained (ListedAnswer place outcome) h = tt
  explained NoMemory h = tt
  explained (ListFull n) h = h
  explained (Halted faults) h = (rose h.0, h.1)
    where
      rose : (stop.faults_before < faults) ⊎ (faults ≡ 2 ^ 64 - 1) → (before < faults) ⊎ (faults ≡ 2 ^ 64 - 1)
      rose (inl later) = inl (omega (arith, later, le))
      rose (inr most) = inr most

  all_explained : (answers : List Answer) → AllByRecursion (IsListedOr (Unlisted (Stopped stop))) answers → AllByRecursion (IsListedOr (Unlisted (Stopped earlier))) answers
  all_explained [] h = tt
  all_explained (a ∷ answers) h = (explained a h.0, all_explained answers h.1)

  pub answered_since : (requests : List Request) (first : ℕ) (list : List Listed) (answers : List (List Answer)) → AreAnswered requests first list (Stopped stop) answers
      → AreAnswered requests first list (Stopped earlier) answers
  answered_since requests first list answers t = record { many = t.many; each = t.each; others = λ client. all_explained (answers_of answers client) (t.others client) }

-- ---- runs

module _ {D : Type 0} (kind : DiskKind D) where
  abbrev change : D → D → DiskChange
  change = disk_of kind

  pub whole_runs : AnswersMakeReport → WholeSessions change → SessionsHoldFromEach change → WholeRuns change
  whole_runs makes sessions from_each = λ recovery every limit catalog requests db first list missing answers old mid new opened closed settled answered within.
      let text = report_text catalog requests (weave missing requests answers) first list db Whole in
      let session = sessions recovery every catalog requests db first list text old mid new opened closed settled (makes catalog requests db first list Whole missing answers answered) in record {
        within = within;
        logged = settled.logged;
        session = record {
          whole = opened.whole;
          began = opened.began;
          stood = opened.stood;
          each = λ x same. (from_each recovery catalog db x (sym same)).whole requests first list text old new session;
        };
      }

  -- a disk that failed since the opening has failed since before it
  pub failed_since : (recovery : Recovery) (every : Option ℕ) (status first : ℕ) (list : List Listed) (count : ℕ) (old mid new : D) → kind.faults old ≤ kind.faults mid → LogEndsAsStopped recovery every status first list count (change mid new)
      → LogEndsAsStopped recovery every status first list count (change old new)
  failed_since recovery every status first list count old mid new le logged told = elim (logged told) [
    | inl front ↦ inl front
    | inr failed ↦ inr (record { status_is = failed.status_is; rose = (let rose = failed.rose in omega (arith, rose, le)) })
  ]

  pub stopped_runs : AnswersMakeReport → StoppedSessions change → SessionsHoldFromEach change → StoppedRuns change
  stopped_runs makes sessions from_each = λ recovery every limit catalog requests db first list status count missing answers old mid new opened closed receipted logged answered within.
      let end = stop_at status count limit first list (kind.faults old) (kind.faults new) in
      let text = report_text catalog requests (weave missing requests answers) first list db end in
      let since = answered_since _ (kind.faults old) opened.faults requests first list answers answered in
      let session = sessions recovery catalog requests limit db first list status count text old mid new opened closed receipted (makes catalog requests db first list end missing answers since) in record {
        within = within;
        logged = failed_since recovery every status first list count old mid new opened.faults logged;
        session = record {
          whole = opened.whole;
          began = opened.began;
          stood = opened.stood;
          each = λ x same. (from_each recovery catalog db x (sym same)).stopped requests limit first list status count text old new session;
        };
      }

  pub runs_hold_from_each : StandsForOne → RunsHoldFromEach change
  runs_hold_from_each one = record {
    whole = λ every limit catalog requests opening first list text old new run told place db stands.
        let same = one catalog (kind.seen old) place first (kept catalog db) (kept catalog opening) stands (run.session.stood told) in (same.0, run.session.each db same.1);
    stopped = λ every limit catalog requests opening first list status count text old new run told place db stands.
        let same = one catalog (kind.seen old) place first (kept catalog db) (kept catalog opening) stands (run.session.stood told) in (same.0, run.session.each db same.1);
  }
