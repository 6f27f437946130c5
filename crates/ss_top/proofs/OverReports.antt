-- How a run over its incarnations is reported, by how its last engine ended.
use Rattle.std.proofs.Common.{◌≡◌, ◌≤◌, ◌<◌, ◌+◌, ◌-◌, ◌^◌, ◌==◌, ◌⊎◌, ◌∙◌, inl, inr, ℕ, refl, Bool, true, false, cond, List, ◌∷◌, ◌++◌, length, take, sym, ap, subst, Some, None, Result, Ok, Err, arith, is_some}
use Rattle.std.specs.Prelude.{Option, IfSome, IfNone, IsOk, ◌&&◌, not}
use Rattle.ss_model.specs.declared.catalog.Catalog.{Catalog}
use Rattle.ss_model.specs.declared.entry.Answer.{Answer}
use Rattle.ss_model.specs.declared.entry.Answer.TheVariants.{NoMemory as NoMemoryAnswer}
use Rattle.ss_model.specs.declared.entry.Listed.{Listed}
use Rattle.ss_model.specs.declared.entry.Request.{Request}
use Rattle.ss_model.specs.Database.{Database as Model}
use Rattle.ss_model.specs.Recovery.{Strong}
use Rattle.ss_model.specs.Replays.{after}
use Rattle.ss_model.specs.Report.{End, Stop, Unlisted, Whole, report_text}
use Rattle.ss_model.specs.Settling.{Drained, kept}
use Rattle.ss_report_laws.specs.Replies.{AreAnswered, answers_of, weave}
use Rattle.ss_report_laws.specs.Resuming.{AnswersResume, FirstAnswersStay, resume_at}
use Rattle.ss_report.specs.declared.run_end.End as report
use Rattle.ss_report.specs.declared.run_end.End.TheVariants as written
use Rattle.ss_report.specs.Reported.{IsReportOf, missing_answer}
use Rattle.ss_report.specs.Readable.{HasReadableLines}
use Rattle.ss_shard.specs.declared.database.Database.{Database}
use Rattle.ss_disk.specs.Kinds.{DiskKind}
use Rattle.ss_cmdlog.specs.declared.log.CmdLog.{CmdLog}
use Rattle.ss_commitlog.specs.declared.placed.Unlisted as placed
use Rattle.ss_commitlog.specs.declared.placed.Unlisted.TheVariants as unlisted
use Rattle.ss_headline.specs.Runs.{LogEndsAsStopped}
use Rattle.ss_headline.specs.Disks.{disk_of}
use Rattle.ss_headline.specs.Sentences.{room_from, stop_at}
use Rattle.ss_incarnations.specs.Incarnations.{Incarnation}
use Rattle.ss_incarnations.specs.Reopening.{OneMoreIncarnation}
use Rattle.ss_incarnations.specs.Runs.{EndsWithOwn, IsStoppedRunOver, RunsOverRestarts}
use Rattle.ss_engine.specs.declared.session.run.Finished.{Finished}
use Rattle.ss_engine.specs.Closings.{EndedWith, SomeReady}
use Rattle.ss_engine.specs.Sessions.{IsLeftOver}
use Rattle.ss_resume.specs.declared.past.Past.{Past}
use Rattle.ss_refusals.specs.declared.status.Status.{Status}
use Rattle.ss_refusals.specs.declared.status.Status.TheVariants.{Done, Disk, NoMemory, Limit}
use Rattle.ss_refusals.specs.Statuses.{status_number}
use Rattle.ss_top.specs.declared.session.Printing.{Printing}
use Rattle.ss_top.specs.declared.session.Printing.TheVariants.{InFull, Summary}
use Rattle.ss_top.specs.Over.{FullRunOver, RanAsOver, StoppedRunOver, WholeRunOver}
use Rattle.ss_top.specs.Runs.{settled_status, session_status, end_for}
use Rattle.ss_top.specs.Stores.{IsPrinted, IsReadAgain}
use Rattle.ss_top.specs.Told.{some_say_full}
use Rattle.ss_top.proofs.Overs.{ClosedAgain, answered_calm, answered_failed, answered_full, answered_silent, at_receipts, at_the_end, ends_alike, failed_stopped, going_stopped, joined_drained, joined_full, joined_length, joined_logged, joined_within, lived, own_full}
use Rattle.ss_top.specs.Runs.{IsWrittenReport}
use Rattle.ss_top.proofs.Running.{not_halted}
use Rattle.ss_top.proofs.Unreported.{all_without_memory}

module _ {D : Type 0} (kind : DiskKind D) (every : Option ℕ) (limit : ℕ) (catalog : Catalog) (requests : List Request) (past : Past) (again : ℕ) (old mid : D) (from : Model)
    (place clients : ℕ) (log : CmdLog D) (ended : Finished D) (c : ClosedAgain kind every limit catalog requests past again old mid from place clients log ended)
    (resume_law : AnswersResume) (stay_law : FirstAnswersStay) (honest : kind.honest) (more_law : OneMoreIncarnation kind) (over_law : RunsOverRestarts kind)
    (answers : List (List Answer)) (are : (client : ℕ) → answers_of answers client ≡ take (resume_at place (answers_of past.answers client)) (answers_of past.answers client) ++ answers_of ended.closed.answers client) where
  abbrev new : D
  new = ended.log.disk

  abbrev first : ℕ
  first = past.first

  abbrev own : List Listed
  own = ended.closed.list

  abbrev list : List Listed
  list = take (place - first) past.list ++ own

  abbrev db : Model
  db = c.past_is.db

  -- the run's incarnations, of which the last has receipts of so much
  abbrev last : ℕ → Incarnation
  last count = record { moment = kind.moment log.disk; list = list; receipted = count }

  abbrev earlier : List Incarnation
  earlier = c.past_is.last ∷ c.past_is.earlier

  within : length list ≤ room_from limit first
  within = joined_within kind every limit catalog requests past again old mid from place clients log ended c resume_law stay_law

  -- ---- a stopped run

  abbrev stop : ℕ → End
  stop status = stop_at status ended.receipted limit first list (kind.faults old) (kind.faults new)

  abbrev stop_record : ℕ → Stop
  stop_record status = record {
    status = status;
    count = ended.receipted;
    at_limit = not (status == 6) && length list == room_from limit first;
    faults_before = kind.faults old;
    faults_after = cond (status == 5) (kind.faults new) 0;
  }

  stopped_run : (status : Status) → EndsWithOwn first list c.past_is.last.list (λ n l. LogEndsAsStopped Strong every (status_number status) n l ended.receipted (disk_of kind old new))
      → (told : List (List Answer)) → AreAnswered requests first list (stop (status_number status)) told → (missing : Answer) (text : List ℕ)
      → text ≡ report_text catalog requests (weave missing requests told) first list db (stop (status_number status)) → StoppedRunOver kind every limit again catalog requests status text old new
  stopped_run status logged told answered missing text is = record {
    opening = db;
    first = first;
    last = last ended.receipted;
    earlier = earlier;
    few = c.past_is.few;
    run = subst (λ (t : List ℕ). IsStoppedRunOver kind every limit catalog requests db first (last ended.receipted) earlier (status_number status) t old new) (sym is)
        (over_law.stopped every limit catalog requests db first (last ended.receipted) earlier (status_number status) missing told old old new (omega arith)
        (lived kind every limit catalog requests past again old mid from place clients log ended c resume_law stay_law honest more_law ended.receipted
        (at_receipts kind every limit catalog requests past again old mid from place clients log ended c resume_law stay_law honest more_law)) logged answered within);
  }

  abbrev stop_end : ℕ → ℕ → report.End
  stop_end status n = written.Stopped status ended.receipted n

  written_stop : (status : Status) → EndsWithOwn first list c.past_is.last.list (λ n l. LogEndsAsStopped Strong every (status_number status) n l ended.receipted (disk_of kind old new))
      → AreAnswered requests first list (stop (status_number status)) answers → (n : ℕ) (text : List ℕ) → IsReportOf catalog requests answers first list (stop_end (status_number status) n) text
      → StoppedRunOver kind every limit again catalog requests status text old new
  written_stop status logged answered n text is =
      stopped_run status logged answers answered (missing_answer (stop_end (status_number status) n)) text (is db (stop_record (status_number status)) refl refl)

  going : (status : ℕ) → ended.log.halted ≡ None → EndsWithOwn first list c.past_is.last.list (λ n l. LogEndsAsStopped Strong every status n l ended.receipted (disk_of kind old new))
  going = going_stopped kind every limit catalog requests past again old mid from place clients log ended c resume_law stay_law

  calm : (end : End) → Unlisted end NoMemoryAnswer → ended.log.halted ≡ None → some_say_full answers ≡ false → AreAnswered requests first list end answers
  calm = answered_calm kind every limit catalog requests past again old mid from place clients log ended c resume_law stay_law answers are

  short_of_memory : ended.log.halted ≡ None → some_say_full answers ≡ false → (n : ℕ) (text : List ℕ) → IsReportOf catalog requests answers first list (stop_end 6 n) text
      → StoppedRunOver kind every limit again catalog requests NoMemory text old new
  short_of_memory halted none n text is = written_stop NoMemory (going 6 halted) (calm (stop 6) tt halted none) n text is

  full_run : ended.log.halted ≡ None → length list ≡ room_from limit first → (some_say_full answers ≡ true) ⊎ SomeReady catalog (after catalog from own) → (n : ℕ) (text : List ℕ)
      → IsReportOf catalog requests answers first list (stop_end 9 n) text → FullRunOver kind every limit again catalog requests text old new
  unfolding written_stop stopped_run
  full_run halted full more n text is =
      let answered = answered_full kind every limit catalog requests past again old mid from place clients log ended c resume_law stay_law answers are ended.receipted halted in
      record {
        stopped = written_stop Limit (going 9 halted) answered n text is;
        full = full;
        answers = answers;
        told = record { answered = answered; missing = missing_answer (stop_end 9 n); written = is db (stop_record 9) refl refl };
        behind = after catalog from own;
        same = ends_alike kind every limit catalog requests past again old mid from place clients log ended c resume_law stay_law honest more_law ended.receipted
            (at_receipts kind every limit catalog requests past again old mid from place clients log ended c resume_law stay_law honest more_law);
        more = more;
      }

  -- ---- a whole run

  abbrev whole_text : List ℕ
  whole_text = report_text catalog requests (weave NoMemoryAnswer requests answers) first list db Whole

  module _ (printing : Printing) where
    whole_run : ended.log.halted ≡ None → some_say_full answers ≡ false → IsOk ended.flushed → Drained catalog (after catalog from own) → (text : List ℕ) → IsPrinted printing list whole_text text
        → IsReadAgain printing catalog requests db first list whole_text → WholeRunOver kind every limit again printing catalog requests text old new
    whole_run halted none ok drained text printed read_again =
        let all = at_the_end kind every limit catalog requests past again old mid from place clients log ended c resume_law stay_law honest more_law ok in
        record {
          opening = db;
          first = first;
          last = last (place + length own);
          earlier = earlier;
          few = c.past_is.few;
          report = whole_text;
          run = over_law.whole every limit catalog requests db first (last (place + length own)) earlier NoMemoryAnswer answers old new
              (lived kind every limit catalog requests past again old mid from place clients log ended c resume_law stay_law honest more_law (place + length own) all)
              end_is
              (joined_drained kind every limit catalog requests past again old mid from place clients log ended c resume_law stay_law honest more_law (place + length own) all drained)
              (joined_logged kind every limit catalog requests past again old mid from place clients log ended c resume_law stay_law ok halted)
              (calm Whole tt halted none) within;
          printed = printed;
          read_again = read_again;
        }
      where
        end_is : place + length own ≡ first + length list
        end_is =
            let from_first = c.from_first in
            let long = joined_length kind every limit catalog requests past again old mid from place clients log ended c resume_law stay_law in
            omega (arith, from_first, long)

    -- the tables of the database that the engine left are those behind the joined list
    tables_alike : kept catalog (after catalog from own) ≡ kept catalog (after catalog db list)
    tables_alike = ends_alike kind every limit catalog requests past again old mid from place clients log ended c resume_law stay_law honest more_law ended.receipted
        (at_receipts kind every limit catalog requests past again old mid from place clients log ended c resume_law stay_law honest more_law)

    printed_as : (p : Printing) (database : Database) → IsLeftOver catalog (after catalog from own) database → (n : ℕ) (text : List ℕ)
        → IsReportOf catalog requests answers first list (end_for Done p (Some database) ended.receipted n) text → IsPrinted p list whole_text text
    unfolding kept
    printed_as InFull database left n text written' = written' db (left.0.shard.contents.tables ∙ ap (λ k. k.tables) tables_alike)
    printed_as (Summary votes) database left n text written' = written'

    read_as : (p : Printing) (database : Database) → IsLeftOver catalog (after catalog from own) database → (n : ℕ)
        → HasReadableLines catalog requests answers first list (end_for Done p (Some database) ended.receipted n) → IsReadAgain p catalog requests db first list whole_text
    unfolding kept
    read_as InFull database left n lines = record { answers = weave NoMemoryAnswer requests answers; written = refl; readable = lines db (left.0.shard.contents.tables ∙ ap (λ k. k.tables) tables_alike) }
    read_as (Summary votes) database left n lines = tt

    -- ---- by how it ended

    abbrev IsWritten : Status → ℕ → List ℕ → Type 0
    IsWritten status n text = IsWrittenReport catalog requests answers first list (end_for status printing ended.closed.database ended.receipted n) text

    abbrev Is : Status → List ℕ → Type 0
    Is status text = RanAsOver kind every limit again printing catalog requests status text old new

    by_database : ended.log.halted ≡ None → some_say_full answers ≡ false → IsOk ended.flushed → Drained catalog (after catalog from own) → ended.closed.settling ≡ Ok tt
        → (o : Option Database) → ended.closed.database ≡ o → IfNone o (ended.closed.settling ≡ Err unlisted.NoMemory) → IfSome o (IsLeftOver catalog (after catalog from own)) → (n : ℕ) (text : List ℕ)
        → IsWrittenReport catalog requests answers first list (end_for Done printing o ended.receipted n) text → Is Done text
    by_database halted none ok drained done None is lost left n text written' = let wrong : Ok tt ≡ Err unlisted.NoMemory = sym done ∙ lost in absurd (cc)
    by_database halted none ok drained done (Some database) is lost left n text written' = whole_run halted none ok drained text (printed_as printing database left n text written'.0) (read_as printing database left n written'.1)

    by_settling : ended.log.halted ≡ None → some_say_full answers ≡ false → (end : Result Unit placed.Unlisted) → ended.closed.settling ≡ end → EndedWith catalog from (room_from (limit - (place - first)) place) own end
        → (flushed : Bool) → (flushed ≡ true → IsOk ended.flushed) → (n : ℕ) (text : List ℕ) → IsWritten (settled_status end flushed) n text → Is (settled_status end flushed) text
    by_settling halted none (Ok done) is ends true ok n text written' = by_database halted none (ok refl) (ends.1 c.opened.whole.in_step) is ended.closed.database refl c.closed.ends.run.lost c.closed.ends.run.left n text written'
    by_settling halted none (Ok done) is ends false ok n text written' = short_of_memory halted none n text written'.0
    by_settling halted none (Err (unlisted.ListFull count)) is ends flushed ok n text written' =
        full_run halted (own_full kind every limit catalog requests past again old mid from place clients log ended c resume_law stay_law ends.0) (inr ends.2) n text written'.0
    by_settling halted none (Err unlisted.NoMemory) is ends flushed ok n text written' = short_of_memory halted none n text written'.0

    by_answers : ended.log.halted ≡ None → (b : Bool) → some_say_full answers ≡ b → (flushed : Bool) → (flushed ≡ true → IsOk ended.flushed) → (n : ℕ) (text : List ℕ)
        → IsWritten (cond b Limit (settled_status ended.closed.settling flushed)) n text → Is (cond b Limit (settled_status ended.closed.settling flushed)) text
    by_answers halted true some flushed ok n text written' =
        full_run halted (joined_full kind every limit catalog requests past again old mid from place clients log ended c resume_law stay_law answers are some) (inl some) n text written'.0
    by_answers halted false none flushed ok n text written' = by_settling halted none ended.closed.settling refl c.closed.ends.run.end flushed ok n text written'

    -- the status of the session, of which this report was written
    pub ran_over : (failed : Bool) → is_some ended.log.halted ≡ failed → c.closed.ends.fault < 2 ^ 64 → (flushed : Bool) → (flushed ≡ true → IsOk ended.flushed) → (n : ℕ) (text : List ℕ)
        → IsWritten (session_status failed answers ended.closed.settling flushed) n text → Is (session_status failed answers ended.closed.settling flushed) text
    ran_over true is small flushed ok n text written' =
        written_stop Disk (failed_stopped kind every limit catalog requests past again old mid from place clients log ended c resume_law stay_law 5 (inl refl) is)
        (answered_failed kind every limit catalog requests past again old mid from place clients log ended c resume_law stay_law answers are ended.receipted small) n text written'.0
    ran_over false is small flushed ok n text written' = by_answers (not_halted ended.log.halted is) (some_say_full answers) refl flushed ok n text written'

  -- there was no memory for a report
  pub unreported_over : StoppedRunOver kind every limit again catalog requests NoMemory (report_text catalog requests (weave NoMemoryAnswer requests (all_without_memory answers)) first list db (stop 6)) old new
  unreported_over =
      stopped_run NoMemory (logged_at (is_some ended.log.halted) refl) (all_without_memory answers)
      (answered_silent kind every limit catalog requests past again old mid from place clients log ended c resume_law stay_law answers are (stop 6) tt) NoMemoryAnswer _ refl
    where
      logged_at : (failed : Bool) → is_some ended.log.halted ≡ failed → EndsWithOwn first list c.past_is.last.list (λ n l. LogEndsAsStopped Strong every 6 n l ended.receipted (disk_of kind old new))
      logged_at true is = failed_stopped kind every limit catalog requests past again old mid from place clients log ended c resume_law stay_law 6 (inr refl) is
      logged_at false is = going 6 (not_halted ended.log.halted is)
