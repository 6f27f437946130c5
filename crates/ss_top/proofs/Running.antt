-- What is reported of a session, by how it ended.
use Rattle.std.proofs.Common.{◌≡◌, ◌≢◌, ◌≤◌, ◌<◌, ◌+◌, ◌-◌, ◌^◌, ◌==◌, ◌⊎◌, ◌∙◌, inl, inr, ℕ, zero, suc, refl, Bool, true, false, cond, List, [], ◌∷◌, length, get_or, sym, ap, subst, Some, None, Result, Ok, Err, arith, is_some, unwrap_or, eq-eqb}
use Rattle.ss_disk.specs.Kinds.{DiskKind}
use Rattle.std.specs.Prelude.{Option, IfSome, IfNone, IsOk, ◌&&◌, not}
use Rattle.std.specs.List.{AllByRecursion, list_any}
use Rattle.std.proofs.lemmas.Bool.{cases_lt, false≢true, or_parts}
use Rattle.ss_lemmas.proofs.Bools.{either_so}
use Rattle.ss_lemmas.proofs.EachOf.{all_with}
use Rattle.ss_value.specs.FaultCounts.{Rose}
use Rattle.ss_model.specs.declared.catalog.Catalog.{Catalog}
use Rattle.ss_model.specs.declared.entry.Answer.{Answer}
use Rattle.ss_model.specs.declared.entry.Answer.TheVariants.{Listed as ListedAnswer, NoMemory as NoMemoryAnswer, ListFull, Halted}
use Rattle.ss_model.specs.declared.entry.Listed.{Listed}
use Rattle.ss_model.specs.declared.entry.Request.{Request}
use Rattle.ss_model.specs.Database.{Database as Model}
use Rattle.ss_model.specs.Accepted.{Accepted}
use Rattle.ss_model.specs.InStep.{IsInStep}
use Rattle.ss_model.specs.Settled.{NoneReady}
use Rattle.ss_model.specs.Recovery.{Recovery}
use Rattle.ss_model.specs.Replays.{after}
use Rattle.ss_model.specs.Report.{End, Stop, Whole, Unlisted, report_text}
use Rattle.ss_model.specs.Settling.{Drained}
use Rattle.ss_report_laws.specs.Replies.{AreAnswered, IsListedOr, answers_of, requests_of, weave}
use Rattle.ss_report_laws.specs.Resuming.{AreToldTo}
use Rattle.ss_report.specs.declared.run_end.End as report
use Rattle.ss_report.specs.declared.run_end.End.TheVariants as written
use Rattle.ss_report.specs.Reported.{IsReportOf, HasEndTables, missing_answer}
use Rattle.ss_report.specs.Readable.{HasReadableLines}
use Rattle.ss_shard.specs.declared.database.Database.{Database}
use Rattle.ss_cmdlog.specs.declared.log.CmdLog.{CmdLog}
use Rattle.ss_fronts.specs.Fronts.{mode_of}
use Rattle.ss_receipts.specs.Holding.{HaltedAt}
use Rattle.ss_headline.specs.Disks.{DiskChange, disk_of}
use Rattle.ss_headline.specs.Owed.{ListsAsked, FullListsHaveAll, outside, owed}
use Rattle.ss_headline.specs.Sentences.{room_from}
use Rattle.ss_headline.specs.Layers.{Opened, Closed, Settled, Receipted}
use Rattle.ss_headline.specs.Laws.{WholeRuns, StoppedRuns}
use Rattle.ss_headline.specs.Laws as law
use Rattle.ss_headline.specs.Runs.{LogEndsAsStopped, IsStoppedRun}
use Rattle.ss_engine.specs.declared.session.run.Finished.{Finished}
use Rattle.ss_commitlog.specs.declared.placed.Unlisted as placed
use Rattle.ss_commitlog.specs.declared.placed.Unlisted.TheVariants as unlisted
use Rattle.ss_engine.specs.Clients.{AreListedOr, IsUnlisted}
use Rattle.ss_engine.specs.Closings.{EndedWith, SomeReady}
use Rattle.ss_engine.specs.Sessions.{EndsOnDisk, IsLeftOver}
use Rattle.ss_refusals.specs.declared.status.Status.{Status}
use Rattle.ss_refusals.specs.declared.status.Status.TheVariants.{Done, Usage, Input, ReadFault, WriteFault, Disk, NoMemory, Foreign, OtherMode, OtherCatalog, Limit, Differs}
use Rattle.ss_refusals.specs.Statuses.{status_number}
use Rattle.ss_top.specs.declared.session.Printing.{Printing}
use Rattle.ss_top.specs.declared.session.Printing.TheVariants.{InFull, Summary}
use Rattle.ss_top.specs.Runs.{TellsDiskFault, settled_status, session_status, end_for, IsWrittenReport, Reports}
use Rattle.ss_top.specs.Told.{say_full, some_say_full}
use Rattle.ss_top.specs.Stores.{IsPrinted, IsReadAgain, WholeRun, StoppedRun, FullRun, RanAs}
use Rattle.ss_top.proofs.Lasting.{failed_ends, going_ends, rose_at, was_closed, was_receipted, was_settled}
use Rattle.ss_top.proofs.Outside.{outside_by_one}
use Rattle.ss_top.proofs.Unreported.{all_without_memory, answered_without_memory}

-- ---- answers at a stop, and at the end of a whole run

module _ (room entries faults : ℕ) where
  -- where no disk has failed and no answer says that the list is full, the others say that there was no memory
  pub at_calm : (end : End) → Unlisted end NoMemoryAnswer → faults ≡ 0 → (these : List Answer) → AreListedOr room entries faults these → say_full these ≡ false → AllByRecursion (IsListedOr (Unlisted end)) these
  at_calm end may calm [] h none = tt
  at_calm end may calm (ListedAnswer place outcome ∷ these) h none = (tt, at_calm end may calm these h.1 none)
  at_calm end may calm (NoMemoryAnswer ∷ these) h none = (may, at_calm end may calm these h.1 none)
  at_calm end may calm (ListFull count ∷ these) h none = absurd (false≢true (sym none))
  at_calm end may calm (Halted n ∷ these) h none = absurd (h.0.1 (h.0.0 ∙ calm))

  -- where one says so the list is full
  pub full_by_one : (these : List Answer) → AreListedOr room entries faults these → say_full these ≡ true → room ≤ entries
  full_by_one [] h some = absurd (false≢true some)
  full_by_one (ListedAnswer place outcome ∷ these) h some = full_by_one these h.1 some
  full_by_one (NoMemoryAnswer ∷ these) h some = full_by_one these h.1 some
  full_by_one (ListFull count ∷ these) h some = h.0.1
  full_by_one (Halted n ∷ these) h some = full_by_one these h.1 some

-- of the answers to each client
pub none_of : (answers : List (List Answer)) (client : ℕ) → list_any say_full answers ≡ false → say_full (get_or answers client []) ≡ false
none_of [] client none = refl
none_of (these ∷ answers) zero none = (or_parts (say_full these) (list_any say_full answers) none).0
none_of (these ∷ answers) (suc client) none = none_of answers client (or_parts (say_full these) (list_any say_full answers) none).1

pub some_of : (answers : List (List Answer)) → list_any say_full answers ≡ true → (client : ℕ) × (say_full (get_or answers client []) ≡ true)
some_of [] some = absurd (false≢true some)
some_of (these ∷ answers) some = elim (either_so (say_full these) (list_any say_full answers) some) [
  | inl here ↦ (0, here)
  | inr behind ↦ let rest = some_of answers behind in (suc rest.0, rest.1)
]

-- ---- faults

-- a log that wasn't halted tells none
pub calm_at : (before now : ℕ) (halted : Option ℕ) (fault : ℕ) → HaltedAt before now halted fault → halted ≡ None → fault ≡ 0
calm_at before now halted fault (inl calm) none = calm.1
calm_at before now halted fault (inr failed) none = let no : None ≡ Some fault = sym none ∙ failed.0 in absurd (cc)

pub not_halted : (halted : Option ℕ) → is_some halted ≡ false → halted ≡ None
not_halted None is = refl
not_halted (Some fault) is = absurd (false≢true (sym is))

-- so the status tells it
pub disk_told : (before now : ℕ) (halted : Option ℕ) (fault : ℕ) → HaltedAt before now halted fault → (failed : Bool) → is_some halted ≡ failed → (rest : Status) → TellsDiskFault (cond failed Disk rest) before now
disk_told before now halted fault (inl calm) failed is rest = inr (inr calm.2)
disk_told before now halted fault (inr stopped) true is rest = inl refl
disk_told before now halted fault (inr stopped) false is rest = absurd (false≢true (sym is ∙ ap is_some stopped.0))

-- which explains an answer that carries it
pub explained_at : (before now : ℕ) (halted : Option ℕ) (fault n : ℕ) → HaltedAt before now halted fault → fault < 2 ^ 64 → n ≡ fault → n ≢ 0 → ((before < n) ⊎ (n ≡ 2 ^ 64 - 1)) × (n ≤ now)
explained_at before now halted fault n (inl calm) small is some = absurd (some (is ∙ calm.1))
explained_at before now halted fault n (inr failed) small is some = (
  elim (cases_lt before n) [
    | inl less ↦ inl less
    | inr least ↦ inr (omega (arith, failed.1, small, is, least))
  ],
  omega (arith, failed.2, is),
)

-- whose count is below 2^64, as the log's number is
pub small_at : (before now : ℕ) (halted : Option ℕ) (fault n : ℕ) → HaltedAt before now halted fault → n ≡ unwrap_or halted 0 → n < 2 ^ 64 → fault < 2 ^ 64
small_at before now halted fault n (inl calm) is small = omega (arith, calm.1)
small_at before now halted fault n (inr failed) is small = let same : n ≡ fault = is ∙ ap (λ o. unwrap_or o 0) failed.0 in omega (arith, same, small)

-- ---- sessions

module _ {D : Type 0} (kind : DiskKind D) where
  abbrev change : D → D → DiskChange
  change = disk_of kind

  module _ (recovery : Recovery) (every : Option ℕ) (limit : ℕ) (printing : Printing) (catalog : Catalog) (db : Model) (first clients : ℕ) (requests : List Request) (old : D) (log : CmdLog D) (ended : Finished D) (few : first ≤ 2 ^ 60) (accepted : Accepted catalog) (in_step : IsInStep catalog db)
      (opened : Opened recovery catalog db first (change old log.disk)) (e : EndsOnDisk kind recovery every catalog db first (room_from limit first) clients requests [] log ended) (small : e.ends.fault < 2 ^ 64) where
    abbrev list : List Listed
    list = ended.closed.list

    abbrev answers : List (List Answer)
    answers = ended.closed.answers

    abbrev new : D
    new = ended.log.disk

    -- each request is answered, from each client's first one on
    told_all : (client : ℕ) → AreToldTo client 0 first list (requests_of client requests) (answers_of answers client)
    told_all client = e.ends.run.told client

    closed : Closed recovery catalog db first list (change log.disk new)
    closed = was_closed kind recovery every catalog db first (room_from limit first) clients requests [] log ended e

    receipted : Receipted recovery catalog db first list ended.receipted (change log.disk new)
    receipted = was_receipted kind recovery every catalog db first (room_from limit first) clients requests [] log ended e

    goes_as_stopped : ended.log.halted ≡ None → (status : ℕ) → LogEndsAsStopped recovery every status first list ended.receipted (change log.disk new)
    goes_as_stopped = going_ends kind recovery every catalog db first (room_from limit first) clients requests [] log ended e

    failed_as_stopped : is_some ended.log.halted ≡ true → (status : ℕ) → (status ≡ 5) ⊎ (status ≡ 6) → LogEndsAsStopped recovery every status first list ended.receipted (change log.disk new)
    failed_as_stopped = failed_ends kind recovery every catalog db first (room_from limit first) clients requests [] log ended e

    settled : IsOk ended.flushed → ended.log.halted ≡ None → Drained catalog (after catalog db list) → Settled recovery every catalog db first list (change log.disk new)
    settled = was_settled kind recovery every catalog db first (room_from limit first) clients requests [] log ended e

    -- ---- what is answered

    -- these answers, at an end that explains each that isn't listed
    explained : (end : End) → ((a : Answer) → IsListedOr (IsUnlisted (room_from limit first) (length list) e.ends.fault) a → IsListedOr (Unlisted end) a) → AreAnswered requests first list end answers
    explained end explains = record {
      many = λ client. (told_all client).many;
      each = λ client. (told_all client).each;
      others = λ client. all_with (IsListedOr (IsUnlisted (room_from limit first) (length list) e.ends.fault)) (IsListedOr (Unlisted end)) explains (answers_of answers client) (e.ends.run.others client);
    }

    -- where the disk hasn't failed and none says that the list is full, at each end
    answered_calm : (end : End) → Unlisted end NoMemoryAnswer → ended.log.halted ≡ None → some_say_full answers ≡ false → AreAnswered requests first list end answers
    answered_calm end may going none =
        let calm = calm_at (kind.faults log.disk) (kind.faults new) ended.log.halted e.ends.fault e.ends.holds.halt going in record {
          many = λ client. (told_all client).many;
          each = λ client. (told_all client).each;
          others = λ client. at_calm (room_from limit first) (length list) e.ends.fault end may calm (answers_of answers client) (e.ends.run.others client) (none_of answers client none);
        }

    -- an answer that the list is full comes where it is
    list_is_full : (count : ℕ) → IsUnlisted (room_from limit first) (length list) e.ends.fault (ListFull count) → (length list == room_from limit first) ≡ true
    list_is_full count h = let within = e.ends.run.within in eq-eqb (length list) (room_from limit first) (omega (arith, h.1, within))

    -- the stop with this status, on a disk that was this one before
    abbrev stop_since : D → ℕ → End
    stop_since since status = law.stop_on change status ended.receipted limit first list since new

    -- at the stop that tells that the disk has failed
    pub answered_failed : AreAnswered requests first list (stop_since log.disk 5) answers
    answered_failed = explained (stop_since log.disk 5) explains
      where
        explains : (a : Answer) → IsListedOr (IsUnlisted (room_from limit first) (length list) e.ends.fault) a → IsListedOr (Unlisted (stop_since log.disk 5)) a
        explains (ListedAnswer place outcome) h = tt
        explains NoMemoryAnswer h = tt
        explains (ListFull count) h = list_is_full count h
        explains (Halted n) h = explained_at (kind.faults log.disk) (kind.faults new) ended.log.halted e.ends.fault n e.ends.holds.halt small h.0 h.1

    -- at the stop of a full list, where it hasn't
    answered_full : (since : D) → ended.log.halted ≡ None → AreAnswered requests first list (stop_since since 9) answers
    answered_full since going = explained (stop_since since 9) explains
      where
        calm : e.ends.fault ≡ 0
        calm = calm_at (kind.faults log.disk) (kind.faults new) ended.log.halted e.ends.fault e.ends.holds.halt going

        explains : (a : Answer) → IsListedOr (IsUnlisted (room_from limit first) (length list) e.ends.fault) a → IsListedOr (Unlisted (stop_since since 9)) a
        explains (ListedAnswer place outcome) h = tt
        explains NoMemoryAnswer h = tt
        explains (ListFull count) h = list_is_full count h
        explains (Halted n) h = absurd (h.1 (h.0 ∙ calm))

    module _ (whole_law : WholeRuns change) (stopped_law : StoppedRuns change) (full_law : FullListsHaveAll) where
      -- ---- a stopped run

      module _ (status : ℕ) (logged_so : LogEndsAsStopped recovery every status first list ended.receipted (change log.disk new)) (told : List (List Answer)) (answered : AreAnswered requests first list (stop_since log.disk status) told) where
        run_stopped : (missing : Answer) → IsStoppedRun recovery every limit catalog requests db first list status ended.receipted (report_text catalog requests (weave missing requests told) first list db (stop_since old status)) (change old new)
        run_stopped missing = stopped_law recovery every limit catalog requests db first list status ended.receipted missing told old log.disk new opened closed receipted logged_so answered e.ends.run.within

      -- as it is written
      abbrev stop_end : ℕ → ℕ → report.End
      stop_end status n = written.Stopped status ended.receipted n

      abbrev stop_record : ℕ → Stop
      stop_record status = record {
        status = status;
        count = ended.receipted;
        at_limit = not (status == 6) && length list == room_from limit first;
        faults_before = kind.faults old;
        faults_after = cond (status == 5) (kind.faults new) 0;
      }

      stopped_run : (status : Status) → LogEndsAsStopped recovery every (status_number status) first list ended.receipted (change log.disk new) → AreAnswered requests first list (stop_since log.disk (status_number status)) answers
          → (n : ℕ) (text : List ℕ) → IsReportOf catalog requests answers first list (stop_end (status_number status) n) text → StoppedRun (mode_of recovery) every limit catalog requests status text (change old new)
      stopped_run status logged_so answered n text is =
          let number = status_number status in record {
            recovery = recovery;
            of_mode = refl;
            opening = db;
            first = first;
            list = list;
            count = ended.receipted;
            run = subst (λ t. IsStoppedRun recovery every limit catalog requests db first list number ended.receipted t (change old new)) (sym (is db (stop_record number) refl refl))
                (run_stopped number logged_so answers answered (missing_answer (stop_end number n)));
          }

      -- where something was to follow a list with all its room, more was owed
      owes_more : ended.log.halted ≡ None → length list ≡ room_from limit first → (1 ≤ outside requests list) ⊎ SomeReady catalog (after catalog db list) → room_from limit first < owed catalog db requests
      owes_more going full more = elim (cases_lt (room_from limit first) (owed catalog db requests)) [
        | inl less ↦ less
        | inr enough ↦ absurd (by more (full_law catalog accepted db in_step requests list lists_asked (omega (arith, enough, full))))
      ]
        where
          lists_asked : ListsAsked catalog db requests list
          lists_asked =
              let session = (run_stopped 9 (goes_as_stopped going 9) answers (answered_full log.disk going) NoMemoryAnswer).session.each db refl in
              record { replays = session.replies.one_by_one; asked = session.replies.report.asked; in_turn = session.replies.report.in_turn }

          by : (1 ≤ outside requests list) ⊎ SomeReady catalog (after catalog db list) → (outside requests list ≡ 0) × NoneReady catalog (after catalog db list) → ⊥
          by (inl some) none = omega (arith, some, none.0)
          by (inr (q, ready)) none = false≢true (sym (none.1 q) ∙ ready)

      full_is : some_say_full answers ≡ true → length list ≡ room_from limit first
      full_is some =
          let one = some_of answers some in
          let least = full_by_one (room_from limit first) (length list) e.ends.fault (answers_of answers one.0) (e.ends.run.others one.0) one.1 in
          let within = e.ends.run.within in omega (arith, least, within)

      some_outside : some_say_full answers ≡ true → 1 ≤ outside requests list
      some_outside some =
          let one = some_of answers some in outside_by_one requests first list one.0 (answers_of answers one.0) (told_all one.0).many (told_all one.0).each one.1

      outside_or : (some_say_full answers ≡ true) ⊎ SomeReady catalog (after catalog db list) → (1 ≤ outside requests list) ⊎ SomeReady catalog (after catalog db list)
      outside_or (inl some) = inl (some_outside some)
      outside_or (inr ready) = inr ready

      full_run : ended.log.halted ≡ None → length list ≡ room_from limit first → (some_say_full answers ≡ true) ⊎ SomeReady catalog (after catalog db list) → (n : ℕ) (text : List ℕ)
          → IsReportOf catalog requests answers first list (stop_end 9 n) text → FullRun (mode_of recovery) every limit catalog requests text (change old new)
      unfolding stopped_run
      full_run going full more n text is = record {
        stopped = stopped_run Limit (goes_as_stopped going 9) (answered_full log.disk going) n text is;
        full = full;
        answers = answers;
        told = record { answered = answered_full old going; missing = missing_answer (stop_end 9 n); written = is db (stop_record 9) refl refl };
        more = more;
        owed_more = owes_more going full (outside_or more);
      }

      -- ---- a whole run

      -- its report
      abbrev whole_text : List ℕ
      whole_text = report_text catalog requests (weave NoMemoryAnswer requests answers) first list db Whole

      whole_run : ended.log.halted ≡ None → some_say_full answers ≡ false → IsOk ended.flushed → Drained catalog (after catalog db list) → (text : List ℕ) → IsPrinted printing list whole_text text
          → IsReadAgain printing catalog requests db first list whole_text → WholeRun (mode_of recovery) every limit printing catalog requests text (change old new)
      whole_run going none ok drained text printed read_again =
          record {
            recovery = recovery;
            of_mode = refl;
            opening = db;
            first = first;
            list = list;
            report = whole_text;
            run = whole_law recovery every limit catalog requests db first list NoMemoryAnswer answers old log.disk new opened closed (settled ok going drained) (answered_calm Whole tt going none) e.ends.run.within;
            printed = printed;
            read_again = read_again;
          }

      -- the text that was written of it
      printed_as : (p : Printing) (database : Database) → IsLeftOver catalog (after catalog db list) database → (n : ℕ) (text : List ℕ)
          → IsReportOf catalog requests answers first list (end_for Done p (Some database) ended.receipted n) text → IsPrinted p list whole_text text
      printed_as InFull database left n text written' = written' db left.0.shard.contents.tables
      printed_as (Summary votes) database left n text written' = written'

      -- and read again, by its answers
      read_as : (p : Printing) (database : Database) → IsLeftOver catalog (after catalog db list) database → (n : ℕ)
          → HasReadableLines catalog requests answers first list (end_for Done p (Some database) ended.receipted n) → IsReadAgain p catalog requests db first list whole_text
      read_as InFull database left n lines = record { answers = weave NoMemoryAnswer requests answers; written = refl; readable = lines db left.0.shard.contents.tables }
      read_as (Summary votes) database left n lines = tt

      -- ---- by how it ended

      -- the report with this status and these faults was written
      abbrev IsWritten : Status → ℕ → List ℕ → Type 0
      IsWritten status n text = IsWrittenReport catalog requests answers first list (end_for status printing ended.closed.database ended.receipted n) text

      abbrev Is : Status → List ℕ → Type 0
      Is status text = RanAs (mode_of recovery) every limit printing catalog requests status text (change old new)

      by_database : ended.log.halted ≡ None → some_say_full answers ≡ false → IsOk ended.flushed → Drained catalog (after catalog db list) → ended.closed.settling ≡ Ok tt
          → (o : Option Database) → ended.closed.database ≡ o → IfNone o (ended.closed.settling ≡ Err unlisted.NoMemory) → IfSome o (IsLeftOver catalog (after catalog db list)) → (n : ℕ) (text : List ℕ)
          → IsWrittenReport catalog requests answers first list (end_for Done printing o ended.receipted n) text → Is Done text
      by_database going none ok drained done None is lost left n text written' = let wrong : Ok tt ≡ Err unlisted.NoMemory = sym done ∙ lost in absurd (cc)
      by_database going none ok drained done (Some database) is lost left n text written' = whole_run going none ok drained text (printed_as printing database left n text written'.0) (read_as printing database left n written'.1)

      by_settling : ended.log.halted ≡ None → some_say_full answers ≡ false → (end : Result Unit placed.Unlisted) → ended.closed.settling ≡ end → EndedWith catalog db (room_from limit first) list end
          → (flushed : Bool) → (flushed ≡ true → IsOk ended.flushed) → (n : ℕ) (text : List ℕ) → IsWritten (settled_status end flushed) n text → Is (settled_status end flushed) text
      by_settling going none (Ok done) is ends true ok n text written' = by_database going none (ok refl) (ends.1 in_step) is ended.closed.database refl e.ends.run.lost e.ends.run.left n text written'
      by_settling going none (Ok done) is ends false ok n text written' = stopped_run NoMemory (goes_as_stopped going 6) (answered_calm (stop_since log.disk 6) tt going none) n text written'.0
      by_settling going none (Err (unlisted.ListFull count)) is ends flushed ok n text written' = full_run going ends.0 (inr ends.2) n text written'.0
      by_settling going none (Err unlisted.NoMemory) is ends flushed ok n text written' = stopped_run NoMemory (goes_as_stopped going 6) (answered_calm (stop_since log.disk 6) tt going none) n text written'.0

      by_answers : ended.log.halted ≡ None → (b : Bool) → some_say_full answers ≡ b → (flushed : Bool) → (flushed ≡ true → IsOk ended.flushed) → (n : ℕ) (text : List ℕ)
          → IsWritten (cond b Limit (settled_status ended.closed.settling flushed)) n text → Is (cond b Limit (settled_status ended.closed.settling flushed)) text
      by_answers going true some flushed ok n text written' = full_run going (full_is some) (inl some) n text written'.0
      by_answers going false none flushed ok n text written' = by_settling going none ended.closed.settling refl e.ends.run.end flushed ok n text written'

      by_failed : (failed : Bool) → is_some ended.log.halted ≡ failed → (flushed : Bool) → (flushed ≡ true → IsOk ended.flushed) → (n : ℕ) (text : List ℕ)
          → IsWritten (session_status failed answers ended.closed.settling flushed) n text → Is (session_status failed answers ended.closed.settling flushed) text
      by_failed true is flushed ok n text written' = stopped_run Disk (failed_as_stopped is 5 (inl refl)) answered_failed n text written'.0
      by_failed false is flushed ok n text written' = by_answers (not_halted ended.log.halted is) (some_say_full answers) refl flushed ok n text written'

      -- the status and the report that was written of it
      pub reported : (failed : Bool) → is_some ended.log.halted ≡ failed → (flushed : Bool) → (flushed ≡ true → IsOk ended.flushed) → (status : Status) → status ≡ session_status failed answers ended.closed.settling flushed
          → (n : ℕ) (text : List ℕ) → IsWritten status n text → Reports (mode_of recovery) every limit printing catalog requests status (Some text) (change old new)
      reported failed is flushed ok status told n text written' = record {
        whole = text;
        ran = subst (λ s. Is s text) (sym told) (by_failed failed is flushed ok n text (subst (λ s. IsWritten s n text) told written'));
        written = refl;
        unwritten = tt;
        rose = λ disk. by_status failed is (sym told ∙ disk);
      }
        where
          not_disk : (b f : Bool) (end : Result Unit placed.Unlisted) → cond b Limit (settled_status end f) ≡ Disk → ⊥
          not_disk true f end is = cc
          not_disk false true (Ok done) is = cc
          not_disk false false (Ok done) is = cc
          not_disk false f (Err (unlisted.ListFull count)) is = cc
          not_disk false f (Err unlisted.NoMemory) is = cc

          by_status : (f : Bool) → is_some ended.log.halted ≡ f → session_status f answers ended.closed.settling flushed ≡ Disk → Rose (kind.faults old) (kind.faults new)
          by_status true some disk = let rose = rose_at (kind.faults log.disk) (kind.faults new) ended.log.halted e.ends.fault e.ends.holds.halt some in let later = opened.faults in omega (arith, rose, later)
          by_status false none disk = absurd (not_disk (some_say_full answers) flushed ended.closed.settling disk)

      -- there was no memory for a report
      pub unreported : Reports (mode_of recovery) every limit printing catalog requests NoMemory None (change old new)
      unreported = record {
        whole = report_text catalog requests (weave NoMemoryAnswer requests told) first list db (stop_since old 6);
        ran = record { recovery = recovery; of_mode = refl; opening = db; first = first; list = list; count = ended.receipted; run = run_stopped 6 (logged_at (is_some ended.log.halted) refl) told answered NoMemoryAnswer };
        written = tt;
        unwritten = refl;
        rose = λ disk. let no : ⊥ = cc in absurd no;
      }
        where
          -- whatever was answered, no text tells it
          told : List (List Answer)
          told = all_without_memory answers

          answered : AreAnswered requests first list (stop_since log.disk 6) told
          answered = answered_without_memory requests first list (stop_since log.disk 6) answers tt (λ client. (told_all client).many) (λ client. (told_all client).each)

          logged_at : (failed : Bool) → is_some ended.log.halted ≡ failed → LogEndsAsStopped recovery every 6 first list ended.receipted (change log.disk new)
          logged_at true is = failed_as_stopped is 6 (inr refl)
          logged_at false is = goes_as_stopped (not_halted ended.log.halted is) 6

    -- where the report begins, and the tables that it has
    pub places : first + length list < 2 ^ 64
    places = let within = e.ends.run.within in omega (arith, within, few)

-- the tables of an end are those of the database
pub end_tables : (catalog : Catalog) (d : Model) (status : Status) (printing : Printing) (database : Option Database) (count n : ℕ) → IfSome database (IsLeftOver catalog d) → HasEndTables catalog (end_for status printing database count n)
end_tables catalog d Done InFull None count n left = tt
end_tables catalog d Done (Summary votes) database count n left = tt
end_tables catalog d Done InFull (Some database) count n left = left.1.of_catalog.tables
end_tables catalog d Usage printing database count n left = tt
end_tables catalog d Differs printing database count n left = tt
end_tables catalog d Input printing database count n left = tt
end_tables catalog d ReadFault printing database count n left = tt
end_tables catalog d WriteFault printing database count n left = tt
end_tables catalog d Disk printing database count n left = tt
end_tables catalog d NoMemory printing database count n left = tt
end_tables catalog d Foreign printing database count n left = tt
end_tables catalog d OtherMode printing database count n left = tt
end_tables catalog d OtherCatalog printing database count n left = tt
end_tables catalog d Limit printing database count n left = tt

-- the places of a session with this room
pub within_places : (limit first room : ℕ) → first ≤ 2 ^ 60 → room ≡ room_from limit first → first + room ≤ 2 ^ 60
within_places limit first room few is = omega (arith, few, is)
