-- What one opening more of a disk, and the engine on it, comes to.
use Rattle.std.proofs.Common.{◌≡◌, ◌≤◌, ◌<◌, ◌^◌, ◌⊎◌, ◌∙◌, inl, inr, ℕ, zero, suc, refl, Bool, true, false, cond, List, [], length, sym, subst, Some, None, Result, Ok, Err, arith, is_some}
use Rattle.std.specs.Prelude.{Option}
use Rattle.ss_lemmas.proofs.EachOf.{all_with}
use Rattle.ss_value.specs.FaultCounts.{Rose}
use Rattle.ss_model.specs.declared.catalog.Catalog.{Catalog}
use Rattle.ss_model.specs.declared.entry.Answer.{Answer}
use Rattle.ss_model.specs.declared.entry.Answer.TheVariants.{Listed as ListedAnswer, NoMemory as NoMemoryAnswer, ListFull, Halted}
use Rattle.ss_model.specs.declared.entry.Listed.{Listed}
use Rattle.ss_model.specs.declared.entry.Mode.{Mode}
use Rattle.ss_model.specs.declared.entry.Mode.TheVariants as modes
use Rattle.ss_model.specs.declared.entry.Request.{Request}
use Rattle.ss_model.specs.Database.{Database as Model}
use Rattle.ss_model.specs.Recovery.{Strong}
use Rattle.ss_model.specs.Report.{Unlisted, report_text}
use Rattle.ss_report_laws.specs.Resuming.{NoneBehindStop}
use Rattle.ss_report_laws.specs.Replies.{AreAnswered, IsListedOr, answers_of, expected_entries, mine, requests_of, weave}
use Rattle.ss_disk.specs.Kinds.{DiskKind}
use Rattle.ss_cmdlog.specs.declared.log.CmdLog.{CmdLog}
use Rattle.ss_receipts.specs.Holding.{HaltedAt}
use Rattle.ss_headline.specs.Disks.{DiskChange, disk_of}
use Rattle.ss_headline.specs.Layers.{Closed, Opened, Receipted}
use Rattle.ss_headline.specs.Runs.{LogEndsAsStopped}
use Rattle.ss_headline.specs.Sentences.{room_from, stop_at}
use Rattle.ss_headline.proofs.CallerLemmas.{answered_since}
use Rattle.ss_incarnations.specs.Incarnations.{Incarnation}
use Rattle.ss_incarnations.specs.Reopening.{FirstIncarnation, Lived}
use Rattle.ss_incarnations.specs.Runs.{EndsWithOwn, IsStoppedRunOver, RunsOverRestarts, list_before, stop_over}
use Rattle.ss_engine.specs.declared.session.run.Finished.{Finished}
use Rattle.ss_resume.specs.declared.past.Past.{Past}
use Rattle.ss_refusals.specs.declared.status.Status.{Status}
use Rattle.ss_refusals.specs.declared.status.Status.TheVariants.{Done, Usage, Input, ReadFault, WriteFault, Disk, NoMemory, Foreign, OtherMode, OtherCatalog, Limit, Differs}
use Rattle.ss_refusals.specs.Sinks.{SinkChange}
use Rattle.ss_refusals.specs.StoreRefusals.{WritesWhole}
use Rattle.ss_refusals.specs.Statuses.{status_number}
use Rattle.ss_commitlog.specs.declared.placed.Unlisted as placed
use Rattle.ss_commitlog.specs.declared.placed.Unlisted.TheVariants as unlisted
use Rattle.ss_top.specs.declared.session.Printing.{Printing}
use Rattle.ss_top.specs.Over.{FoundLater, CameOver, MayEnd, RoseBy, StoppedRunOver}
use Rattle.ss_top.specs.Runs.{Reports, ReportsAs, TellsDiskFault, TellsReport, session_status, settled_status}
use Rattle.ss_top.specs.Serving.{HasServedCause}
use Rattle.ss_top.specs.Stores.{CameTo, WasOf}
use Rattle.ss_top.specs.Told.{some_say_full}
use Rattle.ss_top.specs.Turns.{Comes, IsPast}
use Rattle.ss_top.proofs.Storing.{report_sink, session_told, store_by_report}
use Rattle.ss_top.proofs.Unreported.{all_without_memory, answered_without_memory}

-- ---- counts of faults

pub rose_more : (n a b c : ℕ) → RoseBy n a b → Rose b c → RoseBy (suc n) a c
rose_more n a b c first second = omega (arith, first, second)

pub rose_keeps : (n a b c : ℕ) → RoseBy n a b → b ≤ c → RoseBy n a c
rose_keeps n a b c rose le = omega (arith, rose, le)

pub rose_once : (n a b : ℕ) → RoseBy (suc n) a b → Rose a b
rose_once n a b rose = omega (arith, rose)

-- ---- statuses

-- the statuses of a session
abbrev pub MayBeSession : Status → Type 0
MayBeSession Done = Unit {0}
MayBeSession Disk = Unit {0}
MayBeSession NoMemory = Unit {0}
MayBeSession Limit = Unit {0}
MayBeSession _ = ⊥

-- a session has one of four statuses
pub session_may : (failed : Bool) (answers : List (List Answer)) (end : Result Unit placed.Unlisted) (flushed : Bool) → MayBeSession (session_status failed answers end flushed)
session_may failed answers end flushed = by failed (some_say_full answers) end flushed
  where
    by : (f full : Bool) (e : Result Unit placed.Unlisted) (ok : Bool) → MayBeSession (cond f Disk (cond full Limit (settled_status e ok)))
    by true full e ok = tt
    by false true e ok = tt
    by false false (Ok done) true = tt
    by false false (Ok done) false = tt
    by false false (Err (unlisted.ListFull count)) ok = tt
    by false false (Err unlisted.NoMemory) ok = tt

-- and how it is told has one of a run's
pub told_may : (w : SinkChange) (status : Status) (text : Option (List ℕ)) (ended : Status) → MayBeSession status → TellsReport status text ended w → MayEnd ended
told_may w status None ended may tells = subst MayEnd (sym tells.is) tt
told_may w Done (Some text) ended may tells = whole ended tells
  where
    whole : (e : Status) → WritesWhole e text w → MayEnd e
    whole Done wrote = tt
    whole WriteFault wrote = tt
    whole Usage wrote = wrote
    whole Input wrote = wrote
    whole ReadFault wrote = wrote
    whole Differs wrote = wrote
    whole Disk wrote = tt
    whole NoMemory wrote = tt
    whole Foreign wrote = tt
    whole OtherMode wrote = tt
    whole OtherCatalog wrote = tt
    whole Limit wrote = tt
told_may w Disk (Some text) ended may tells = subst MayEnd (sym tells.is) tt
told_may w NoMemory (Some text) ended may tells = subst MayEnd (sym tells.is) tt
told_may w Limit (Some text) ended may tells = subst MayEnd (sym tells.is) tt
told_may w Usage (Some text) ended may tells = absurd may
told_may w Input (Some text) ended may tells = absurd may
told_may w ReadFault (Some text) ended may tells = absurd may
told_may w WriteFault (Some text) ended may tells = absurd may
told_may w Foreign (Some text) ended may tells = absurd may
told_may w OtherMode (Some text) ended may tells = absurd may
told_may w OtherCatalog (Some text) ended may tells = absurd may
told_may w Differs (Some text) ended may tells = absurd may

-- where the program ends with status 5 the session did
pub told_disk : (w : SinkChange) (status : Status) (text : Option (List ℕ)) (ended : Status) → TellsReport status text ended w → ended ≡ Disk → status ≡ Disk
told_disk w status None ended tells is = let no : NoMemory ≡ Disk = sym tells.is ∙ is in absurd (cc)
told_disk w status (Some text) ended tells is = by status tells
  where
    by : (s : Status) → TellsReport s (Some text) ended w → s ≡ Disk
    by Done tells' = absurd (subst (λ (e : Status). WritesWhole e text w) is tells')
    by Disk tells' = refl
    by NoMemory tells' = sym tells'.is ∙ is
    by Limit tells' = sym tells'.is ∙ is
    by WriteFault tells' = sym tells'.is ∙ is
    by Foreign tells' = sym tells'.is ∙ is
    by OtherMode tells' = sym tells'.is ∙ is
    by OtherCatalog tells' = sym tells'.is ∙ is
    by Usage tells' = sym tells'.is ∙ is
    by Input tells' = sym tells'.is ∙ is
    by ReadFault tells' = sym tells'.is ∙ is
    by Differs tells' = sym tells'.is ∙ is

-- a session that ended with it has failed
pub failed_is : (failed : Bool) (answers : List (List Answer)) (end : Result Unit placed.Unlisted) (flushed : Bool) → session_status failed answers end flushed ≡ Disk → failed ≡ true
failed_is true answers end flushed is = refl
failed_is false answers end flushed is = absurd (by (some_say_full answers) end flushed is)
  where
    by : (full : Bool) (e : Result Unit placed.Unlisted) (ok : Bool) → cond full Limit (settled_status e ok) ≡ Disk → ⊥
    by true e ok same = cc
    by false (Ok done) true same = cc
    by false (Ok done) false same = cc
    by false (Err (unlisted.ListFull count)) ok same = cc
    by false (Err unlisted.NoMemory) ok same = cc

-- by what is said of its report
pub said_may : {D : Type 0} (printing : Printing) (requests : List Request) (first : ℕ) (finished : Finished D) (status : Status) (text : Option (List ℕ)) → ReportsAs printing requests first finished status text → MayBeSession status
said_may printing requests first finished status (Some text) said = subst MayBeSession (sym said.is) (session_may (is_some finished.log.halted) finished.closed.answers finished.closed.settling said.flushed)
said_may printing requests first finished status None none = subst MayBeSession (sym none) tt

pub said_failed : {D : Type 0} (printing : Printing) (requests : List Request) (first : ℕ) (finished : Finished D) (status : Status) (text : Option (List ℕ)) → ReportsAs printing requests first finished status text
    → status ≡ Disk → is_some finished.log.halted ≡ true
said_failed printing requests first finished status (Some text) said is = failed_is (is_some finished.log.halted) finished.closed.answers finished.closed.settling said.flushed (sym said.is ∙ is)
said_failed printing requests first finished status None none is = let no : NoMemory ≡ Disk = sym none ∙ is in absurd (cc)

-- the number of a fault is a number of 64 bits
pub small_halt : (before now : ℕ) (halted : Option ℕ) (fault : ℕ) → HaltedAt before now halted fault → ((f : ℕ) → halted ≡ Some f → f < 2 ^ 64) → fault < 2 ^ 64
small_halt before now halted fault (inl calm) small = let none = calm.1 in omega (arith, none)
small_halt before now halted fault (inr failed) small = small fault failed.0

-- an answer that a stop explains which tells that the disk has failed is explained by one at a later disk
pub answered_later : (requests : List Request) (first : ℕ) (list : List Listed) (answers : List (List Answer)) (count limit from : ℕ) (all : List Listed) (before mid now : ℕ) → mid ≤ now
    → AreAnswered requests first list (stop_at 5 count limit from all before mid) answers → AreAnswered requests first list (stop_at 5 count limit from all before now) answers
answered_later requests first list answers count limit from all before mid now later t = record {
  many = t.many;
  each = t.each;
  others = λ client. all_with (IsListedOr (Unlisted (stop_at 5 count limit from all before mid))) (IsListedOr (Unlisted (stop_at 5 count limit from all before now))) explains (answers_of answers client) (t.others client);
}
  where
    explains : (a : Answer) → IsListedOr (Unlisted (stop_at 5 count limit from all before mid)) a → IsListedOr (Unlisted (stop_at 5 count limit from all before now)) a
    explains (ListedAnswer place outcome) h = tt
    explains NoMemoryAnswer h = tt
    explains (ListFull n) h = h
    explains (Halted n) h = (h.0, let within = h.1 in omega (arith, within, later))

-- a cause of one opening
pub served_of : (again : ℕ) (ended : Status) (w : SinkChange) (disk : DiskChange) → (ended ≡ Disk → RoseBy (suc again) disk.faults_before disk.faults_now) → (ended ≡ WriteFault → Rose w.faults_before w.faults_now) → HasServedCause again ended w disk
served_of again WriteFault w disk by_disk by_sink = by_sink refl
served_of again Disk w disk by_disk by_sink = by_disk refl
served_of again Done w disk by_disk by_sink = tt
served_of again Usage w disk by_disk by_sink = tt
served_of again Input w disk by_disk by_sink = tt
served_of again ReadFault w disk by_disk by_sink = tt
served_of again NoMemory w disk by_disk by_sink = tt
served_of again Foreign w disk by_disk by_sink = tt
served_of again OtherMode w disk by_disk by_sink = tt
served_of again OtherCatalog w disk by_disk by_sink = tt
served_of again Limit w disk by_disk by_sink = tt
served_of again Differs w disk by_disk by_sink = tt

-- where the sink failed
pub sink_cause : (w : SinkChange) (status : Status) (text : Option (List ℕ)) (ended : Status) → MayBeSession status → TellsReport status text ended w → ended ≡ WriteFault → Rose w.faults_before w.faults_now
sink_cause w status None ended may tells is = let no : NoMemory ≡ WriteFault = sym tells.is ∙ is in absurd (cc)
sink_cause w Done (Some text) ended may tells is = (subst (λ (e : Status). WritesWhole e text w) is tells).1
sink_cause w Disk (Some text) ended may tells is = let no : Disk ≡ WriteFault = sym tells.is ∙ is in absurd (cc)
sink_cause w NoMemory (Some text) ended may tells is = let no : NoMemory ≡ WriteFault = sym tells.is ∙ is in absurd (cc)
sink_cause w Limit (Some text) ended may tells is = let no : Limit ≡ WriteFault = sym tells.is ∙ is in absurd (cc)
sink_cause w Usage (Some text) ended may tells is = absurd may
sink_cause w Input (Some text) ended may tells is = absurd may
sink_cause w ReadFault (Some text) ended may tells is = absurd may
sink_cause w WriteFault (Some text) ended may tells is = absurd may
sink_cause w Foreign (Some text) ended may tells is = absurd may
sink_cause w OtherMode (Some text) ended may tells is = absurd may
sink_cause w OtherCatalog (Some text) ended may tells is = absurd may
sink_cause w Differs (Some text) ended may tells is = absurd may

module _ {D : Type 0} (kind : DiskKind D) (mode : Mode) (every : Option ℕ) (limit : ℕ) (printing : Printing) (catalog : Catalog) (requests : List Request) where
  abbrev change : D → D → DiskChange
  change = disk_of kind

  -- ---- there was no memory

  abbrev Stops : ℕ → Bool → SinkChange → D → D → Status → Type 0
  Stops again last w old new ended = Comes kind mode every limit printing catalog requests again last ended w old new

  -- on the disk as it was given
  pub once_short : (last : Bool) (old new : D) → kind.faults old ≤ kind.faults new → (w : SinkChange) (ended : Status) → TellsReport NoMemory None ended w
      → CameTo mode every limit printing catalog requests NoMemory w (change old new) → Comes kind mode every limit printing catalog requests zero last ended w old new
  once_short last old new later w ended tells came = subst (Stops zero last w old new) (sym tells.is) (record {
    came = came;
    cause = tt;
    at_last = λ is. let no : NoMemory ≡ Disk = is in absurd (cc);
    told = λ none all. inr (inl refl);
    sink = λ is. let no : NoMemory ≡ Done = is in absurd (cc);
    later = later;
  })

  -- on one that was tried before, or on which an engine had run
  pub later_short : (last : Bool) (again : ℕ) (old new : D) → kind.faults old ≤ kind.faults new → RoseBy (suc again) (kind.faults old) (kind.faults new) → (w : SinkChange) (ended : Status)
      → TellsReport NoMemory None ended w
      → (kind.honest → CameTo modes.Strong every limit printing catalog requests NoMemory w (change old new) ⊎ FoundLater kind catalog NoMemory w old new ⊎ CameOver kind every limit (suc again) printing catalog requests NoMemory w old new)
      → Comes kind mode every limit printing catalog requests (suc again) last ended w old new
  later_short last again old new later rose w ended tells came = subst (Stops (suc again) last w old new) (sym tells.is) (record {
    came = record { some = omega arith; rose = rose; may = tt; came = came };
    cause = tt;
    at_last = λ is. let no : NoMemory ≡ Disk = is in absurd (cc);
    told = λ none all. absurd (cc);
    sink = λ is. let no : NoMemory ≡ Done = is in absurd (cc);
    later = later;
  })

  -- ---- a past of one engine

  module _ (again : ℕ) (old : D) (db : Model) (first : ℕ) (log : CmdLog D) (ended : Finished D) (was : WasOf modes.Strong catalog (change old log.disk)) (opened : Opened Strong catalog db first (change old log.disk))
      (closed : Closed Strong catalog db first ended.closed.list (change log.disk ended.log.disk)) (receipted : Receipted Strong catalog db first ended.closed.list ended.receipted (change log.disk ended.log.disk))
      (within' : length ended.closed.list ≤ room_from limit first) (stops : (client : ℕ) → NoneBehindStop (answers_of ended.closed.answers client)) (first_law : FirstIncarnation kind) where
    abbrev new : D
    new = ended.log.disk

    abbrev last : Incarnation
    last = record { moment = kind.moment old; list = ended.closed.list; receipted = ended.receipted }

    pub first_past : AreAnswered requests first ended.closed.list (stop_at 5 ended.receipted limit first ended.closed.list (kind.faults log.disk) (kind.faults new)) ended.closed.answers
        → IsPast kind limit catalog requests (suc again) old new (record { list = ended.closed.list; first = first; answers = ended.closed.answers; receipted = ended.receipted })
    first_past answered = record {
      db = db;
      was = was;
      last = last;
      earlier = [];
      lived = first_law catalog db first ended.closed.list ended.receipted old log.disk new opened closed receipted;
      list_is = refl;
      receipted_is = refl;
      few = omega arith;
      within = within';
      answered = answered_since _ (kind.faults old) opened.faults requests first ended.closed.list ended.closed.answers answered;
      stops = stops;
    }

  -- ---- a past behind which no engine was opened

  -- a list that was cut off nowhere is its last engine's
  own_of_all : (first : ℕ) (list before : List Listed) (P : ℕ → List Listed → Type 0) → P first list → EndsWithOwn first list before P
  own_of_all first list before P says = record { stayed = 0; within = omega arith; own = list; parts = refl; says = subst (λ (n : ℕ). P n list) (omega arith) says }

  module _ (again : ℕ) (old mid : D) (past : Past) (p : IsPast kind limit catalog requests (suc again) old mid past) (over_law : RunsOverRestarts kind) where
    -- where what is said of it goes on up to a disk
    module _ (new : D) (lived : Lived kind catalog p.db past.first p.last p.earlier old new) (rose : RoseBy (suc again) (kind.faults old) (kind.faults new)) where
      within : length p.last.list ≤ room_from limit past.first
      within = subst (λ (l : List Listed). length l ≤ room_from limit past.first) p.list_is p.within

      pub stopped : (status : Status) → (status_number status ≡ 5) ⊎ (status_number status ≡ 6) → (told : List (List Answer)) → AreAnswered requests past.first p.last.list (stop_over kind (status_number status) limit past.first p.last old new) told
          → (missing : Answer) (text : List ℕ) → text ≡ report_text catalog requests (weave missing requests told) past.first p.last.list p.db (stop_over kind (status_number status) limit past.first p.last old new)
          → StoppedRunOver kind every limit (suc again) catalog requests status text old new
      stopped status is told answered missing text text_is = record {
        opening = p.db;
        first = past.first;
        last = p.last;
        earlier = p.earlier;
        few = let few = p.few in omega (arith, few);
        run = subst (λ (t : List ℕ). IsStoppedRunOver kind every limit catalog requests p.db past.first p.last p.earlier (status_number status) t old new) (sym text_is)
            (over_law.stopped every limit catalog requests p.db past.first p.last p.earlier (status_number status) missing told old old new (omega arith) lived
            (own_of_all past.first p.last.list (list_before p.earlier) (λ n l. LogEndsAsStopped Strong every (status_number status) n l p.last.receipted (change old new)) (λ told'. inr (record { status_is = is; rose = rose_once again (kind.faults old) (kind.faults new) rose })))
            answered within);
      }

      abbrev silent_text : List ℕ
      silent_text = report_text catalog requests (weave NoMemoryAnswer requests (all_without_memory past.answers)) past.first p.last.list p.db (stop_over kind 6 limit past.first p.last old new)

      abbrev AreAnsweredOf : List Listed → ℕ → Type 0
      AreAnsweredOf l client = mine client past.first l ≡ expected_entries client 0 (requests_of client requests) (answers_of past.answers client)

      -- there was no memory for more
      pub short_of : WasOf modes.Strong catalog (change old new) → (w : SinkChange) (ended : Status) → TellsReport NoMemory None ended w → CameOver kind every limit (suc again) printing catalog requests ended w old new
      short_of was w ended tells = subst (λ (s : Status). CameOver kind every limit (suc again) printing catalog requests s w old new) (sym tells.is) (record {
        was = was;
        text = silent_text;
        ran = stopped NoMemory (inr refl) (all_without_memory past.answers)
            (answered_without_memory requests past.first p.last.list (stop_over kind 6 limit past.first p.last old new) past.answers tt (λ client. p.answered.many client)
            (λ client. subst (λ (l : List Listed). AreAnsweredOf l client) p.list_is (p.answered.each client))) NoMemoryAnswer silent_text refl;
        wrote = inr tells.reported;
      })

  -- ---- a session was reported

  module _ (last : Bool) (status : Status) (text : Option (List ℕ)) (may : MayBeSession status) (at_last : status ≡ Disk → last ≡ true) (old new : D)
      (later : kind.faults old ≤ kind.faults new) where
    -- on the disk as it was given
    pub once_over : WasOf mode catalog (change old new) → Reports mode every limit printing catalog requests status text (change old new) → TellsDiskFault status (kind.faults old) (kind.faults new)
        → (w : SinkChange) (ended : Status) → TellsReport status text ended w → Comes kind mode every limit printing catalog requests zero last ended w old new
    once_over was reports told w ended tells = record {
      came = (session_told mode every limit printing catalog requests (change old new) was w status text reports ended tells).came;
      cause = served_of zero ended w (change old new) (λ is. reports.rose (told_disk w status text ended tells is)) (sink_cause w status text ended may tells);
      at_last = λ is. at_last (told_disk w status text ended tells is);
      told = λ none all. store_by_report w status text ended tells (kind.faults old) (kind.faults new) told;
      sink = report_sink w status text ended tells;
      later = later;
    }

    -- on one that was tried before, or on which an engine had run
    pub later_over : (again : ℕ) → RoseBy (suc again) (kind.faults old) (kind.faults new) → (status ≡ Disk → RoseBy (suc (suc again)) (kind.faults old) (kind.faults new))
        → (w : SinkChange) (ended : Status) → TellsReport status text ended w
        → (kind.honest → CameTo modes.Strong every limit printing catalog requests ended w (change old new) ⊎ FoundLater kind catalog ended w old new ⊎ CameOver kind every limit (suc again) printing catalog requests ended w old new)
        → Comes kind mode every limit printing catalog requests (suc again) last ended w old new
    later_over again rose more w ended tells came = record {
      came = record { some = omega arith; rose = rose; may = told_may w status text ended may tells; came = came };
      cause = served_of (suc again) ended w (change old new) (λ is. more (told_disk w status text ended tells is)) (sink_cause w status text ended may tells);
      at_last = λ is. at_last (told_disk w status text ended tells is);
      told = λ none all. absurd (cc);
      sink = report_sink w status text ended tells;
      later = later;
    }
