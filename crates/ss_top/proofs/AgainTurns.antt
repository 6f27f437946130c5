-- What a store comes to that was opened behind an engine that ran.
use Rattle.std.proofs.Common.{◌≡◌, ◌≤◌, ◌<◌, ◌+◌, ◌-◌, ◌^◌, ◌⊎◌, ◌∙◌, inl, inr, refl, ℕ, suc, Bool, true, List, ◌∷◌, ◌++◌, length, take, drop, map, sym, ap, subst, Some, None, arith, is_some, length-append, length-drop}
use Rattle.std.specs.Prelude.{Option}
use Rattle.std.proofs.lemmas.List.{length-take-le}
use Rattle.ss_model.specs.declared.catalog.Catalog.{Catalog}
use Rattle.ss_model.specs.declared.entry.Answer.{Answer}
use Rattle.ss_model.specs.declared.entry.Listed.{Listed}
use Rattle.ss_model.specs.declared.entry.Mode.TheVariants as modes
use Rattle.ss_model.specs.declared.entry.Request.{Request}
use Rattle.ss_model.specs.Database.{Database as Model}
use Rattle.ss_model.specs.Recovery.{Strong}
use Rattle.ss_report_laws.specs.Replies.{answers_of, requests_of}
use Rattle.ss_report_laws.specs.Resuming.{AnswersResume, FirstAnswersStay, resume_at}
use Rattle.ss_disk.specs.Kinds.{DiskKind}
use Rattle.ss_cmdlog.specs.declared.log.CmdLog.{CmdLog}
use Rattle.ss_headline.specs.Disks.{disk_of}
use Rattle.ss_headline.specs.Layers.{Opened}
use Rattle.ss_headline.specs.Sentences.{room_from}
use Rattle.ss_incarnations.specs.Reopening.{NoEngineIsOpened, OneMoreIncarnation}
use Rattle.ss_incarnations.specs.Runs.{RunsOverRestarts}
use Rattle.ss_engine.specs.declared.session.run.Finished.{Finished}
use Rattle.ss_engine.specs.Clients.{StartWithin}
use Rattle.ss_engine.specs.Sessions.{EndsOnDisk}
use Rattle.ss_recover.specs.declared.recovered.Recovered.{Recovered}
use Rattle.ss_snapshot.specs.Bodies.{GrowsTo}
use Rattle.ss_snapshot.proofs.BodiesRead.{still}
use Rattle.ss_recover.specs.Recovering.{IsOwnCatalog, recovered_database}
use Rattle.ss_resume.specs.declared.past.Past.{Past}
use Rattle.ss_resume.specs.Pasts.{JoinsAt, joined_lists}
use Rattle.ss_resume.proofs.CallerLemmas.{each_joined, resume_within, starts_are}
use Rattle.ss_refusals.specs.declared.status.Status.{Status}
use Rattle.ss_refusals.specs.declared.status.Status.TheVariants.{Done, Usage, Input, ReadFault, WriteFault, Disk, NoMemory, Foreign, OtherMode, OtherCatalog, Limit, Differs}
use Rattle.ss_refusals.specs.Sinks.{SinkChange}
use Rattle.ss_refusals.specs.StoreRefusals.{WritesWhole}
use Rattle.ss_top.specs.declared.over.Turn.{Turn}
use Rattle.ss_top.specs.declared.over.Turn.TheVariants.{Over, Short, Failed}
use Rattle.ss_top.specs.declared.session.Printing.{Printing}
use Rattle.ss_top.specs.declared.session.Reported.{Reported}
use Rattle.ss_top.specs.Over.{CameOver, RanAsOver, RanOver, RoseBy}
use Rattle.ss_top.specs.Runs.{IsReportedAs, IsWrittenReport, ReportsAs, TellsReport, end_for, session_status}
use Rattle.ss_top.specs.Stores.{WasOf}
use Rattle.ss_top.specs.Turns.{ClosesAgain, Comes, IsPast, MayGoOn, RanFrom, ReopensFor, ServesAgain, ToldFrom}
use Rattle.ss_top.proofs.Growing.{GrowthLaws}
use Rattle.ss_top.proofs.Lasting.{rose_at}
use Rattle.ss_top.proofs.OverReports.{ran_over, unreported_over}
use Rattle.ss_top.proofs.Overs.{ClosedAgain, answered_failed, joined_stops, joined_within, lived_more}
use Rattle.ss_top.proofs.Turning.{later_over, later_short, rose_keeps, rose_more, said_failed, said_may, short_of, small_halt}

-- ---- from which request each client goes on

-- each client goes on from one of its requests
pub starts_within : (place : ℕ) (requests : List Request) (past : Past) → MayGoOn requests past → StartWithin (map (resume_at place) past.answers) requests
starts_within place requests past may client =
    let start = starts_are place past.answers client in
    let within = resume_within place (answers_of past.answers client) in
    let told = may.told client in
    omega (arith, start, within, told)

-- and then has as many answers as it made requests
pub told_from : {D : Type 0} (kind : DiskKind D) (every : Option ℕ) (limit : ℕ) (catalog : Catalog) (db : Model) (place : ℕ) (requests : List Request) (past : Past) (log : CmdLog D) (finished : Finished D)
    → RanFrom kind Strong every limit catalog db place requests (map (resume_at place) past.answers) log finished → ToldFrom place past requests finished
told_from kind every limit catalog db place requests past log finished ran client =
    subst (λ (n : ℕ). length (answers_of finished.closed.answers client) ≡ length (drop n (requests_of client requests))) (starts_are place past.answers client) (ran.1.ends.run.told client).many

-- what was joined may go on
pub goes_on : {D : Type 0} (place : ℕ) (requests : List Request) (past new : Past) (finished : Finished D) (count : ℕ) → past.first ≤ place → place ≤ past.first + length past.list → MayGoOn requests past
    → ToldFrom place past requests finished → place + length finished.closed.list ≤ 2 ^ 60 → JoinsAt place past finished.closed.list finished.closed.answers count new → MayGoOn requests new
goes_on place requests past new finished count from_first to_end may told small joins = record { told = told_all; small = omega (arith, joins.first, long, small, from_first) }
  where
    long : length new.list ≡ (place - past.first) + length finished.closed.list
    long = ap length joins.list_is ∙ (length-append (take (place - past.first) past.list) finished.closed.list ∙ ap (λ (n : ℕ). n + length finished.closed.list) (length-take-le (place - past.first) past.list (omega (arith, from_first, to_end))))

    told_all : (client : ℕ) → length (answers_of new.answers client) ≡ length (requests_of client requests)
    told_all client =
        let these = answers_of past.answers client in
        let stay = resume_at place these in
        let within = resume_within place these in
        let many = may.told client in
        let others = told client in
        let rest = length-drop stay (requests_of client requests) in
        let front = length-take-le stay these within in
        let all = ap length (joins.answers_are client) ∙ length-append (take stay these) (answers_of finished.closed.answers client) in
        omega (arith, within, many, others, rest, front, all)

-- ---- how a session is told over incarnations

module _ {D : Type 0} (kind : DiskKind D) (every : Option ℕ) (limit again : ℕ) (printing : Printing) (catalog : Catalog) (requests : List Request) (w : SinkChange) (old new : D) (was : WasOf modes.Strong catalog (disk_of kind old new)) where
  abbrev Came : Status → Type 0
  Came ended = CameOver kind every limit again printing catalog requests ended w old new

  over : {wrote : List ℕ → Type 0} (status : Status) (text : List ℕ) → RanAsOver kind every limit again printing catalog requests status text old new → wrote text → RanOver kind every limit again printing catalog requests status wrote old new
  over status text is wrote = record { was = was; text = text; ran = is; wrote = wrote }

  whole : (ended : Status) (text : List ℕ) → RanAsOver kind every limit again printing catalog requests Done text old new → WritesWhole ended text w → Came ended
  whole Done text is wrote = over Done text is wrote.0
  whole WriteFault text is wrote = over Done text is wrote.0
  whole Usage text is wrote = absurd wrote
  whole Differs text is wrote = absurd wrote
  whole Input text is wrote = absurd wrote
  whole ReadFault text is wrote = absurd wrote
  whole Disk text is wrote = absurd wrote
  whole NoMemory text is wrote = absurd wrote
  whole Foreign text is wrote = absurd wrote
  whole OtherMode text is wrote = absurd wrote
  whole OtherCatalog text is wrote = absurd wrote
  whole Limit text is wrote = absurd wrote

  pub over_told : (status : Status) (text : List ℕ) → RanAsOver kind every limit again printing catalog requests status text old new → (ended : Status) → TellsReport status (Some text) ended w → Came ended
  over_told Done text is ended tells = whole ended text is tells
  over_told Disk text is ended tells = subst Came (sym tells.is) (over Disk text is tells.reported)
  over_told NoMemory text is ended tells = subst Came (sym tells.is) (over NoMemory text is (inl tells.reported))
  over_told Limit text is ended tells = subst Came (sym tells.is) (over Limit text is tells.reported)
  over_told Usage text is ended tells = absurd is
  over_told Differs text is ended tells = absurd is
  over_told Input text is ended tells = absurd is
  over_told ReadFault text is ended tells = absurd is
  over_told WriteFault text is ended tells = absurd is
  over_told Foreign text is ended tells = absurd is
  over_told OtherMode text is ended tells = absurd is
  over_told OtherCatalog text is ended tells = absurd is

-- ---- no engine was opened on it

module _ {D : Type 0} (kind : DiskKind D) (every : Option ℕ) (limit : ℕ) (printing : Printing) (requests : List Request) (last : Bool) (past : Past) (r : Recovered D) where
  pub short_again : IsOwnCatalog r.catalog → NoEngineIsOpened kind → RunsOverRestarts kind → (mid : D) → ServesAgain kind modes.Strong every limit printing r.catalog requests last past mid r (Short r.log.disk)
  short_again own alone_law over_law mid again old before rose past_is later opened w ended tells =
      later_short kind modes.Strong every limit printing r.catalog requests last again old r.log.disk (omega (arith, before, later)) so_far w ended tells (λ true'. inr (inr (subst (λ (s : Status). CameOver kind every limit (suc again) printing r.catalog requests s w old r.log.disk) tells.is (came (past_is true' r.catalog itself) (opened true' r.catalog itself)))))
    where
      itself : GrowsTo r.catalog r.catalog
      itself = still r.catalog own.1 own.0

      so_far : RoseBy (suc again) (kind.faults old) (kind.faults r.log.disk)
      so_far = rose_keeps (suc again) (kind.faults old) (kind.faults mid) (kind.faults r.log.disk) rose later

      came : IsPast kind limit r.catalog requests (suc again) old mid past → Opened Strong r.catalog (recovered_database r) r.first (disk_of kind mid r.log.disk) → CameOver kind every limit (suc again) printing r.catalog requests ended w old r.log.disk
      came is opened' =
          short_of kind modes.Strong every limit printing r.catalog requests again old mid past is over_law r.log.disk
          (alone_law r.catalog is.db past.first is.last is.earlier (recovered_database r) r.first old mid r.log.disk is.lived opened') so_far is.was w ended tells

  -- one that was, and closed
  pub served_again : (own : IsOwnCatalog r.catalog) (room : ℕ) → room ≡ limit - (r.first - past.first) → (starts : List ℕ) → starts ≡ map (resume_at r.first) past.answers → (finished : Finished D) (turn : Turn D)
      → RanFrom kind Strong every room r.catalog (recovered_database r) r.first requests starts r.log finished → ClosesAgain kind modes.Strong every limit printing r.catalog requests last past r.first finished turn
      → (mid : D) → ServesAgain kind modes.Strong every limit printing r.catalog requests last past mid r turn
  served_again own room room_is starts starts_are' finished turn ran closes mid again old before rose past_is later opened = closes again old mid (recovered_database r) r.log (record {
    own = own;
    before = before;
    rose = rose;
    past_is = past_is;
    later = later;
    opened = opened;
    clients = ran.0;
    closed = subst (λ (n : ℕ). EndsOnDisk kind Strong every r.catalog (recovered_database r) r.first (room_from n r.first) ran.0 requests (map (resume_at r.first) past.answers) r.log finished) room_is
        (subst (λ (s : List ℕ). EndsOnDisk kind Strong every r.catalog (recovered_database r) r.first (room_from room r.first) ran.0 requests s r.log finished) starts_are' ran.1);
  })

-- ---- the engine on it was closed

module _ {D : Type 0} (kind : DiskKind D) (every : Option ℕ) (limit : ℕ) (printing : Printing) (catalog : Catalog) (requests : List Request) (last : Bool) (past : Past) (place : ℕ) (finished : Finished D)
    (from_first : past.first ≤ place) (to_end : place ≤ past.first + length past.list) (resume_law : AnswersResume) (stay_law : FirstAnswersStay) (more_law : OneMoreIncarnation kind)
    (over_law : RunsOverRestarts kind) where
  abbrev new : D
  new = finished.log.disk

  module _ (again : ℕ) (old mid : D) (from : Model) (log : CmdLog D) (o : ReopensFor kind every limit catalog requests past again old mid from place log finished) where
    abbrev itself : GrowsTo catalog catalog
    itself = still catalog o.own.1 o.own.0

    abbrev closed_of : kind.honest → ClosedAgain kind every limit catalog requests past (suc again) old mid from place o.clients log finished
    closed_of true' = record {
      accepted = o.own.0;
      past_is = o.past_is true' catalog itself;
      before = o.before;
      from_first = from_first;
      to_end = to_end;
      opened = o.opened true' catalog itself;
      closed = o.closed;
    }

    up : kind.faults log.disk ≤ kind.faults new
    up = o.closed.ends.holds.later

    least : kind.faults old ≤ kind.faults new
    least = let before = o.before in let later = o.later in omega (arith, before, later, up)

    so_far : RoseBy (suc again) (kind.faults old) (kind.faults new)
    so_far = let later = o.later in rose_keeps (suc again) (kind.faults old) (kind.faults mid) (kind.faults new) o.rose (omega (arith, later, up))

    one_more : is_some finished.log.halted ≡ true → RoseBy (suc (suc again)) (kind.faults old) (kind.faults new)
    one_more some =
        let later = o.later in
        let rose = rose_at (kind.faults log.disk) (kind.faults new) finished.log.halted o.closed.ends.fault o.closed.ends.holds.halt some in
        rose_more (suc again) (kind.faults old) (kind.faults mid) (kind.faults new) o.rose (omega (arith, later, rose))

    -- there was no memory for its report, whatever each client was answered
    silent : (answers : List (List Answer)) → ((client : ℕ) → answers_of answers client ≡ take (resume_at place (answers_of past.answers client)) (answers_of past.answers client) ++ answers_of finished.closed.answers client)
        → kind.honest → (w : SinkChange) (ended : Status) → TellsReport NoMemory None ended w → CameOver kind every limit (suc again) printing catalog requests NoMemory w old new
    silent answers are true' w ended tells = record {
      was = (o.past_is true' catalog itself).was;
      text = _;
      ran = unreported_over kind every limit catalog requests past (suc again) old mid from place o.clients log finished (closed_of true') resume_law stay_law true' more_law over_law answers are;
      wrote = inr tells.reported;
    }

  -- there was no memory to join them
  pub short_closed : ClosesAgain kind modes.Strong every limit printing catalog requests last past place finished (Short new)
  short_closed again old mid from log o w ended tells =
      later_short kind modes.Strong every limit printing catalog requests last again old new (least again old mid from log o) (so_far again old mid from log o) w ended tells
      (λ true'. inr (inr (silent again old mid from log o (joined_lists place past.answers finished.closed.answers) (each_joined place past.answers finished.closed.answers) true' w ended tells)))

  module _ (joined : Past) (joins : JoinsAt place past finished.closed.list finished.closed.answers finished.receipted joined) where
    joined_is : joined ≡ record { list = take (place - past.first) past.list ++ finished.closed.list; first = past.first; answers = joined.answers; receipted = finished.receipted }
    joined_is =
        ap (λ (l : List Listed). record { list = l; first = joined.first; answers = joined.answers; receipted = joined.receipted }) joins.list_is
        ∙ (ap (λ (n : ℕ). record { list = take (place - past.first) past.list ++ finished.closed.list; first = n; answers = joined.answers; receipted = joined.receipted }) joins.first
        ∙ ap (λ (n : ℕ). record { list = take (place - past.first) past.list ++ finished.closed.list; first = past.first; answers = joined.answers; receipted = n }) joins.receipted_is)

    -- the disk has failed, and another opening may follow
    pub failed_closed : GrowthLaws → is_some finished.log.halted ≡ true → ((f : ℕ) → finished.log.halted ≡ Some f → f < 2 ^ 64) → ClosesAgain kind modes.Strong every limit printing catalog requests last past place finished (Failed (Some (record { past = joined; catalog = finished.closed.catalog })) new)
    failed_closed laws some small again old mid from log o = (
      least again old mid from log o,
      one_more again old mid from log o some,
      λ true' more grows. subst (IsPast kind limit more requests (suc (suc again)) old new) (sym joined_is) (is true' more (subst (λ (c : Catalog). GrowsTo c more) o.closed.ends.run.catalog_is grows)),
    )
      where
        is : kind.honest → (more : Catalog) → GrowsTo catalog more
            → IsPast kind limit more requests (suc (suc again)) old new (record { list = take (place - past.first) past.list ++ finished.closed.list; first = past.first; answers = joined.answers; receipted = finished.receipted })
        is true' more grows = let c = closed_of again old mid from log o true' in let p = o.past_is true' more grows in record {
          db = p.db;
          was = p.was;
          last = record { moment = kind.moment log.disk; list = take (place - past.first) past.list ++ finished.closed.list; receipted = finished.receipted };
          earlier = p.last ∷ p.earlier;
          lived = lived_more kind every limit catalog requests past (suc again) old mid from place o.clients log finished c resume_law stay_law laws o.own more grows p (o.opened true' more grows) true' more_law;
          list_is = refl;
          receipted_is = refl;
          few = let few = p.few in omega (arith, few);
          within = joined_within kind every limit catalog requests past (suc again) old mid from place o.clients log finished c resume_law stay_law;
          answered = answered_failed kind every limit catalog requests past (suc again) old mid from place o.clients log finished c resume_law stay_law joined.answers joins.answers_are finished.receipted
              (small_halt (kind.faults log.disk) (kind.faults new) finished.log.halted o.closed.ends.fault o.closed.ends.holds.halt small);
          stops = joined_stops kind every limit catalog requests past (suc again) old mid from place o.clients log finished c resume_law stay_law joined.answers joins.answers_are;
        }

    -- it was reported: with status 5 at the last opening alone
    abbrev all : Finished D
    all = record {
      closed = record {
        list = joined.list;
        database = finished.closed.database;
        catalog = finished.closed.catalog;
        answers = joined.answers;
        settling = finished.closed.settling;
        settled = finished.closed.settled;
      };
      log = finished.log;
      receipted = finished.receipted;
      flushed = finished.flushed;
    }

    module _ (reported : Reported D) (is_new : reported.disk ≡ new) (said : ReportsAs printing requests joined.first all reported.status reported.text) (unless : (last ≡ true) ⊎ (is_some finished.log.halted ≡ true → ⊥)) where
      at_last : reported.status ≡ Disk → last ≡ true
      at_last is = by unless
        where
          by : (last ≡ true) ⊎ (is_some finished.log.halted ≡ true → ⊥) → last ≡ true
          by (inl all') = all'
          by (inr going) = absurd (going (said_failed printing requests joined.first all reported.status reported.text said is))

      module _ (again : ℕ) (old mid : D) (from : Model) (log : CmdLog D) (o : ReopensFor kind every limit catalog requests past again old mid from place log finished) (honest : kind.honest) (w : SinkChange) (ended : Status) where
        abbrev c : ClosedAgain kind every limit catalog requests past (suc again) old mid from place o.clients log finished
        c = closed_of again old mid from log o honest

        abbrev list : List Listed
        list = take (place - past.first) past.list ++ finished.closed.list

        by_text : (status : Status) (text : List ℕ) → IsReportedAs printing requests joined.first all status text → TellsReport status (Some text) ended w → CameOver kind every limit (suc again) printing catalog requests ended w old new
        by_text status text said' tells = over_told kind every limit (suc again) printing catalog requests w old new c.past_is.was status text ran ended tells
          where
            written : IsWrittenReport catalog requests joined.answers past.first list (end_for status printing finished.closed.database finished.receipted said'.faults) text
            written =
                subst (λ (k : Catalog). IsWrittenReport k requests joined.answers past.first list (end_for status printing finished.closed.database finished.receipted said'.faults) text) o.closed.ends.run.catalog_is
                (subst (λ (n : ℕ). IsWrittenReport finished.closed.catalog requests joined.answers n list (end_for status printing finished.closed.database finished.receipted said'.faults) text) joins.first
                (subst (λ (l : List Listed). IsWrittenReport finished.closed.catalog requests joined.answers joined.first l (end_for status printing finished.closed.database finished.receipted said'.faults) text) joins.list_is said'.written))

            status_is : status ≡ session_status (is_some finished.log.halted) joined.answers finished.closed.settling said'.flushed
            status_is = said'.is

            ran : RanAsOver kind every limit (suc again) printing catalog requests status text old new
            ran = subst (λ (s : Status). RanAsOver kind every limit (suc again) printing catalog requests s text old new) (sym status_is)
                (ran_over kind every limit catalog requests past (suc again) old mid from place o.clients log finished c resume_law stay_law honest more_law over_law joined.answers joins.answers_are printing
                (is_some finished.log.halted) refl (small_halt (kind.faults log.disk) (kind.faults new) finished.log.halted o.closed.ends.fault o.closed.ends.holds.halt said'.small) said'.flushed said'.all said'.faults text
                (subst (λ (s : Status). IsWrittenReport catalog requests joined.answers past.first list (end_for s printing finished.closed.database finished.receipted said'.faults) text) status_is written))

        came : (status : Status) (text : Option (List ℕ)) → ReportsAs printing requests joined.first all status text → TellsReport status text ended w → CameOver kind every limit (suc again) printing catalog requests ended w old new
        came status (Some text) said' tells = by_text status text said' tells
        came status None said' tells =
            subst (λ (s : Status). CameOver kind every limit (suc again) printing catalog requests s w old new) (sym tells.is) (silent again old mid from log o joined.answers joins.answers_are honest w ended tells)

      pub over_closed : ClosesAgain kind modes.Strong every limit printing catalog requests last past place finished (Over reported)
      over_closed again old mid from log o w ended tells =
          subst (λ (d : D). Comes kind modes.Strong every limit printing catalog requests (suc again) last ended w old d) (sym is_new)
          (later_over kind modes.Strong every limit printing catalog requests last reported.status reported.text (said_may printing requests joined.first all reported.status reported.text said) at_last old new
          (least again old mid from log o) again (so_far again old mid from log o) (λ is. one_more again old mid from log o (said_failed printing requests joined.first all reported.status reported.text said is)) w ended tells
          (λ true'. inr (inr (came again old mid from log o true' w ended reported.status reported.text said tells))))
