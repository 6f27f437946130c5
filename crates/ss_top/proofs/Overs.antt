-- What a run has come to over its incarnations, where one more engine was closed, and the answers that its clients then have.
use Rattle.std.proofs.Common.{◌≡◌, ◌≤◌, ◌<◌, ◌+◌, ◌-◌, ◌^◌, ◌==◌, ◌⊎◌, ◌∙◌, inl, inr, ℕ, refl, true, false, List, [], ◌∷◌, ◌++◌, length, map, take, drop, sym, ap, subst, None, arith, is_some, eq-eqb, length-append, append-nil}
use Rattle.std.specs.Prelude.{Option, IsOk}
use Rattle.std.specs.List.{AllByRecursion}
use Rattle.std.proofs.lemmas.Bool.{false≢true}
use Rattle.std.proofs.lemmas.List.{length-take-le}
use Rattle.ss_lemmas.proofs.EachOf.{all_with}
use Rattle.ss_model.specs.declared.catalog.Catalog.{Catalog}
use Rattle.ss_model.specs.declared.entry.Answer.{Answer}
use Rattle.ss_model.specs.declared.entry.Answer.TheVariants.{Listed as ListedAnswer, NoMemory as NoMemoryAnswer, ListFull, Halted}
use Rattle.ss_model.specs.declared.entry.Listed.{Listed}
use Rattle.ss_model.specs.declared.entry.Request.{Request}
use Rattle.ss_model.specs.Accepted.{Accepted}
use Rattle.ss_model.specs.Database.{Database as Model}
use Rattle.ss_model.specs.Recovery.{Strong}
use Rattle.ss_model.specs.Replays.{after}
use Rattle.ss_model.specs.Report.{End, Unlisted}
use Rattle.ss_model.specs.Settling.{Drained, kept}
use Rattle.ss_report_laws.specs.Replies.{AreAnswered, IsListedOr, answers_of, mine, requests_of}
use Rattle.ss_report_laws.specs.Resuming.{AnswersResume, AreToldTo, FirstAnswersStay, NoneBehindStop, resume_at, stays}
use Rattle.ss_disk.specs.Kinds.{DiskKind}
use Rattle.ss_cmdlog.specs.declared.log.CmdLog.{CmdLog}
use Rattle.ss_headline.specs.Disks.{disk_of}
use Rattle.ss_headline.specs.Layers.{Closed, Opened, Receipted}
use Rattle.ss_headline.specs.Runs.{LogEndsAsStopped, Logged}
use Rattle.ss_headline.specs.Sentences.{room_from, stop_at}
use Rattle.ss_headline.proofs.CallerLemmas.{failed_since}
use Rattle.ss_incarnations.specs.Reopening.{Lived, LivesOn, OneMoreIncarnation}
use Rattle.ss_incarnations.specs.Runs.{EndsWithOwn}
use Rattle.ss_engine.specs.declared.session.run.Finished.{Finished}
use Rattle.ss_engine.specs.Clients.{IsUnlisted}
use Rattle.ss_engine.specs.Sessions.{EndsOnDisk}
use Rattle.ss_snapshot.specs.Bodies.{GrowsTo}
use Rattle.ss_recover.specs.Recovering.{IsOwnCatalog}
use Rattle.ss_resume.specs.declared.past.Past.{Past}
use Rattle.ss_resume.proofs.CallerLemmas.{starts_are}
use Rattle.ss_top.specs.Told.{say_full, some_say_full}
use Rattle.ss_top.specs.Turns.{IsPast}
use Rattle.ss_top.proofs.Growing.{GrowthLaws, closed_more, receipted_more}
use Rattle.ss_top.proofs.Lasting.{was_closed, was_logged, was_receipted, going_ends, failed_ends}
use Rattle.ss_report_laws.proofs.CallerLemmas.{mine_below}
use Rattle.ss_top.proofs.Unreported.{all_without_memory, answered_without_memory}
use Rattle.ss_top.proofs.Running.{at_calm, calm_at, explained_at, full_by_one, none_of, some_of}

-- ---- answers that stay, and those behind them

all_behind : {A : Type 0} (P : A → Type 0) (front more : List A) → AllByRecursion P front → AllByRecursion P more → AllByRecursion P (front ++ more)
all_behind P [] more all rest = rest
all_behind P (a ∷ front) more all rest = (all.0, all_behind P front more all.1 rest)

-- what stays may stand at each end
front_allowed : (end : End) → Unlisted end NoMemoryAnswer → (place : ℕ) (these : List Answer) → AllByRecursion (λ (a : Answer). stays place a ≡ true) these → AllByRecursion (IsListedOr (Unlisted end)) these
front_allowed end may place [] stay = tt
front_allowed end may place (ListedAnswer at outcome ∷ these) stay = (tt, front_allowed end may place these stay.1)
front_allowed end may place (NoMemoryAnswer ∷ these) stay = (may, front_allowed end may place these stay.1)
front_allowed end may place (ListFull count ∷ these) stay = absurd (false≢true stay.0)
front_allowed end may place (Halted n ∷ these) stay = absurd (false≢true stay.0)

-- and says of no list that it is full
front_calm : (place : ℕ) (these more : List Answer) → AllByRecursion (λ (a : Answer). stays place a ≡ true) these → say_full (these ++ more) ≡ say_full more
front_calm place [] more stay = refl
front_calm place (ListedAnswer at outcome ∷ these) more stay = front_calm place these more stay.1
front_calm place (NoMemoryAnswer ∷ these) more stay = front_calm place these more stay.1
front_calm place (ListFull count ∷ these) more stay = absurd (false≢true stay.0)
front_calm place (Halted n ∷ these) more stay = absurd (false≢true stay.0)

-- and stops nothing
front_stops : (place : ℕ) (these more : List Answer) → AllByRecursion (λ (a : Answer). stays place a ≡ true) these → NoneBehindStop more → NoneBehindStop (these ++ more)
front_stops place [] more stay none = none
front_stops place (ListedAnswer at outcome ∷ these) more stay none = front_stops place these more stay.1 none
front_stops place (NoMemoryAnswer ∷ these) more stay none = front_stops place these more stay.1 none
front_stops place (ListFull count ∷ these) more stay none = absurd (false≢true stay.0)
front_stops place (Halted n ∷ these) more stay none = absurd (false≢true stay.0)

-- ---- one more engine

-- an engine was opened behind this past, and closed
pub record ClosedAgain {D : Type 0} (kind : DiskKind D) (every : Option ℕ) (limit : ℕ) (catalog : Catalog) (requests : List Request) (past : Past) (again : ℕ) (old mid : D) (from : Model)
    (place clients : ℕ) (log : CmdLog D) (ended : Finished D) : Type 0 where
  pub accepted : Accepted catalog
  pub past_is : IsPast kind limit catalog requests again old mid past
  pub before : kind.faults old ≤ kind.faults mid
  pub from_first : past.first ≤ place
  pub to_end : place ≤ past.first + length past.list
  pub opened : Opened Strong catalog from place (disk_of kind mid log.disk)
  pub closed : EndsOnDisk kind Strong every catalog from place (room_from (limit - (place - past.first)) place) clients requests (map (resume_at place) past.answers) log ended

module _ {D : Type 0} (kind : DiskKind D) (every : Option ℕ) (limit : ℕ) (catalog : Catalog) (requests : List Request) (past : Past) (again : ℕ) (old mid : D) (from : Model)
    (place clients : ℕ) (log : CmdLog D) (ended : Finished D) (c : ClosedAgain kind every limit catalog requests past again old mid from place clients log ended)
    (resume_law : AnswersResume) (stay_law : FirstAnswersStay) where
  abbrev own : List Listed
  own = ended.closed.list

  abbrev new : D
  new = ended.log.disk

  abbrev first : ℕ
  first = past.first

  abbrev stayed : ℕ
  stayed = place - first

  abbrev room : ℕ
  room = room_from (limit - stayed) place

  -- the list goes back to what stays there, and goes on
  abbrev pub joined : List Listed
  joined = take stayed past.list ++ own

  place_is : first + stayed ≡ place
  place_is = let from_first = c.from_first in omega (arith, from_first)

  stayed_within : stayed ≤ length past.list
  stayed_within = let to_end = c.to_end in omega (arith, to_end)

  front_length : length (take stayed past.list) ≡ stayed
  front_length = length-take-le stayed past.list stayed_within

  pub joined_length : length joined ≡ stayed + length own
  joined_length = length-append (take stayed past.list) own ∙ ap (λ (n : ℕ). n + length own) front_length

  -- the engine's room is what the run's has left
  room_left : stayed + room ≡ room_from limit first
  room_left = let within = c.past_is.within in omega (arith, place_is, stayed_within, within)

  pub joined_within : length joined ≤ room_from limit first
  joined_within = let within = c.closed.ends.run.within in omega (arith, within, joined_length, room_left)

  -- ---- its answers

  module _ (answers : List (List Answer)) (are : (client : ℕ) → answers_of answers client ≡ take (resume_at place (answers_of past.answers client)) (answers_of past.answers client) ++ answers_of ended.closed.answers client) where
    abbrev kept_of : ℕ → List Answer
    kept_of client = take (resume_at place (answers_of past.answers client)) (answers_of past.answers client)

    told : (client : ℕ) → AreToldTo client 0 first joined (requests_of client requests) (answers_of answers client)
    told client =
        let these = answers_of past.answers client in
        let rs = requests_of client requests in
        let others = answers_of ended.closed.answers client in
        let start = starts_are place past.answers client in
        let behind : AreToldTo client (resume_at place these) place own (drop (resume_at place these) rs) others = subst (λ (n : ℕ). AreToldTo client n place own (drop n rs) others) start (c.closed.ends.run.told client) in
        let there : AreToldTo client (resume_at (first + stayed) these) (first + stayed) own (drop (resume_at (first + stayed) these) rs) others =
        subst (λ (n : ℕ). AreToldTo client (resume_at n these) n own (drop (resume_at n these) rs) others) (sym place_is) behind in
        let earlier : AreToldTo client 0 first past.list rs these = record { many = c.past_is.answered.many client; each = c.past_is.answered.each client } in
        let all : AreToldTo client 0 first joined rs (take (resume_at (first + stayed) these) these ++ others) = resume_law client first past.list rs these stayed own others stayed_within earlier (c.past_is.stops client) there in
        subst (AreToldTo client 0 first joined rs) (ap (λ (n : ℕ). take (resume_at n these) these ++ others) place_is ∙ sym (are client)) all

    stay : (client : ℕ) → AllByRecursion (λ (a : Answer). stays place a ≡ true) (kept_of client)
    stay client = stay_law place (answers_of past.answers client)

    pub joined_stops : (client : ℕ) → NoneBehindStop (answers_of answers client)
    joined_stops client = subst NoneBehindStop (sym (are client)) (front_stops place (kept_of client) (answers_of ended.closed.answers client) (stay client) (c.closed.ends.run.stops client))

    full_of : (client : ℕ) → say_full (answers_of answers client) ≡ say_full (answers_of ended.closed.answers client)
    full_of client = ap say_full (are client) ∙ front_calm place (kept_of client) (answers_of ended.closed.answers client) (stay client)

    -- at an end that allows that there was no memory, and each answer of the engine
    answered_at : (end : End) → Unlisted end NoMemoryAnswer → ((client : ℕ) → AllByRecursion (IsListedOr (Unlisted end)) (answers_of ended.closed.answers client)) → AreAnswered requests first joined end answers
    answered_at end may others = record {
      many = λ client. (told client).many;
      each = λ client. (told client).each;
      others = λ client.
          subst (AllByRecursion (IsListedOr (Unlisted end))) (sym (are client))
          (all_behind (IsListedOr (Unlisted end)) (kept_of client) (answers_of ended.closed.answers client) (front_allowed end may place (kept_of client) (stay client)) (others client));
    }

    -- where the disk hasn't failed and none says that the list is full
    pub answered_calm : (end : End) → Unlisted end NoMemoryAnswer → ended.log.halted ≡ None → some_say_full answers ≡ false → AreAnswered requests first joined end answers
    answered_calm end may going none =
        let calm = calm_at (kind.faults log.disk) (kind.faults new) ended.log.halted c.closed.ends.fault c.closed.ends.holds.halt going in
        answered_at end may (λ client. at_calm room (length own) c.closed.ends.fault end may calm (answers_of ended.closed.answers client) (c.closed.ends.run.others client) (sym (full_of client) ∙ none_of answers client none))

    -- whatever they are, none tells it
    pub answered_silent : (end : End) → Unlisted end NoMemoryAnswer → AreAnswered requests first joined end (all_without_memory answers)
    answered_silent end may = answered_without_memory requests first joined end answers may (λ client. (told client).many) (λ client. (told client).each)

    -- an answer that the list is full comes where it is
    list_is_full : (count : ℕ) → IsUnlisted room (length own) c.closed.ends.fault (ListFull count) → (length joined == room_from limit first) ≡ true
    list_is_full count h = let within = c.closed.ends.run.within in eq-eqb (length joined) (room_from limit first) (omega (arith, h.1, within, joined_length, room_left))

    -- the stop with this status, whatever is receipted
    abbrev stop : ℕ → ℕ → End
    stop status count = stop_at status count limit first joined (kind.faults old) (kind.faults new)

    -- at the stop that tells that the disk has failed
    pub answered_failed : (count : ℕ) → c.closed.ends.fault < 2 ^ 64 → AreAnswered requests first joined (stop 5 count) answers
    answered_failed count small = answered_at (stop 5 count) tt (λ client.
        all_with (IsListedOr (IsUnlisted room (length own) c.closed.ends.fault)) (IsListedOr (Unlisted (stop 5 count))) explains (answers_of ended.closed.answers client) (c.closed.ends.run.others client))
      where
        explains : (a : Answer) → IsListedOr (IsUnlisted room (length own) c.closed.ends.fault) a → IsListedOr (Unlisted (stop 5 count)) a
        explains (ListedAnswer at outcome) h = tt
        explains NoMemoryAnswer h = tt
        explains (ListFull n) h = list_is_full n h
        explains (Halted n) h =
            let at = explained_at (kind.faults log.disk) (kind.faults new) ended.log.halted c.closed.ends.fault n c.closed.ends.holds.halt small h.0 h.1 in
            let later = c.opened.faults in
            let before = c.before in (
              elim at.0 [
                | inl less ↦ inl (omega (arith, less, later, before))
                | inr most ↦ inr most
              ],
              at.1,
            )

    -- at the stop of a full list, where it hasn't
    pub answered_full : (count : ℕ) → ended.log.halted ≡ None → AreAnswered requests first joined (stop 9 count) answers
    answered_full count going = answered_at (stop 9 count) tt (λ client.
        all_with (IsListedOr (IsUnlisted room (length own) c.closed.ends.fault)) (IsListedOr (Unlisted (stop 9 count))) explains (answers_of ended.closed.answers client) (c.closed.ends.run.others client))
      where
        calm : c.closed.ends.fault ≡ 0
        calm = calm_at (kind.faults log.disk) (kind.faults new) ended.log.halted c.closed.ends.fault c.closed.ends.holds.halt going

        explains : (a : Answer) → IsListedOr (IsUnlisted room (length own) c.closed.ends.fault) a → IsListedOr (Unlisted (stop 9 count)) a
        explains (ListedAnswer at outcome) h = tt
        explains NoMemoryAnswer h = tt
        explains (ListFull n) h = list_is_full n h
        explains (Halted n) h = absurd (h.1 (h.0 ∙ calm))

    pub joined_full : some_say_full answers ≡ true → length joined ≡ room_from limit first
    joined_full some =
        let one = some_of answers some in
        let least = full_by_one room (length own) c.closed.ends.fault (answers_of ended.closed.answers one.0) (c.closed.ends.run.others one.0) (sym (full_of one.0) ∙ one.1) in
        let within = c.closed.ends.run.within in omega (arith, least, within, joined_length, room_left)

  pub own_full : length own ≡ room → length joined ≡ room_from limit first
  own_full full = omega (arith, full, joined_length, room_left)

  -- ---- what its log ends with

  with_own : (P : ℕ → List Listed → Type 0) → P place own → EndsWithOwn first joined c.past_is.last.list P
  with_own P says = record {
    stayed = stayed;
    within = let same : length past.list ≡ length c.past_is.last.list = ap length c.past_is.list_is in omega (arith, same, stayed_within);
    own = own;
    parts = ap (λ (l : List Listed). take stayed l ++ own) c.past_is.list_is;
    says = subst (λ (n : ℕ). P n own) (sym place_is) says;
  }

  pub joined_logged : IsOk ended.flushed → ended.log.halted ≡ None → kind.tells → EndsWithOwn first joined c.past_is.last.list (λ n l. Logged Strong every n l (kind.seen new))
  joined_logged ok going told = with_own (λ n l. Logged Strong every n l (kind.seen new)) (was_logged kind Strong every catalog from place room clients requests (map (resume_at place) past.answers) log ended c.closed ok going told)

  stopped_with : (status : ℕ) → LogEndsAsStopped Strong every status place own ended.receipted (disk_of kind log.disk new) → EndsWithOwn first joined c.past_is.last.list (λ n l. LogEndsAsStopped Strong every status n l ended.receipted (disk_of kind old new))
  stopped_with status ends = let later = c.opened.faults in let before = c.before in
      with_own (λ n l. LogEndsAsStopped Strong every status n l ended.receipted (disk_of kind old new)) (failed_since kind Strong every status place own ended.receipted old log.disk new (omega (arith, later, before)) ends)

  pub going_stopped : (status : ℕ) → ended.log.halted ≡ None → EndsWithOwn first joined c.past_is.last.list (λ n l. LogEndsAsStopped Strong every status n l ended.receipted (disk_of kind old new))
  going_stopped status going = stopped_with status (going_ends kind Strong every catalog from place room clients requests (map (resume_at place) past.answers) log ended c.closed going status)

  pub failed_stopped : (status : ℕ) → (status ≡ 5) ⊎ (status ≡ 6) → is_some ended.log.halted ≡ true → EndsWithOwn first joined c.past_is.last.list (λ n l. LogEndsAsStopped Strong every status n l ended.receipted (disk_of kind old new))
  failed_stopped status is some = stopped_with status (failed_ends kind Strong every catalog from place room clients requests (map (resume_at place) past.answers) log ended c.closed some status is)

  -- ---- one more incarnation

  module _ (honest : kind.honest) (more_law : OneMoreIncarnation kind) where
    module _ (count : ℕ) (receipted : Receipted Strong catalog from place own count (disk_of kind log.disk new)) where
      pub on : LivesOn kind catalog c.past_is.db first c.past_is.last c.past_is.earlier from place own count (kind.moment log.disk) old new
      on = more_law catalog c.accepted c.past_is.db first c.past_is.last c.past_is.earlier from place own count old mid log.disk new honest c.past_is.lived c.opened
          (was_closed kind Strong every catalog from place room clients requests (map (resume_at place) past.answers) log ended c.closed) receipted

      same_list : take on.stayed c.past_is.last.list ++ own ≡ joined
      same_list = ap (λ (l : List Listed). l ++ own) (ap (take on.stayed) (sym c.past_is.list_is) ∙ ap (λ (n : ℕ). take n past.list) (let is = on.place_is in omega (arith, is, place_is)))

      pub lived : Lived kind catalog c.past_is.db first (record { moment = kind.moment log.disk; list = joined; receipted = count }) (c.past_is.last ∷ c.past_is.earlier) old new
      lived = subst (λ (l : List Listed). Lived kind catalog c.past_is.db first (record { moment = kind.moment log.disk; list = l; receipted = count }) (c.past_is.last ∷ c.past_is.earlier) old new) same_list on.lived

      -- behind the joined list the same is kept as behind the engine's own
      pub ends_alike : kept catalog (after catalog from own) ≡ kept catalog (after catalog c.past_is.db joined)
      ends_alike = on.ends ∙ ap (λ (l : List Listed). kept catalog (after catalog c.past_is.db l)) same_list

      pub joined_drained : Drained catalog (after catalog from own) → Drained catalog (after catalog c.past_is.db joined)
      joined_drained drained = subst (λ (l : List Listed). Drained catalog (after catalog c.past_is.db l)) same_list (on.lists.drained drained)

    -- with what clients have receipts of
    pub at_receipts : Receipted Strong catalog from place own ended.receipted (disk_of kind log.disk new)
    at_receipts = was_receipted kind Strong every catalog from place room clients requests (map (resume_at place) past.answers) log ended c.closed

    -- with all of it, where the last flush went well
    pub at_the_end : IsOk ended.flushed → Receipted Strong catalog from place own (place + length own) (disk_of kind log.disk new)
    at_the_end ok = record {
      from_first = omega arith;
      within = omega arith;
      receipt = c.closed.ends.all_stands ok;
      few = λ client. record { receipted = mine client place own; others = []; parts = sym (append-nil (mine client place own)); below = mine_below client place (place + length own) own (omega arith); few = omega arith };
    }

  -- one more incarnation as a run of a catalogue with more bodies
  module _ (laws : GrowthLaws) (its_own : IsOwnCatalog catalog) (more : Catalog) (grows : GrowsTo catalog more) (p : IsPast kind limit more requests again old mid past)
      (opened : Opened Strong more from place (disk_of kind mid log.disk)) (honest : kind.honest) (more_law : OneMoreIncarnation kind) where
    closed_here : Closed Strong catalog from place own (disk_of kind log.disk new)
    closed_here = was_closed kind Strong every catalog from place room clients requests (map (resume_at place) past.answers) log ended c.closed

    on_more : LivesOn kind more p.db first p.last p.earlier from place own ended.receipted (kind.moment log.disk) old new
    on_more = more_law more grows.accepted p.db first p.last p.earlier from place own ended.receipted old mid log.disk new honest p.lived opened
        (closed_more laws catalog more its_own grows from place own c.opened.whole closed_here.replays kind log.disk new closed_here)
        (receipted_more laws catalog more its_own grows from place own c.opened.whole closed_here.replays kind log.disk new ended.receipted
        (was_receipted kind Strong every catalog from place room clients requests (map (resume_at place) past.answers) log ended c.closed))

    same_more : take on_more.stayed p.last.list ++ own ≡ joined
    same_more = ap (λ (l : List Listed). l ++ own) (ap (take on_more.stayed) (sym p.list_is) ∙ ap (λ (n : ℕ). take n past.list) (let is = on_more.place_is in omega (arith, is, place_is)))

    pub lived_more : Lived kind more p.db first (record { moment = kind.moment log.disk; list = joined; receipted = ended.receipted }) (p.last ∷ p.earlier) old new
    lived_more = subst (λ (l : List Listed). Lived kind more p.db first (record { moment = kind.moment log.disk; list = l; receipted = ended.receipted }) (p.last ∷ p.earlier) old new) same_more on_more.lived
