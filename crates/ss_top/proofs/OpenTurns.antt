-- What one opening more of a disk comes to, by what recovery answers.
use Rattle.std.proofs.Common.{◌≡◌, ◌≤◌, ◌==◌, ◌⊎◌, ◌∙◌, inl, inr, refl, ℕ, zero, suc, Bool, true, false, cond, not, List, length, sym, ap, subst, Some, None, arith}
use Rattle.std.specs.Prelude.{Option, IfSome, ◌&&◌}
use Rattle.std.proofs.lemmas.Bool.{false≢true}
use Rattle.ss_value.specs.FaultCounts.{Rose}
use Rattle.ss_model.specs.declared.catalog.Catalog.{Catalog}
use Rattle.ss_model.specs.declared.entry.Listed.{Listed}
use Rattle.ss_model.specs.declared.entry.Mode.{Mode}
use Rattle.ss_model.specs.declared.entry.Mode.TheVariants as modes
use Rattle.ss_model.specs.declared.entry.Request.{Request}
use Rattle.ss_model.specs.Report.{Stop}
use Rattle.ss_model.specs.WholeDatabase.{WholenessStays}
use Rattle.ss_report_laws.specs.Replies.{AreAnswered}
use Rattle.ss_report.specs.declared.run_end.End.TheVariants as written
use Rattle.ss_report.specs.Reported.{IsReportOf, missing_answer}
use Rattle.ss_disk.specs.Kinds.{DiskKind, present}
use Rattle.ss_disk.proofs.CallerLemmas.{leaves_less, no_call}
use Rattle.ss_cmdlog.specs.Opening.{OnlyReads}
use Rattle.ss_headline.specs.Disks.{DiskChange, disk_of}
use Rattle.ss_headline.specs.Sentences.{room_from}
use Rattle.ss_incarnations.specs.Incarnations.{Incarnation}
use Rattle.ss_incarnations.specs.Openings.{NoneIsOpened, NoneIsTried, NotOpened, OpenedAtLast}
use Rattle.ss_incarnations.specs.Reopening.{NoneIsReopened}
use Rattle.ss_incarnations.specs.Runs.{RunsOverRestarts, stop_over}
use Rattle.ss_snapshot.specs.Bodies.{GrowsTo}
use Rattle.ss_snapshot.proofs.BodiesRead.{grown_on, still}
use Rattle.ss_recover.specs.declared.error.RecoverError.{RecoverError}
use Rattle.ss_recover.specs.declared.error.RecoverError.TheVariants as recovery
use Rattle.ss_recover.specs.declared.recovered.Recovered.{Recovered}
use Rattle.ss_recover.specs.Recovering.{IsOwnCatalog, RefusesAsSaid, recovered_database}
use Rattle.ss_resume.specs.declared.past.Past.{Past}
use Rattle.ss_refusals.specs.declared.status.Status.{Status}
use Rattle.ss_refusals.specs.declared.status.Status.TheVariants.{WriteFault, Disk, NoMemory, Foreign, OtherMode, OtherCatalog}
use Rattle.ss_refusals.specs.Sinks.{SinkChange}
use Rattle.ss_refusals.specs.Statuses.{status_number}
use Rattle.ss_refusals.specs.StoreRefusals.{TellsRefusal}
use Rattle.ss_top.specs.declared.over.Begun.{Begun}
use Rattle.ss_top.specs.declared.over.Turn.{Turn}
use Rattle.ss_top.specs.declared.over.Turn.TheVariants.{Over, Refused, Short, Failed}
use Rattle.ss_top.specs.declared.session.Printing.{Printing}
use Rattle.ss_top.specs.Over.{CameOver, FoundLater, MayEnd, MayRestart, RoseBy, StoppedRunOver}
use Rattle.ss_top.specs.Runs.{ReportsPast, TellsReport}
use Rattle.ss_top.specs.Serving.{IsOpenedFor}
use Rattle.ss_top.specs.Stores.{CameTo, NothingStarted}
use Rattle.ss_top.specs.Turns.{CameSoFar, Comes, ComesWith, HasCome, HasServed, IsPast, LeavesToGoOn, LeavesUnopened, MayGoOnFrom, NothingOpened, ServesAgain, ServesNew, TurnComes, TurnComesWith, catalog_for, is_fault}
use Rattle.ss_top.proofs.AgainTurns.{over_told}
use Rattle.ss_top.proofs.Growing.{GrowthLaws}
use Rattle.ss_top.proofs.Renewing.{SpelledIsRead, formed_none, read_none}
use Rattle.ss_top.proofs.Storing.{refusal_tells, run_refused}
use Rattle.ss_top.proofs.Turning.{MayBeSession, answered_later, later_over, later_short, once_short, rose_keeps, rose_more, served_of, short_of, stopped}

-- ---- refusals

-- the status of a refusal
told_refused : (error : RecoverError) (ended : Status) (w : SinkChange) → (error ≡ recovery.Nothing → ⊥) → TellsRefusal error ended w → MayEnd ended
told_refused recovery.NoMemory ended w some t = subst MayEnd (sym t.is) tt
told_refused recovery.DiskFault ended w some t = subst MayEnd (sym t.is) tt
told_refused (recovery.Foreign file at) ended w some (inl t) = subst MayEnd (sym t.is) tt
told_refused (recovery.Foreign file at) ended w some (inr t) = subst MayEnd (sym t.is) tt
told_refused (recovery.OtherMode stored) ended w some t = subst MayEnd (sym t.is) tt
told_refused (recovery.OtherCatalog stored given) ended w some (inl t) = subst MayEnd (sym t.is) tt
told_refused (recovery.OtherCatalog stored given) ended w some (inr t) = subst MayEnd (sym t.is) tt
told_refused recovery.Nothing ended w some t = absurd (some refl)

-- it is no fault of the sink, and one of the disk is told of a fault of the disk alone
refused_sink : (error : RecoverError) (ended : Status) (w : SinkChange) → (error ≡ recovery.Nothing → ⊥) → TellsRefusal error ended w → ended ≡ WriteFault → ⊥
refused_sink recovery.NoMemory ended w some t is = let no : NoMemory ≡ WriteFault = sym t.is ∙ is in cc
refused_sink recovery.DiskFault ended w some t is = let no : Disk ≡ WriteFault = sym t.is ∙ is in cc
refused_sink (recovery.Foreign file at) ended w some (inl t) is = let no : Foreign ≡ WriteFault = sym t.is ∙ is in cc
refused_sink (recovery.Foreign file at) ended w some (inr t) is = let no : NoMemory ≡ WriteFault = sym t.is ∙ is in cc
refused_sink (recovery.OtherMode stored) ended w some t is = let no : OtherMode ≡ WriteFault = sym t.is ∙ is in cc
refused_sink (recovery.OtherCatalog stored given) ended w some (inl t) is = let no : OtherCatalog ≡ WriteFault = sym t.is ∙ is in cc
refused_sink (recovery.OtherCatalog stored given) ended w some (inr t) is = let no : NoMemory ≡ WriteFault = sym t.is ∙ is in cc
refused_sink recovery.Nothing ended w some t is = absurd (some refl)

refusal_disk : (error : RecoverError) (ended : Status) (w : SinkChange) → (error ≡ recovery.Nothing → ⊥) → TellsRefusal error ended w → ended ≡ Disk → error ≡ recovery.DiskFault
refusal_disk recovery.NoMemory ended w some t is = let no : NoMemory ≡ Disk = sym t.is ∙ is in absurd (cc)
refusal_disk recovery.DiskFault ended w some t is = refl
refusal_disk (recovery.Foreign file at) ended w some (inl t) is = let no : Foreign ≡ Disk = sym t.is ∙ is in absurd (cc)
refusal_disk (recovery.Foreign file at) ended w some (inr t) is = let no : NoMemory ≡ Disk = sym t.is ∙ is in absurd (cc)
refusal_disk (recovery.OtherMode stored) ended w some t is = let no : OtherMode ≡ Disk = sym t.is ∙ is in absurd (cc)
refusal_disk (recovery.OtherCatalog stored given) ended w some (inl t) is = let no : OtherCatalog ≡ Disk = sym t.is ∙ is in absurd (cc)
refusal_disk (recovery.OtherCatalog stored given) ended w some (inr t) is = let no : NoMemory ≡ Disk = sym t.is ∙ is in absurd (cc)
refusal_disk recovery.Nothing ended w some t is = absurd (some refl)

pub fault_is : (error : RecoverError) → is_fault error ≡ true → error ≡ recovery.DiskFault
fault_is recovery.DiskFault is = refl
fault_is recovery.NoMemory is = absurd (false≢true is)
fault_is (recovery.Foreign file at) is = absurd (false≢true is)
fault_is (recovery.OtherMode stored) is = absurd (false≢true is)
fault_is (recovery.OtherCatalog stored given) is = absurd (false≢true is)
fault_is recovery.Nothing is = absurd (false≢true is)

-- where it is told at the last opening alone
pub fault_at_last : (error : RecoverError) (last : Bool) → (last ≡ true) ⊎ (is_fault error ≡ false) → error ≡ recovery.DiskFault → last ≡ true
fault_at_last error last (inl all) is = all
fault_at_last error last (inr none) is = absurd (false≢true (sym none ∙ ap is_fault is))

-- the catalogue that the next opening is given is read from its text
pub given_own : (catalog : Catalog) (requests : List Request) (begun : Option Begun) → IsOwnCatalog catalog → IfSome begun (MayGoOnFrom catalog requests) → IsOwnCatalog (catalog_for catalog begun)
given_own catalog requests None own on = own
given_own catalog requests (Some b) own on = (on.grows.accepted, on.grows.own)

-- what a turn on a catalogue that has grown leaves may go on
pub leaves_on : {D : Type 0} (catalog stored : Catalog) (requests : List Request) (turn : Turn D) → GrowsTo catalog stored → LeavesToGoOn stored requests turn → LeavesToGoOn catalog requests turn
leaves_on catalog stored requests (Over reported) grows leaves = tt
leaves_on catalog stored requests (Short disk) grows leaves = tt
leaves_on catalog stored requests (Refused error disk) grows leaves = tt
leaves_on catalog stored requests (Failed None disk) grows leaves = tt
leaves_on catalog stored requests (Failed (Some b) disk) grows leaves = record { on = leaves.on; grows = grown_on catalog stored b.catalog grows leaves.grows }

-- a mode of which a disk is opened again is strong
strong_again : (mode : Mode) (again : ℕ) → MayRestart mode (suc again) → mode ≡ modes.Strong
strong_again mode again (inl none) = absurd (cc)
strong_again mode again (inr strong) = strong

-- and so is one that has a past, or that isn't opened for the last time
pub strong_behind : (mode : Mode) (last : Bool) (past : Option Begun) (p : Begun) → past ≡ Some p → ((last ≡ true) × (past ≡ None)) ⊎ (mode ≡ modes.Strong) → mode ≡ modes.Strong
strong_behind mode last past p some (inl once) = let no : Some p ≡ None = sym some ∙ once.1 in absurd (cc)
strong_behind mode last past p some (inr strong) = strong

pub strong_before_last : (mode : Mode) (last : Bool) (past : Option Begun) → last ≡ false → ((last ≡ true) × (past ≡ None)) ⊎ (mode ≡ modes.Strong) → mode ≡ modes.Strong
strong_before_last mode last past before (inl once) = absurd (false≢true (sym before ∙ once.0))
strong_before_last mode last past before (inr strong) = strong

module _ {D : Type 0} (kind : DiskKind D) (mode : Mode) (catalog : Catalog) where
  read_nothing : (old new : D) → OnlyReads kind old new → NothingStarted mode (Some catalog) (disk_of kind old new)
  read_nothing old new reads true' = leaves_less kind.moment kind.images old new (present kind old) _ (reads.moments true') (λ image left. inl left)

  -- on a disk that wasn't called nothing ran
  pub uncalled_nothing : (disk : D) → NothingStarted mode (Some catalog) (disk_of kind disk disk)
  uncalled_nothing disk true' = no_call kind.moment kind.images disk _ (λ image left. inl left)

  -- nor where recovery refused it
  pub refused_nothing : (old new : D) (error : RecoverError) → RefusesAsSaid kind mode (Some catalog) old new error → NothingStarted mode (Some catalog) (disk_of kind old new)
  refused_nothing old new recovery.NoMemory refuses = λ true'. (refuses true').moments
  refused_nothing old new recovery.DiskFault refuses = λ true'. (refuses.0 true').moments
  refused_nothing old new (recovery.Foreign file at) refuses = read_nothing old new refuses.0
  refused_nothing old new (recovery.OtherMode stored) refuses = read_nothing old new refuses.0
  refused_nothing old new (recovery.OtherCatalog stored given) refuses = read_nothing old new refuses.0
  refused_nothing old new recovery.Nothing refuses = let no : Some catalog ≡ None = refuses.1 in absurd (cc)

module _ {D : Type 0} (kind : DiskKind D) (told_by : kind.honest → kind.tells) (laws : GrowthLaws) (stays : WholenessStays) (read : SpelledIsRead) (catalog : Catalog) (own : IsOwnCatalog catalog) where
  -- no strong store was opened
  refused_strong : (old new : D) (error : RecoverError) → RefusesAsSaid kind modes.Strong (Some catalog) old new error → kind.honest → (more : Catalog) → GrowsTo catalog more → NothingOpened kind more old new
  refused_strong old new recovery.NoMemory refuses true' more grows = formed_none kind told_by laws stays read catalog own old new true' (refuses true') more grows
  refused_strong old new recovery.DiskFault refuses true' more grows = formed_none kind told_by laws stays read catalog own old new true' (refuses.0 true') more grows
  refused_strong old new (recovery.Foreign file at) refuses true' more grows = read_none kind told_by laws stays read catalog own old new refuses.0 true' more
  refused_strong old new (recovery.OtherMode stored) refuses true' more grows = read_none kind told_by laws stays read catalog own old new refuses.0 true' more
  refused_strong old new (recovery.OtherCatalog stored given) refuses true' more grows = read_none kind told_by laws stays read catalog own old new refuses.0 true' more
  refused_strong old new recovery.Nothing refuses true' more grows = let no : Some catalog ≡ None = refuses.1 in absurd (cc)

  pub refused_none : (mode : Mode) (old new : D) (error : RecoverError) → RefusesAsSaid kind mode (Some catalog) old new error → mode ≡ modes.Strong → kind.honest → (more : Catalog) → GrowsTo catalog more → NothingOpened kind more old new
  refused_none mode old new error refuses strong = refused_strong old new error (subst (λ (m : Mode). RefusesAsSaid kind m (Some catalog) old new error) strong refuses)

-- a disk that wasn't called
pub uncalled_none : {D : Type 0} (kind : DiskKind D) → NoneIsTried kind → (disk : D) (more : Catalog) → NothingOpened kind more disk disk
uncalled_none kind untried disk more = record { not_opened = untried more disk; was = λ true' holds. holds }

-- where a catalogue is given there is something to say
refused_some : {D : Type 0} (kind : DiskKind D) (mode : Mode) (catalog : Catalog) (old new : D) (error : RecoverError) → RefusesAsSaid kind mode (Some catalog) old new error → error ≡ recovery.Nothing → ⊥
refused_some kind mode catalog old new recovery.Nothing refuses is = let no : Some catalog ≡ None = refuses.1 in cc
refused_some kind mode catalog old new recovery.NoMemory refuses is = cc
refused_some kind mode catalog old new recovery.DiskFault refuses is = cc
refused_some kind mode catalog old new (recovery.Foreign file at) refuses is = cc
refused_some kind mode catalog old new (recovery.OtherMode stored) refuses is = cc
refused_some kind mode catalog old new (recovery.OtherCatalog stored given) refuses is = cc

-- ---- no store was opened here

-- what comes of a catalogue that has grown comes of it with the bodies that were found
lifted : {D : Type 0} (kind : DiskKind D) (mode : Mode) (every : Option ℕ) (limit : ℕ) (printing : Printing) (catalog stored : Catalog) (requests : List Request) (last : Bool) → GrowsTo catalog stored → (again : ℕ) (old : D) (turn : Turn D)
    → HasServed turn → TurnComes kind mode every limit printing stored requests again last old turn → TurnComesWith kind mode every limit printing catalog requests again last old turn
lifted kind mode every limit printing catalog stored requests last grows again old (Over reported) served comes = λ w ended tells. record { stored = stored; grows = grows; comes = comes w ended tells }
lifted kind mode every limit printing catalog stored requests last grows again old (Short disk) served comes = λ w ended tells. record { stored = stored; grows = grows; comes = comes w ended tells }
lifted kind mode every limit printing catalog stored requests last grows again old (Refused error disk) served comes = absurd served
lifted kind mode every limit printing catalog stored requests last grows again old (Failed None disk) served comes = absurd served
lifted kind mode every limit printing catalog stored requests last grows again old (Failed (Some begun) disk) served comes = comes

module _ {D : Type 0} (kind : DiskKind D) (mode : Mode) (every : Option ℕ) (limit : ℕ) (printing : Printing) (catalog : Catalog) (own : IsOwnCatalog catalog) (requests : List Request) (last : Bool)
    (opened_law : NoneIsOpened kind) (reopened_law : NoneIsReopened kind) (over_law : RunsOverRestarts kind) where
  abbrev change : D → D → DiskChange
  change = disk_of kind

  itself : GrowsTo catalog catalog
  itself = still catalog own.1 own.0

  -- the stop of a run whose disk has failed
  abbrev fault_stop : D → D → ℕ → Incarnation → Stop
  fault_stop old new first i = record {
    status = status_number Disk;
    count = i.receipted;
    at_limit = not (status_number Disk == 6) && length i.list == room_from limit first;
    faults_before = kind.faults old;
    faults_after = cond (status_number Disk == 5) (kind.faults new) 0;
  }

  module _ (mid new : D) (up : kind.faults mid ≤ kind.faults new) where
    -- so a past stays what it is
    past_on : (more : Catalog) → NothingOpened kind more mid new → (again times : ℕ) (old : D) (past : Past) → again ≤ times → IsPast kind limit more requests again old mid past → IsPast kind limit more requests times old new past
    past_on more none again times old past le is = record {
      db = is.db;
      was = is.was;
      last = is.last;
      earlier = is.earlier;
      lived = reopened_law more is.db past.first is.last is.earlier old mid new is.lived none.not_opened;
      list_is = is.list_is;
      receipted_is = is.receipted_is;
      few = let few = is.few in omega (arith, few, le);
      within = is.within;
      answered = answered_later requests past.first past.list past.answers is.last.receipted limit past.first is.last.list (kind.faults old) (kind.faults mid) (kind.faults new) up is.answered;
      stops = is.stops;
    }

    -- no store was opened, of whatever catalogue with more bodies than the one that was given
    abbrev NoneFor : Option Begun → Type 0
    NoneFor begun = (more : Catalog) → GrowsTo (catalog_for catalog begun) more → NothingOpened kind more mid new

    on : (begun : Option Begun) → NoneFor begun → (again times : ℕ) (old : D) → again ≤ times → CameSoFar kind limit catalog requests again old mid begun → CameSoFar kind limit catalog requests times old new begun
    on None none again times old le is = λ more grows.
        let first = is more grows in
        let second = none more grows in
        record { not_opened = opened_law more old mid new first.not_opened second.not_opened; was = λ true' holds. first.was true' (second.was true' holds) }
    on (Some begun) none again times old le is = λ more grows. past_on more (none more grows) again times old begun.past le (is more grows)

    module _ (begun : Option Begun) (may_go : IfSome begun (MayGoOnFrom catalog requests)) (nothing : NothingStarted mode (Some (catalog_for catalog begun)) (change mid new))
        (not_opened : mode ≡ modes.Strong → kind.honest → NoneFor begun) where
      -- the disk has failed, and another opening may follow
      pub comes_failed : mode ≡ modes.Strong → Rose (kind.faults mid) (kind.faults new) → (again : ℕ) (old : D) → HasCome kind limit catalog requests again old mid begun
          → TurnComesWith kind mode every limit printing catalog requests again last old (Failed begun new)
      comes_failed strong rose zero old has = (
        subst (λ (d : D). kind.faults d ≤ kind.faults new) has.0 up,
        subst (λ (d : D). RoseBy 1 (kind.faults d) (kind.faults new)) has.0 (let rose' = rose in omega (arith, rose')),
        λ true'. first begun has.1 (not_opened strong true'),
      )
        where
          first : (b : Option Begun) → b ≡ None → NoneFor b → CameSoFar kind limit catalog requests 1 old new b
          first None is none = λ more grows. subst (λ (d : D). NothingOpened kind more d new) has.0 (none more grows)
          first (Some b) is none = absurd (cc)
      comes_failed strong rose (suc again) old has = (
        let le = has.0 in omega (arith, le, up),
        rose_more (suc again) (kind.faults old) (kind.faults mid) (kind.faults new) has.1 rose,
        λ true'. on begun (not_opened strong true') (suc again) (suc (suc again)) old (omega arith) (has.2 true'),
      )

    abbrev ComesSo : ℕ → D → SinkChange → Status → Type 0
    ComesSo again old w ended = ComesWith kind mode every limit printing catalog requests again last ended w old new

    -- there is no memory for more
    short_none : NothingStarted mode (Some catalog) (change mid new) → (mode ≡ modes.Strong → kind.honest → NoneFor None) → (again : ℕ) → MayRestart mode again → (old : D) → HasCome kind limit catalog requests again old mid None
        → (w : SinkChange) (ended : Status) → TellsReport NoMemory None ended w → ComesSo again old w ended
    short_none nothing not_opened zero may old has w ended tells = record {
      stored = catalog;
      grows = itself;
      comes = subst (λ (d : D). Comes kind mode every limit printing catalog requests zero last ended w d new) has.0
          (once_short kind mode every limit printing catalog requests last mid new up w ended tells (inl (record { nothing_ran = nothing; written = tells.reported })));
    }
    short_none nothing not_opened (suc again) may old has w ended tells = record {
      stored = catalog;
      grows = itself;
      comes = later_short kind mode every limit printing catalog requests last again old new (let le = has.0 in omega (arith, le, up)) (rose_keeps (suc again) (kind.faults old) (kind.faults mid) (kind.faults new) has.1 up) w ended tells
          (λ true'. inr (inl ((on None (not_opened (strong_again mode again may) true') (suc again) (suc again) old (omega arith) (has.2 true') catalog itself).not_opened, tells.reported)));
    }

    short_some : (b : Begun) → MayGoOnFrom catalog requests b → (mode ≡ modes.Strong → kind.honest → NoneFor (Some b)) → (again : ℕ) → MayRestart mode again → (old : D) → HasCome kind limit catalog requests again old mid (Some b)
        → (w : SinkChange) (ended : Status) → TellsReport NoMemory None ended w → ComesSo again old w ended
    short_some b may_go not_opened zero may old has w ended tells = let no : Some b ≡ None = has.1 in absurd (cc)
    short_some b may_go not_opened (suc again) may old has w ended tells = record {
      stored = b.catalog;
      grows = may_go.grows;
      comes = later_short kind mode every limit printing b.catalog requests last again old new (let le = has.0 in omega (arith, le, up)) so_far w ended tells (λ true'. inr (inr (by true')));
    }
      where
        so_far : RoseBy (suc again) (kind.faults old) (kind.faults new)
        so_far = rose_keeps (suc again) (kind.faults old) (kind.faults mid) (kind.faults new) has.1 up

        here : GrowsTo b.catalog b.catalog
        here = still b.catalog may_go.grows.own may_go.grows.accepted

        by : kind.honest → CameOver kind every limit (suc again) printing b.catalog requests NoMemory w old new
        by true' =
            let later = past_on b.catalog (not_opened (strong_again mode again may) true' b.catalog here) (suc again) (suc again) old b.past (omega arith) (has.2 true' b.catalog here) in
            subst (λ (s : Status). CameOver kind every limit (suc again) printing b.catalog requests s w old new) tells.is
            (short_of kind mode every limit printing b.catalog requests again old new b.past later over_law new later.lived so_far later.was w ended tells)

    pub comes_short : (begun : Option Begun) → IfSome begun (MayGoOnFrom catalog requests) → NothingStarted mode (Some (catalog_for catalog begun)) (change mid new) → (mode ≡ modes.Strong → kind.honest → NoneFor begun)
        → (again : ℕ) → MayRestart mode again → (old : D) → HasCome kind limit catalog requests again old mid begun → TurnComesWith kind mode every limit printing catalog requests again last old (Short new)
    comes_short None may_go nothing not_opened again may old has w ended tells = short_none nothing not_opened again may old has w ended tells
    comes_short (Some b) may_go nothing not_opened again may old has w ended tells = short_some b may_go not_opened again may old has w ended tells

    module _ (error : RecoverError) (still' : (error ≡ recovery.DiskFault → ⊥) → kind.faults new ≡ kind.faults mid) (at_last : error ≡ recovery.DiskFault → last ≡ true) where
      rose_of : (given : Catalog) → RefusesAsSaid kind mode (Some given) mid new error → error ≡ recovery.DiskFault → Rose (kind.faults mid) (kind.faults new)
      rose_of given refuses is = (subst (RefusesAsSaid kind mode (Some given) mid new) is refuses).1

      -- and nothing had run: it is told of the disk as it was given
      module _ (refuses : RefusesAsSaid kind mode (Some catalog) mid new error) (not_opened : mode ≡ modes.Strong → kind.honest → NoneFor None) where
        some : error ≡ recovery.Nothing → ⊥
        some = refused_some kind mode catalog mid new error refuses

        once_refused : (w : SinkChange) (ended : Status) → TellsRefusal error ended w → Comes kind mode every limit printing catalog requests zero last ended w mid new
        once_refused w ended tells =
            let came = run_refused kind mode every limit printing w mid new catalog requests error refuses ended tells in
            let told = refusal_tells w (change mid new) ended error tells still' in
            record {
              came = came.came;
              cause = served_of zero ended w (change mid new) (λ is. let rose = rose_of catalog refuses (refusal_disk error ended w some tells is) in omega (arith, rose)) (λ is. absurd (refused_sink error ended w some tells is));
              at_last = λ is. at_last (refusal_disk error ended w some tells is);
              told = λ none' all. told.store;
              sink = told.sink;
              later = up;
            }

        abbrev Found : D → SinkChange → Status → Type 0
        Found old w s = FoundLater kind catalog s w old new

        -- or of one that was tried before
        found : mode ≡ modes.Strong → (old : D) → NotOpened catalog (change old mid) → NotOpened catalog (change old new) → (w : SinkChange) (ended : Status) (e : RecoverError) → RefusesAsSaid kind mode (Some catalog) mid new e
            → TellsRefusal e ended w → Found old w ended
        found strong old before none w ended e refuses' t = by e refuses' t
          where
            -- what was found as a store of this mode was found as a strong one
            as_strong : (s : Status) → CameTo mode every limit printing catalog requests s w (change mid new) → CameTo modes.Strong every limit printing catalog requests s w (change mid new)
            as_strong s came = subst (λ (m : Mode). CameTo m every limit printing catalog requests s w (change mid new)) strong came

            by : (e' : RecoverError) → RefusesAsSaid kind mode (Some catalog) mid new e' → TellsRefusal e' ended w → Found old w ended
            by recovery.NoMemory r t' = subst (Found old w) (sym t'.is) (none, t'.reported)
            by recovery.DiskFault r t' = subst (Found old w) (sym t'.is) (none, t'.reported)
            by (recovery.Foreign file at) r (inl t') =
                subst (Found old w) (sym t'.is) (mid, before, (run_refused kind mode every limit printing w mid new catalog requests (recovery.Foreign file at) r Foreign (inl (record { is = refl; reported = t'.reported }))).came)
            by (recovery.Foreign file at) r (inr t') = subst (Found old w) (sym t'.is) (none, t'.reported)
            by (recovery.OtherMode stored) r t' =
                subst (Found old w) (sym t'.is) (mid, before, as_strong OtherMode (run_refused kind mode every limit printing w mid new catalog requests (recovery.OtherMode stored) r OtherMode (record { is = refl; reported = t'.reported })).came)
            by (recovery.OtherCatalog stored given) r (inl t') =
                subst (Found old w) (sym t'.is) (mid, before, as_strong OtherCatalog (run_refused kind mode every limit printing w mid new catalog requests (recovery.OtherCatalog stored given) r OtherCatalog (inl (record { is = refl; reported = t'.reported }))).came)
            by (recovery.OtherCatalog stored given) r (inr t') = subst (Found old w) (sym t'.is) (none, t'.reported)
            by recovery.Nothing r t' = let no : Some catalog ≡ None = r.1 in absurd (cc)

        refused_so : (again : ℕ) → MayRestart mode again → (old : D) → HasCome kind limit catalog requests again old mid None → (w : SinkChange) (ended : Status) → TellsRefusal error ended w → Comes kind mode every limit printing catalog requests again last ended w old new
        refused_so zero may old has w ended tells = subst (λ (d : D). Comes kind mode every limit printing catalog requests zero last ended w d new) has.0 (once_refused w ended tells)
        refused_so (suc again) may old has w ended tells =
            let told = refusal_tells w (change mid new) ended error tells still' in
            let strong = strong_again mode again may in
            record {
              came = record {
                some = omega arith;
                rose = rose_keeps (suc again) (kind.faults old) (kind.faults mid) (kind.faults new) has.1 up;
                may = told_refused error ended w some tells;
                came = λ true'. inr (inl (found strong old (has.2 true' catalog itself).not_opened (on None (not_opened strong true') (suc again) (suc again) old (omega arith) (has.2 true') catalog itself).not_opened w ended error refuses tells));
              };
              cause = served_of (suc again) ended w (change old new)
                  (λ is. rose_more (suc again) (kind.faults old) (kind.faults mid) (kind.faults new) has.1 (rose_of catalog refuses (refusal_disk error ended w some tells is)))
                  (λ is. absurd (refused_sink error ended w some tells is));
              at_last = λ is. at_last (refusal_disk error ended w some tells is);
              told = λ none' all. absurd (cc);
              sink = told.sink;
              later = let le = has.0 in omega (arith, le, up);
            }

      -- behind an engine that ran a fault of the disk is reported
      module _ (b : Begun) (may_go : MayGoOnFrom catalog requests b) (refuses : RefusesAsSaid kind mode (Some b.catalog) mid new error) (not_opened : mode ≡ modes.Strong → kind.honest → NoneFor (Some b))
          (fault : error ≡ recovery.DiskFault) (status : Status) (text : Option (List ℕ)) (reports : ReportsPast b.catalog b.past requests status text) where
        abbrev past : Past
        past = b.past

        here : GrowsTo b.catalog b.catalog
        here = still b.catalog may_go.grows.own may_go.grows.accepted

        may : MayBeSession status
        may = by text reports
          where
            by : (t : Option (List ℕ)) → ReportsPast b.catalog past requests status t → MayBeSession status
            by (Some t) r = subst MayBeSession (sym r.0) tt
            by None r = subst MayBeSession (sym r) tt

        reported_so : (again : ℕ) → MayRestart mode again → (old : D) → HasCome kind limit catalog requests again old mid (Some b) → (w : SinkChange) (ended : Status) → TellsReport status text ended w
            → Comes kind mode every limit printing b.catalog requests again last ended w old new
        reported_so zero run old has w ended tells = let no : Some b ≡ None = has.1 in absurd (cc)
        reported_so (suc again) run old has w ended tells =
            later_over kind mode every limit printing b.catalog requests last status text may (λ is. at_last fault) old new (let le = has.0 in omega (arith, le, up)) again so_far
            (λ is. rose_more (suc again) (kind.faults old) (kind.faults mid) (kind.faults new) has.1 (rose_of b.catalog refuses fault)) w ended tells (λ true'. inr (inr (by true' (has.2 true' b.catalog here) text reports tells)))
          where
            so_far : RoseBy (suc again) (kind.faults old) (kind.faults new)
            so_far = rose_keeps (suc again) (kind.faults old) (kind.faults mid) (kind.faults new) has.1 up

            later_of : kind.honest → IsPast kind limit b.catalog requests (suc again) old mid past → IsPast kind limit b.catalog requests (suc again) old new past
            later_of true' is = past_on b.catalog (not_opened (strong_again mode again run) true' b.catalog here) (suc again) (suc again) old past (omega arith) is

            by : kind.honest → IsPast kind limit b.catalog requests (suc again) old mid past → (t : Option (List ℕ)) → ReportsPast b.catalog past requests status t → TellsReport status t ended w
                → CameOver kind every limit (suc again) printing b.catalog requests ended w old new
            by true' is None r tells' =
                let later = later_of true' is in
                short_of kind mode every limit printing b.catalog requests again old new past later over_law new later.lived so_far later.was w ended tells'
            by true' is (Some t) r tells' =
                over_told kind every limit (suc again) printing b.catalog requests w old new is.was Disk t ran ended (subst (λ (s : Status). TellsReport s (Some t) ended w) r.0 tells')
              where
                later : IsPast kind limit b.catalog requests (suc again) old new past
                later = later_of true' is

                ran : StoppedRunOver kind every limit (suc again) b.catalog requests Disk t old new
                ran = stopped kind mode every limit printing b.catalog requests again old new past later over_law new later.lived so_far Disk (inl refl) past.answers
                    (subst (λ (l : List Listed). AreAnswered requests past.first l (stop_over kind 5 limit past.first later.last old new) past.answers) later.list_is later.answered)
                    (missing_answer (written.Stopped (status_number Disk) past.receipted 0)) t
                    (subst (λ (l : List Listed). IsReportOf b.catalog requests past.answers past.first l (written.Stopped (status_number Disk) past.receipted 0) t) later.list_is r.1 later.db (fault_stop old new past.first later.last) refl (sym later.receipted_is))

      pub unopened_comes : (begun : Option Begun) → IfSome begun (MayGoOnFrom catalog requests) → RefusesAsSaid kind mode (Some (catalog_for catalog begun)) mid new error → (mode ≡ modes.Strong → kind.honest → NoneFor begun)
          → (again : ℕ) → MayRestart mode again → (old : D) → HasCome kind limit catalog requests again old mid begun → (turn : Turn D) → LeavesUnopened begun requests error new turn
          → TurnComesWith kind mode every limit printing catalog requests again last old turn
      unopened_comes None may_go refuses not_opened again may old has turn left =
          subst (TurnComesWith kind mode every limit printing catalog requests again last old) (sym left)
          (λ w ended tells. record { stored = catalog; grows = itself; comes = refused_so refuses not_opened again may old has w ended tells })
      unopened_comes (Some b) may_go refuses not_opened again may old has turn left = by error refl left
        where
          short : TurnComesWith kind mode every limit printing catalog requests again last old (Short new)
          short w ended tells = short_some b may_go not_opened again may old has w ended tells

          by : (e : RecoverError) → error ≡ e → LeavesUnopened (Some b) requests e new turn → TurnComesWith kind mode every limit printing catalog requests again last old turn
          by recovery.DiskFault is (status, text, reports, turn_is) =
              subst (TurnComesWith kind mode every limit printing catalog requests again last old) (sym turn_is)
              (λ w ended tells. record { stored = b.catalog; grows = may_go.grows; comes = reported_so b may_go refuses not_opened is status text reports again may old has w ended tells })
          by recovery.NoMemory is turn_is = subst (TurnComesWith kind mode every limit printing catalog requests again last old) (sym turn_is) short
          by (recovery.Foreign file at) is turn_is = subst (TurnComesWith kind mode every limit printing catalog requests again last old) (sym turn_is) short
          by (recovery.OtherMode stored) is turn_is = subst (TurnComesWith kind mode every limit printing catalog requests again last old) (sym turn_is) short
          by (recovery.OtherCatalog stored given) is turn_is = subst (TurnComesWith kind mode every limit printing catalog requests again last old) (sym turn_is) short
          by recovery.Nothing is turn_is = subst (TurnComesWith kind mode every limit printing catalog requests again last old) (sym turn_is) short

  -- ---- a store was

  module _ (mid : D) (r : Recovered D) (turn : Turn D) (served : HasServed turn) where
    -- the first one
    pub new_comes : GrowsTo catalog r.catalog → OpenedAtLast kind → IsOpenedFor kind mode mid r → kind.faults r.log.disk ≡ kind.faults mid → ServesNew kind mode every limit printing r.catalog requests last r turn
        → (again : ℕ) → MayRestart mode again → (old : D) → HasCome kind limit catalog requests again old mid None → TurnComesWith kind mode every limit printing catalog requests again last old turn
    new_comes grows at_last opened same serves zero may old has =
        lifted kind mode every limit printing catalog r.catalog requests last grows zero old turn served
        (subst (λ (d : D). TurnComes kind mode every limit printing r.catalog requests zero last d turn) has.0 (serves.once mid opened same))
    new_comes grows at_last opened same serves (suc again) may old has =
        lifted kind mode every limit printing catalog r.catalog requests last grows (suc again) old turn served
        (serves.later strong again old (let le = has.0 in omega (arith, le, same)) (subst (λ (n : ℕ). RoseBy (suc again) (kind.faults old) n) (sym same) has.1) opened_from)
      where
        strong : mode ≡ modes.Strong
        strong = strong_again mode again may

        opened_strong : IsOpenedFor kind modes.Strong mid r
        opened_strong = subst (λ (m : Mode). IsOpenedFor kind m mid r) strong opened

        opened_from : kind.honest → IsOpenedFor kind modes.Strong old r
        opened_from true' = record {
          opened = at_last r.catalog (recovered_database r) r.first old mid r.log.disk true' (before r.catalog grows).not_opened has.0 opened_strong.opened;
          was = λ told. (before r.catalog grows).was true' (opened_strong.was told);
          each = λ is more on'. at_last more (recovered_database r) r.first old mid r.log.disk true' (before more (grown_on catalog r.catalog more grows on')).not_opened has.0 (opened_strong.each is more on');
          each_was = λ is more on' told. (before more (grown_on catalog r.catalog more grows on')).was true' (opened_strong.each_was is more on' told);
        }
          where
            before : (more : Catalog) → GrowsTo catalog more → NothingOpened kind more old mid
            before = has.2 true'

    -- one behind an engine that ran
    pub again_comes : (b : Begun) → MayGoOnFrom catalog requests b → GrowsTo b.catalog r.catalog → IsOpenedFor kind modes.Strong mid r → kind.faults mid ≤ kind.faults r.log.disk
        → ServesAgain kind mode every limit printing r.catalog requests last b.past mid r turn → (again : ℕ) (old : D) → HasCome kind limit catalog requests again old mid (Some b)
        → TurnComesWith kind mode every limit printing catalog requests again last old turn
    again_comes b may_go grows opened later serves zero old has = let no : Some b ≡ None = has.1 in absurd (cc)
    again_comes b may_go grows opened later serves (suc again) old has =
        lifted kind mode every limit printing catalog r.catalog requests last (grown_on catalog b.catalog r.catalog may_go.grows grows) (suc again) old turn served
        (serves again old has.0 has.1 (λ true' more on'. has.2 true' more (grown_on b.catalog r.catalog more grows on')) later (λ true' more on'. opened.each refl more on'))
