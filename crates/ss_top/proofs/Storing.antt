-- What a command comes to, by what was recovered and how it was told.
use Rattle.std.proofs.Common.{◌≡◌, ◌≢◌, ◌≤◌, ◌⊎◌, ◌∙◌, inl, inr, ℕ, Bool, true, false, cond, List, [], Some, None, Result, Ok, Err, refl, sym, ap, subst}
use Rattle.ss_disk.specs.Kinds.{DiskKind, present}
use Rattle.std.specs.Prelude.{Option, IfSome, IsUtf8}
use Rattle.ss_value.specs.FaultCounts.{Rose}
use Rattle.ss_model.specs.declared.catalog.Catalog.{Catalog}
use Rattle.ss_model.specs.declared.entry.Answer.{Answer}
use Rattle.ss_model.specs.declared.entry.Mode.{Mode}
use Rattle.ss_model.specs.declared.entry.Mode.TheVariants as modes
use Rattle.ss_model.specs.declared.entry.Request.{Request}
use Rattle.ss_model.specs.Accepted.{Accepted}
use Rattle.ss_disk.proofs.CallerLemmas.{leaves_less}
use Rattle.ss_cmdlog.specs.Store.{IsEmpty}
use Rattle.ss_cmdlog.specs.Opening.{OnlyReads}
use Rattle.ss_fronts.specs.Fronts.{mode_of}
use Rattle.ss_headline.specs.Disks.{DiskChange, disk_of, AsBefore, OnlyRead}
use Rattle.ss_headline.specs.Layers.{Opened}
use Rattle.ss_headline.specs.Sentences.{ReceiptsStay}
use Rattle.ss_snapshot.proofs.BodiesRead.{still}
use Rattle.ss_recover.specs.declared.error.RecoverError.{RecoverError}
use Rattle.ss_recover.specs.declared.error.RecoverError.TheVariants as recovery
use Rattle.ss_recover.specs.declared.recovered.Recovered.{Recovered}
use Rattle.ss_recover.specs.Faults.{IsStore}
use Rattle.ss_recover.specs.Recovering.{IsOwnCatalog, IsRecovered, RefusesAsSaid, recovered_database, recovery_of}
use Rattle.ss_refusals.specs.declared.status.Status.{Status}
use Rattle.ss_refusals.specs.declared.status.Status.TheVariants.{Done, Usage, Input, ReadFault, WriteFault, Disk, NoMemory, Foreign, OtherMode, OtherCatalog, Limit, Differs}
use Rattle.ss_refusals.specs.Sinks.{SinkChange, Writes}
use Rattle.ss_refusals.specs.Statuses.{no_memory_text, nothing_text, other_catalog_text}
use Rattle.ss_refusals.specs.StoreRefusals.{TellsRefusal, WritesWhole, HasTexts}
use Rattle.ss_top.specs.declared.session.Printing.{Printing}
use Rattle.ss_top.specs.declared.session.Printing.TheVariants.{InFull}
use Rattle.ss_commitlog.specs.declared.placed.Unlisted as placed
use Rattle.ss_commitlog.specs.declared.placed.Unlisted.TheVariants as unlisted
use Rattle.ss_top.specs.Runs.{settled_status, session_status, Reports, TellsDiskFault, TellsReport}
use Rattle.ss_top.specs.Told.{some_say_full}
use Rattle.ss_top.specs.Serving.{ComesTo, RecoversTo, IsOpenedFor, TellsStoreFaults}
use Rattle.ss_top.specs.Stores.{CameTo, NothingStarted, RecoveredTo, Ran, RanAs, WasOf}
use Rattle.ss_top.proofs.Growing.{GrowthLaws, holds_more, opened_more}

-- ---- a session was reported

module _ (mode : Mode) (every : Option ℕ) (limit : ℕ) (printing : Printing) (catalog : Catalog) (requests : List Request) (disk : DiskChange) (was : WasOf mode catalog disk) (w : SinkChange) where
  abbrev Came : Status → Type 0
  Came ended = ComesTo mode every limit printing catalog requests ended w disk

  ran : {written : List ℕ → Type 0} (status : Status) (text : List ℕ) → RanAs mode every limit printing catalog requests status text disk → written text → Ran mode every limit printing catalog requests status written disk
  ran status text is wrote = record { was = was; text = text; ran = is; wrote = wrote }

  whole : (ended : Status) (text : List ℕ) → RanAs mode every limit printing catalog requests Done text disk → WritesWhole ended text w → Came ended
  whole Done text is wrote = record { came = ran Done text is wrote.0; cause = tt }
  whole WriteFault text is wrote = record { came = ran Done text is wrote.0; cause = wrote.1 }
  whole Usage text is wrote = absurd wrote
  whole Differs text is wrote = absurd wrote
  whole Input text is wrote = absurd wrote
  whole ReadFault text is wrote = absurd wrote
  whole Disk text is wrote = absurd wrote
  whole NoMemory text is wrote = absurd wrote
  whole Foreign text is wrote = absurd wrote
  whole OtherMode text is wrote = absurd wrote
  whole OtherCatalog text is wrote = absurd wrote
  whole Limit text is wrote = absurd wrote

  -- by the status of the session
  told : (status : Status) (text : List ℕ) → RanAs mode every limit printing catalog requests status text disk → (status ≡ Disk → Rose disk.faults_before disk.faults_now) → (ended : Status) → TellsReport status (Some text) ended w → Came ended
  told Done text is rose ended tells = whole ended text is tells
  told Disk text is rose ended tells = subst Came (sym tells.is) (record { came = inr (ran Disk text is tells.reported); cause = rose refl })
  told NoMemory text is rose ended tells = subst Came (sym tells.is) (record { came = inr (inr (ran NoMemory text is (inl tells.reported))); cause = tt })
  told Limit text is rose ended tells = subst Came (sym tells.is) (record { came = ran Limit text is tells.reported; cause = tt })
  told Usage text is rose ended tells = absurd is
  told Differs text is rose ended tells = absurd is
  told Input text is rose ended tells = absurd is
  told ReadFault text is rose ended tells = absurd is
  told WriteFault text is rose ended tells = absurd is
  told Foreign text is rose ended tells = absurd is
  told OtherMode text is rose ended tells = absurd is
  told OtherCatalog text is rose ended tells = absurd is

  pub session_told : (status : Status) (text : Option (List ℕ)) → Reports mode every limit printing catalog requests status text disk → (ended : Status) → TellsReport status text ended w → Came ended
  session_told status (Some text) r ended tells = told status text (subst (λ t. RanAs mode every limit printing catalog requests status t disk) (sym r.written) r.ran) r.rose ended tells
  session_told status None r ended tells =
      subst Came (sym tells.is) (record { came = inr (inr (ran NoMemory r.whole (subst (λ s. RanAs mode every limit printing catalog requests s r.whole disk) r.unwritten r.ran) (inr tells.reported))); cause = tt })

-- ---- faults are told

module _ (w : SinkChange) (text : List ℕ) (ended : Status) where
  -- a status other than that of a whole run is told as it is
  told_as : (status : Status) → ended ≡ status → (before now : ℕ) → TellsDiskFault status before now → TellsDiskFault ended before now
  told_as status is before now told = subst (λ e. TellsDiskFault e before now) (sym is) told

  store_by_text : (status : Status) → TellsReport status (Some text) ended w → (before now : ℕ) → TellsDiskFault status before now → TellsDiskFault ended before now
  store_by_text Done tells before now (inl is) = let no : Done ≡ Disk = is in absurd (cc)
  store_by_text Done tells before now (inr (inl is)) = let no : Done ≡ NoMemory = is in absurd (cc)
  store_by_text Done tells before now (inr (inr same)) = inr (inr same)
  store_by_text Disk tells before now told = told_as Disk tells.is before now told
  store_by_text NoMemory tells before now told = told_as NoMemory tells.is before now told
  store_by_text Usage tells before now told = told_as Usage tells.is before now told
  store_by_text Differs tells before now told = told_as Differs tells.is before now told
  store_by_text Input tells before now told = told_as Input tells.is before now told
  store_by_text ReadFault tells before now told = told_as ReadFault tells.is before now told
  store_by_text WriteFault tells before now told = told_as WriteFault tells.is before now told
  store_by_text Foreign tells before now told = told_as Foreign tells.is before now told
  store_by_text OtherMode tells before now told = told_as OtherMode tells.is before now told
  store_by_text OtherCatalog tells before now told = told_as OtherCatalog tells.is before now told
  store_by_text Limit tells before now told = told_as Limit tells.is before now told

  sink_by_text : (status : Status) → TellsReport status (Some text) ended w → ended ≡ Done → w.faults_now ≡ w.faults_before
  sink_by_text Done tells is = (subst (λ e. WritesWhole e text w) is tells).1
  sink_by_text Disk tells is = let no : Disk ≡ Done = sym tells.is ∙ is in absurd (cc)
  sink_by_text NoMemory tells is = let no : NoMemory ≡ Done = sym tells.is ∙ is in absurd (cc)
  sink_by_text Usage tells is = let no : Usage ≡ Done = sym tells.is ∙ is in absurd (cc)
  sink_by_text Differs tells is = let no : Differs ≡ Done = sym tells.is ∙ is in absurd (cc)
  sink_by_text Input tells is = let no : Input ≡ Done = sym tells.is ∙ is in absurd (cc)
  sink_by_text ReadFault tells is = let no : ReadFault ≡ Done = sym tells.is ∙ is in absurd (cc)
  sink_by_text WriteFault tells is = let no : WriteFault ≡ Done = sym tells.is ∙ is in absurd (cc)
  sink_by_text Foreign tells is = let no : Foreign ≡ Done = sym tells.is ∙ is in absurd (cc)
  sink_by_text OtherMode tells is = let no : OtherMode ≡ Done = sym tells.is ∙ is in absurd (cc)
  sink_by_text OtherCatalog tells is = let no : OtherCatalog ≡ Done = sym tells.is ∙ is in absurd (cc)
  sink_by_text Limit tells is = let no : Limit ≡ Done = sym tells.is ∙ is in absurd (cc)

-- by how a session is told
pub store_by_report : (w : SinkChange) (status : Status) (text : Option (List ℕ)) (ended : Status) → TellsReport status text ended w → (before now : ℕ) → TellsDiskFault status before now → TellsDiskFault ended before now
store_by_report w status (Some text) ended tells before now told = store_by_text w text ended status tells before now told
store_by_report w status None ended tells before now told = inr (inl tells.is)

pub report_sink : (w : SinkChange) (status : Status) (text : Option (List ℕ)) (ended : Status) → TellsReport status text ended w → ended ≡ Done → w.faults_now ≡ w.faults_before
report_sink w status (Some text) ended tells is = sink_by_text w text ended status tells is
report_sink w status None ended tells is = let no : NoMemory ≡ Done = sym tells.is ∙ is in absurd (cc)

-- by how a refusal is
module _ (w : SinkChange) (disk : DiskChange) (ended : Status) where
  held_at : (status : Status) → ended ≡ status → (status ≡ Done → ⊥) → disk.faults_now ≡ disk.faults_before → TellsStoreFaults ended w disk
  held_at status is not_done still = record { store = inr (inr still); sink = λ done. absurd (not_done (sym is ∙ done)) }

  pub refusal_tells : (error : RecoverError) → TellsRefusal error ended w → ((error ≡ recovery.DiskFault → ⊥) → disk.faults_now ≡ disk.faults_before) → TellsStoreFaults ended w disk
  refusal_tells recovery.NoMemory t still = held_at NoMemory t.is (λ no. cc) (still (λ no. cc))
  refusal_tells recovery.DiskFault t still = record { store = inl t.is; sink = λ done. let no : Disk ≡ Done = sym t.is ∙ done in absurd (cc) }
  refusal_tells (recovery.Foreign file at) (inl t) still = held_at Foreign t.is (λ no. cc) (still (λ no. cc))
  refusal_tells (recovery.Foreign file at) (inr t) still = held_at NoMemory t.is (λ no. cc) (still (λ no. cc))
  refusal_tells (recovery.OtherMode stored) t still = held_at OtherMode t.is (λ no. cc) (still (λ no. cc))
  refusal_tells (recovery.OtherCatalog stored given) (inl t) still = held_at OtherCatalog t.is (λ no. cc) (still (λ no. cc))
  refusal_tells (recovery.OtherCatalog stored given) (inr t) still = held_at NoMemory t.is (λ no. cc) (still (λ no. cc))
  refusal_tells recovery.Nothing t still = record { store = inr (inr (still (λ no. cc))); sink = λ done. (subst (λ e. WritesWhole e nothing_text w) done t).1 }

-- from an earlier disk with as many faults
pub tells_since : {D : Type 0} (kind : DiskKind D) (w : SinkChange) (old mid new : D) (ended : Status) → kind.faults mid ≡ kind.faults old → TellsStoreFaults ended w (disk_of kind mid new) → TellsStoreFaults ended w (disk_of kind old new)
tells_since kind w old mid new ended same told = record { store = subst (λ (n : ℕ). TellsDiskFault ended n (kind.faults new)) same told.store; sink = told.sink }

-- what isn't of another catalogue isn't told as that
pub told_own : (w : SinkChange) (status : Status) (text : Option (List ℕ)) (ended : Status) → status ≢ OtherCatalog → TellsReport status text ended w → ended ≢ OtherCatalog
told_own w status None ended own tells other = let wrong : NoMemory ≡ OtherCatalog = sym tells.is ∙ other in absurd (cc)
told_own w status (Some text) ended own tells other = by status own tells
  where
    whole : (e : Status) → e ≡ OtherCatalog → WritesWhole e text w → ⊥
    whole Done is wrote = cc
    whole WriteFault is wrote = cc
    whole OtherMode is wrote = wrote
    whole OtherCatalog is wrote = wrote
    whole Usage is wrote = cc
    whole Differs is wrote = cc
    whole Input is wrote = cc
    whole ReadFault is wrote = cc
    whole Disk is wrote = cc
    whole NoMemory is wrote = cc
    whole Foreign is wrote = cc
    whole Limit is wrote = cc

    by : (s : Status) → s ≢ OtherCatalog → TellsReport s (Some text) ended w → ⊥
    by Done own' tells' = whole ended other tells'
    by OtherCatalog own' tells' = own' refl
    by Disk own' tells' = let wrong : Disk ≡ OtherCatalog = sym tells'.is ∙ other in cc
    by NoMemory own' tells' = let wrong : NoMemory ≡ OtherCatalog = sym tells'.is ∙ other in cc
    by Limit own' tells' = let wrong : Limit ≡ OtherCatalog = sym tells'.is ∙ other in cc
    by OtherMode own' tells' = let wrong : OtherMode ≡ OtherCatalog = sym tells'.is ∙ other in cc
    by Usage own' tells' = let wrong : Usage ≡ OtherCatalog = sym tells'.is ∙ other in cc
    by Differs own' tells' = let wrong : Differs ≡ OtherCatalog = sym tells'.is ∙ other in cc
    by Input own' tells' = let wrong : Input ≡ OtherCatalog = sym tells'.is ∙ other in cc
    by ReadFault own' tells' = let wrong : ReadFault ≡ OtherCatalog = sym tells'.is ∙ other in cc
    by WriteFault own' tells' = let wrong : WriteFault ≡ OtherCatalog = sym tells'.is ∙ other in cc
    by Foreign own' tells' = let wrong : Foreign ≡ OtherCatalog = sym tells'.is ∙ other in cc

-- nor has a session the status of another catalogue
pub session_own : (failed : Bool) (answers : List (List Answer)) (end : Result Unit placed.Unlisted) (flushed : Bool) (status : Status) → status ≡ session_status failed answers end flushed → status ≢ OtherCatalog
session_own failed answers end flushed status is other = by failed (some_say_full answers) end flushed (sym is ∙ other)
  where
    by : (f full : Bool) (e : Result Unit placed.Unlisted) (ok : Bool) → cond f Disk (cond full Limit (settled_status e ok)) ≡ OtherCatalog → ⊥
    by true full e ok same = cc
    by false true e ok same = cc
    by false false (Ok done) true same = cc
    by false false (Ok done) false same = cc
    by false false (Err (unlisted.ListFull count)) ok same = cc
    by false false (Err unlisted.NoMemory) ok same = cc

-- ---- nothing was recovered

module _ {D : Type 0} (kind : DiskKind D) (mode : Mode) (every : Option ℕ) (limit : ℕ) (printing : Printing) (w : SinkChange) (old new : D) where
  abbrev change : DiskChange
  change = disk_of kind old new

  -- what was only read
  was_read : OnlyReads kind old new → OnlyRead change
  was_read reads = record { as_before = reads.moments; reads = reads.same }

  -- so nothing ran
  as_before_ran_nothing : (given : Option Catalog) → AsBefore change → NothingStarted mode given change
  as_before_ran_nothing given before true' = leaves_less kind.moment kind.images old new (present kind old) _ (before true') (λ image left. inl left)

  module _ (catalog : Catalog) (requests : List Request) where
    abbrev CameSo : Status → Type 0
    CameSo ended = ComesTo mode every limit printing catalog requests ended w change

    short_of_memory : AsBefore change → Writes no_memory_text w → CameSo NoMemory
    short_of_memory before reported = record { came = inl (record { nothing_ran = as_before_ran_nothing (Some catalog) before; written = reported }); cause = tt }

    -- a refusal of a run on this catalogue
    pub run_refused : (error : RecoverError) → RefusesAsSaid kind mode (Some catalog) old new error → (ended : Status) → TellsRefusal error ended w → CameSo ended
    run_refused recovery.NoMemory refuses ended t = subst CameSo (sym t.is) (record { came = inl (record { nothing_ran = λ true'. (refuses true').moments; written = t.reported }); cause = tt })
    run_refused recovery.DiskFault refuses ended t = subst CameSo (sym t.is) (record { came = inl (record { nothing_ran = λ true'. (refuses.0 true').moments; written = t.reported }); cause = refuses.1 })
    run_refused (recovery.Foreign file at) refuses ended (inl t) =
        subst CameSo (sym t.is) (record { came = record { file = file; place = at; fault = refuses.1; ends = record { only_read = was_read refuses.0; written = t.reported } }; cause = tt })
    run_refused (recovery.Foreign file at) refuses ended (inr t) = subst CameSo (sym t.is) (short_of_memory refuses.0.moments t.reported)
    run_refused (recovery.OtherMode stored) refuses ended t =
        let other = refuses.1 in
        subst CameSo (sym t.is) (record {
          came = record {
            stored = stored;
            another = other.another;
            catalog = other.theirs;
            accepted = other.own.0;
            store = other.store;
            ends = record { only_read = was_read refuses.0; written = t.reported };
          };
          cause = tt;
        })
    run_refused (recovery.OtherCatalog stored given) refuses ended (inl t) =
        let other = refuses.1 in
        let ours : other.ours ≡ catalog = (let same : Some other.ours ≡ Some catalog = sym other.is_given in cc) in
        let given_is : given ≡ catalog.text = other.text_is ∙ ap (λ (c : Catalog). c.text) ours in
        subst CameSo (sym t.is) (record {
          came = record {
            stored = other.theirs;
            accepted = other.own.0;
            store = other.store;
            differs = λ same. other.another (other.stored_is ∙ same ∙ sym given_is);
            ends = record {
              only_read = was_read refuses.0;
              written = subst (λ (text : List ℕ). Writes (other_catalog_text text catalog.text) w) other.stored_is (subst (λ (text : List ℕ). Writes (other_catalog_text stored text) w) given_is t.reported);
            };
          };
          cause = tt;
        })
    run_refused (recovery.OtherCatalog stored given) refuses ended (inr t) = subst CameSo (sym t.is) (short_of_memory refuses.0.moments t.reported)
    run_refused recovery.Nothing refuses ended t = let no : Some catalog ≡ None = refuses.1 in absurd (cc)

  -- a refusal of a recovery
  abbrev RecoveredSo : Status → Type 0
  RecoveredSo ended = RecoversTo mode limit ended w change

  nothing_told : (ended : Status) → (kind.tells → IsEmpty (kind.seen old)) → OnlyRead change → WritesWhole ended nothing_text w → RecoveredSo ended
  nothing_told Done empty before wrote = record { came = inl (record { empty = empty; only_read = before; written = wrote.0 }); cause = tt }
  nothing_told WriteFault empty before wrote = record { came = inl (record { empty = empty; only_read = before; written = wrote.0 }); cause = wrote.1 }
  nothing_told Usage empty before wrote = absurd wrote
  nothing_told Differs empty before wrote = absurd wrote
  nothing_told Input empty before wrote = absurd wrote
  nothing_told ReadFault empty before wrote = absurd wrote
  nothing_told Disk empty before wrote = absurd wrote
  nothing_told NoMemory empty before wrote = absurd wrote
  nothing_told Foreign empty before wrote = absurd wrote
  nothing_told OtherMode empty before wrote = absurd wrote
  nothing_told OtherCatalog empty before wrote = absurd wrote
  nothing_told Limit empty before wrote = absurd wrote

  pub recovery_refused : (error : RecoverError) → RefusesAsSaid kind mode None old new error → (ended : Status) → TellsRefusal error ended w → RecoveredSo ended
  recovery_refused recovery.NoMemory refuses ended t = subst RecoveredSo (sym t.is) (record { came = inl (record { nothing_ran = λ true'. (refuses true').moments; written = t.reported }); cause = tt })
  recovery_refused recovery.DiskFault refuses ended t = subst RecoveredSo (sym t.is) (record { came = inl (record { nothing_ran = λ true'. (refuses.0 true').moments; written = t.reported }); cause = refuses.1 })
  recovery_refused (recovery.Foreign file at) refuses ended (inl t) =
      subst RecoveredSo (sym t.is) (record { came = record { file = file; place = at; fault = refuses.1; ends = record { only_read = was_read refuses.0; written = t.reported } }; cause = tt })
  recovery_refused (recovery.Foreign file at) refuses ended (inr t) = subst RecoveredSo (sym t.is) (record { came = inl (record { nothing_ran = as_before_ran_nothing None refuses.0.moments; written = t.reported }); cause = tt })
  recovery_refused (recovery.OtherMode stored) refuses ended t =
      let other = refuses.1 in
      subst RecoveredSo (sym t.is) (record {
        came = record {
          stored = stored;
          another = other.another;
          catalog = other.theirs;
          accepted = other.own.0;
          store = other.store;
          ends = record { only_read = was_read refuses.0; written = t.reported };
        };
        cause = tt;
      })
  recovery_refused (recovery.OtherCatalog stored given) refuses ended t = let no : None ≡ Some refuses.1.ours = refuses.1.is_given in absurd (cc)
  recovery_refused recovery.Nothing refuses ended t = nothing_told ended refuses.2 (was_read refuses.0) t

-- the texts that are told of a refusal are UTF-8
pub texts_told : {D : Type 0} (kind : DiskKind D) (mode : Mode) (given : Option Catalog) (old new : D) (error : RecoverError)
    → RefusesAsSaid kind mode given old new error → IfSome given IsOwnCatalog → HasTexts error
texts_told kind mode given old new recovery.NoMemory refuses own = tt
texts_told kind mode given old new recovery.DiskFault refuses own = tt
texts_told kind mode given old new (recovery.Foreign file at) refuses own = tt
texts_told kind mode given old new (recovery.OtherMode stored) refuses own = tt
texts_told kind mode given old new (recovery.OtherCatalog stored text) refuses own =
    let other = refuses.1 in
    let ours : IsOwnCatalog other.ours = subst (λ o. IfSome o IsOwnCatalog) other.is_given own in
    (subst IsUtf8 (sym other.stored_is) other.own.1.utf8, subst IsUtf8 (sym other.text_is) ours.1.utf8)
texts_told kind mode given old new recovery.Nothing refuses own = tt

-- what was recovered in a mode is had again in that
pub recovered_mode : {D : Type 0} (kind : DiskKind D) (mode : Mode) (r : Recovered D) → mode_of (recovery_of kind mode r) ≡ mode
recovered_mode kind modes.Strong r = refl
recovered_mode kind modes.Weak r = refl

-- the same where no client started
pub unstarted : {D : Type 0} (kind : DiskKind D) (mode : Mode) (every : Option ℕ) (limit : ℕ) (printing : Printing) (requests : List Request) (w : SinkChange) (old new : D) (r : Recovered D)
    → new ≡ r.log.disk → IsOpenedFor kind mode old r → Writes no_memory_text w → ComesTo mode every limit printing r.catalog requests NoMemory w (disk_of kind old new)
unstarted kind mode every limit printing requests w old new r same opened reported =
    subst (λ disk. ComesTo mode every limit printing r.catalog requests NoMemory w (disk_of kind old disk)) (sym same)
    (record { came = inr (inl (record { recovery = recovery_of kind mode r; of_mode = recovered_mode kind mode r; db = recovered_database r; first = r.first; opened = opened.opened; written = reported })); cause = tt })

-- what was recovered is opened, and a strong store as one of each catalogue with more bodies too
module _ {D : Type 0} (kind : DiskKind D) (mode : Mode) (given : Option Catalog) (parts : ℕ) (old : D) (r : Recovered D) (laws : GrowthLaws) (is : IsRecovered kind mode given parts old r (recovered_database r))
    (later : kind.faults old ≤ kind.faults r.log.disk) where
  opened : Opened (recovery_of kind mode r) r.catalog (recovered_database r) r.first (disk_of kind old r.log.disk)
  opened = record {
    whole = is.goes_on.ready.whole;
    began = is.goes_on.began;
    stood = is.stood;
    crashes = is.moments;
    receipts_stay = λ list honestly. is.stands_on honestly r.catalog (still r.catalog is.own.1 is.own.0) list;
    settled = is.goes_on.log.only;
    faults = later;
  }

  pub recovered_opened : IsOpenedFor kind mode old r
  recovered_opened = record {
    opened = opened;
    was = is.was;
    each = λ strong more grows.
        let as_strong = subst (λ (m : Mode). Opened (recovery_of kind m r) r.catalog (recovered_database r) r.first (disk_of kind old r.log.disk)) strong opened in
        opened_more laws r.catalog more is.own grows kind (recovered_database r) r.first old r.log.disk as_strong
        (λ list. subst (λ (m : Mode). ReceiptsStay (recovery_of kind m r) more list (disk_of kind old r.log.disk)) strong (λ honestly. is.stands_on honestly more grows list));
    each_was = λ strong more grows told. holds_more laws r.catalog more is.own grows (kind.seen old) (subst (λ (m : Mode). IsEmpty (kind.seen old) ⊎ IsStore m (kind.seen old) r.catalog) strong (is.was told));
  }

-- a store that was recovered without a catalogue was there before
pub was_stored : {D : Type 0} (kind : DiskKind D) (mode : Mode) (parts : ℕ) (old : D) (r : Recovered D) (e : IsRecovered kind mode None parts old r (recovered_database r))
    → (kind.tells → IsEmpty (kind.seen old) → ⊥) → kind.tells → IsStore mode (kind.seen old) r.catalog
was_stored kind mode parts old r is not_empty told = by (is.was told)
  where
    by : IsEmpty (kind.seen old) ⊎ IsStore mode (kind.seen old) r.catalog → IsStore mode (kind.seen old) r.catalog
    by (inl empty) = absurd (not_empty told empty)
    by (inr store) = store

-- a recovered store is what a recovery came to
pub store_recovered : (mode : Mode) (limit : ℕ) (catalog : Catalog) (disk : DiskChange) (w : SinkChange) → Accepted catalog → (disk.tells → IsStore mode disk.seen_before catalog) → (ended : Status) → (ended ≡ OtherCatalog → ⊥)
    → (requests : List Request) → requests ≡ [] → ComesTo mode None limit InFull catalog requests ended w disk → RecoversTo mode limit ended w disk
store_recovered mode limit catalog disk w accepted stored ended own requests none came = record { came = by ended own (subst (λ rs. CameTo mode None limit InFull catalog rs ended w disk) none came.came); cause = came.cause }
  where
    by : (s : Status) → (s ≡ OtherCatalog → ⊥) → CameTo mode None limit InFull catalog [] s w disk → RecoveredTo mode limit s w disk
    by Done own came = inr (record { catalog = catalog; accepted = accepted; stored = stored; came = came })
    by WriteFault own came = inr (record { catalog = catalog; accepted = accepted; stored = stored; came = came })
    by Disk own came = inr (record { catalog = catalog; accepted = accepted; stored = stored; came = came })
    by NoMemory own came = inr (record { catalog = catalog; accepted = accepted; stored = stored; came = came })
    by Limit own came = record { catalog = catalog; accepted = accepted; stored = stored; came = came }
    by Foreign own came = came
    by OtherMode own came = came
    by OtherCatalog own came = absurd (own refl)
    by Usage own came = absurd came
    by Differs own came = absurd came
    by Input own came = absurd came
    by ReadFault own came = absurd came
