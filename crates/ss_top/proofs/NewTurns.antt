-- What the first store that could be opened comes to.
use Rattle.std.proofs.Common.{◌≡◌, ◌∙◌, ◌≤◌, ◌<◌, ◌^◌, ◌⊎◌, inl, inr, ℕ, suc, Bool, true, List, [], sym, subst, Some, None, arith, is_some, refl}
use Rattle.std.specs.Prelude.{Option}
use Rattle.ss_model.specs.declared.catalog.Catalog.{Catalog}
use Rattle.ss_model.specs.declared.entry.Mode.{Mode}
use Rattle.ss_model.specs.declared.entry.Mode.TheVariants as modes
use Rattle.ss_model.specs.declared.entry.Request.{Request}
use Rattle.ss_model.specs.Recovery.{Strong}
use Rattle.ss_disk.specs.Kinds.{DiskKind}
use Rattle.ss_headline.specs.Disks.{DiskChange, disk_of}
use Rattle.ss_headline.specs.Layers.{Closed, Receipted}
use Rattle.ss_headline.specs.Sentences.{room_from}
use Rattle.ss_value.specs.FaultCounts.{Rose}
use Rattle.ss_incarnations.specs.Reopening.{FirstIncarnation}
use Rattle.ss_engine.specs.declared.session.run.Finished.{Finished}
use Rattle.ss_recover.specs.declared.recovered.Recovered.{Recovered}
use Rattle.ss_snapshot.specs.Bodies.{GrowsTo}
use Rattle.ss_recover.specs.Recovering.{GoesOn, IsOwnCatalog, recovered_database, recovery_of}
use Rattle.ss_resume.specs.declared.past.Past.{Past}
use Rattle.ss_refusals.specs.declared.status.Status.{Status}
use Rattle.ss_refusals.specs.declared.status.Status.TheVariants.{Disk, NoMemory}
use Rattle.ss_refusals.specs.Sinks.{SinkChange}
use Rattle.ss_top.specs.declared.over.Begun.{Begun}
use Rattle.ss_top.specs.declared.over.Turn.TheVariants.{Over, Short, Failed}
use Rattle.ss_top.specs.declared.session.Printing.{Printing}
use Rattle.ss_top.specs.declared.session.Reported.{Reported}
use Rattle.ss_top.specs.Over.{RoseBy}
use Rattle.ss_top.specs.Runs.{Reports, ReportsAs, ReportsFinished, TellsDiskFault, TellsFinished, TellsReport}
use Rattle.ss_top.specs.Serving.{IsOpenedFor}
use Rattle.ss_top.specs.Stores.{CameTo}
use Rattle.ss_top.specs.Turns.{HasCome, IsPast, MayGoOn, RanFrom, ServesNew}
use Rattle.ss_top.proofs.Growing.{GrowthLaws, closed_more, receipted_more}
use Rattle.ss_top.proofs.Lasting.{rose_at, was_closed, was_receipted}
use Rattle.ss_top.proofs.Running.{answered_failed}
use Rattle.ss_top.proofs.Storing.{recovered_mode, session_told}
use Rattle.ss_top.proofs.Turning.{first_past, later_over, later_short, once_over, once_short, rose_keeps, rose_more, said_failed, said_may, small_halt}

module _ {D : Type 0} (kind : DiskKind D) (mode : Mode) (every : Option ℕ) (limit : ℕ) (printing : Printing) (requests : List Request) (last : Bool) (r : Recovered D) where
  abbrev change : D → D → DiskChange
  change = disk_of kind

  abbrev opening : D
  opening = r.log.disk

  -- what was opened as a strong store is one of this mode
  opened_so : mode ≡ modes.Strong → (old : D) → IsOpenedFor kind modes.Strong old r → IsOpenedFor kind mode old r
  opened_so strong old opened = subst (λ (m : Mode). IsOpenedFor kind m old r) (sym strong) opened

  -- and what came of one of this mode is of a strong one
  of_strong : mode ≡ modes.Strong → (status : Status) (w : SinkChange) (disk : DiskChange) → CameTo mode every limit printing r.catalog requests status w disk → CameTo modes.Strong every limit printing r.catalog requests status w disk
  of_strong strong status w disk came = subst (λ (m : Mode). CameTo m every limit printing r.catalog requests status w disk) strong came

  -- no client started
  opened_short : (w : SinkChange) (ended : Status) (old : D) → TellsReport NoMemory None ended w → IsOpenedFor kind mode old r → CameTo mode every limit printing r.catalog requests NoMemory w (change old opening)
  opened_short w ended old tells opened =
      inr (inl (record { recovery = recovery_of kind mode r; of_mode = recovered_mode kind mode r; db = recovered_database r; first = r.first; opened = opened.opened; written = tells.reported }))

  pub short_new : ServesNew kind mode every limit printing r.catalog requests last r (Short opening)
  short_new = record {
    once = λ old opened same w ended tells. once_short kind mode every limit printing r.catalog requests last old opening opened.opened.faults w ended tells (opened_short w ended old tells opened);
    later = λ strong again old least rose opened w ended tells.
        later_short kind mode every limit printing r.catalog requests last again old opening least rose w ended tells
        (λ true'. inl (of_strong strong NoMemory w (change old opening) (opened_short w ended old tells (opened_so strong old (opened true')))));
  }

  module _ (parts : ℕ) (own : IsOwnCatalog r.catalog) (goes : GoesOn kind mode parts r (recovered_database r)) (finished : Finished D)
      (ran : RanFrom kind (recovery_of kind mode r) every limit r.catalog (recovered_database r) r.first requests [] r.log finished) where
    abbrev new : D
    new = finished.log.disk

    -- its disk counts no fewer faults
    more : kind.faults opening ≤ kind.faults new
    more = ran.1.ends.holds.later

    abbrev past : Past
    past = record { list = finished.closed.list; first = r.first; answers = finished.closed.answers; receipted = finished.receipted }

    -- what it leaves may go on
    pub goes_on_new : MayGoOn requests past
    goes_on_new = record { told = λ client. (ran.1.ends.run.told client).many; small = let within = ran.1.ends.run.within in let few = goes.few in omega (arith, within, few) }

    -- it was reported: with status 5 at the last opening alone
    module _ (reported : Reported D) (is_new : reported.disk ≡ new) (reports : ReportsFinished kind printing requests r.first finished reported) (tells : TellsFinished kind requests r.first finished reported)
        (said : ReportsAs printing requests r.first finished reported.status reported.text) (unless : (last ≡ true) ⊎ (is_some finished.log.halted ≡ true → ⊥)) where
      at_last : reported.status ≡ Disk → last ≡ true
      at_last is = by unless
        where
          by : (last ≡ true) ⊎ (is_some finished.log.halted ≡ true → ⊥) → last ≡ true
          by (inl all) = all
          by (inr going) = absurd (going (said_failed printing requests r.first finished reported.status reported.text said is))

      of_new : (old : D) → IsOpenedFor kind mode old r → Reports mode every limit printing r.catalog requests reported.status reported.text (change old reported.disk)
      of_new old opened =
          subst (λ (m : Mode). Reports m every limit printing r.catalog requests reported.status reported.text (change old reported.disk)) (recovered_mode kind mode r)
          (reports (recovery_of kind mode r) every limit ran.0 r.catalog (recovered_database r) old r.log goes.few own.0 goes.ready.whole.in_step opened.opened ran.1)

      told : TellsDiskFault reported.status (kind.faults opening) (kind.faults reported.disk)
      told = tells (recovery_of kind mode r) every (room_from limit r.first) ran.0 [] r.catalog (recovered_database r) r.log ran.1

      up : kind.faults opening ≤ kind.faults reported.disk
      up = subst (λ (d : D). kind.faults opening ≤ kind.faults d) (sym is_new) more

      pub over_new : ServesNew kind mode every limit printing r.catalog requests last r (Over reported)
      over_new = record {
        once = λ old opened same.
            once_over kind mode every limit printing r.catalog requests last reported.status reported.text (said_may printing requests r.first finished reported.status reported.text said) at_last old reported.disk
            (omega (arith, up, same)) opened.was (of_new old opened) (subst (λ (n : ℕ). TellsDiskFault reported.status n (kind.faults reported.disk)) same told);
        later = λ strong again old least so_far opened w ended tells'.
            later_over kind mode every limit printing r.catalog requests last reported.status reported.text (said_may printing requests r.first finished reported.status reported.text said) at_last old reported.disk
            (omega (arith, least, up)) again (rose_keeps (suc again) (kind.faults old) (kind.faults opening) (kind.faults reported.disk) so_far up)
            (λ is. rose_more (suc again) (kind.faults old) (kind.faults opening) (kind.faults reported.disk) so_far (counted is)) w ended tells'
            (λ true'. inl (later_so strong old (opened_so strong old (opened true')) w ended tells'));
      }
        where
          counted : reported.status ≡ Disk → Rose (kind.faults opening) (kind.faults reported.disk)
          counted is = subst (λ (d : D). Rose (kind.faults opening) (kind.faults d)) (sym is_new)
              (rose_at (kind.faults opening) (kind.faults new) finished.log.halted ran.1.ends.fault ran.1.ends.holds.halt (said_failed printing requests r.first finished reported.status reported.text said is))

          later_so : mode ≡ modes.Strong → (old : D) → IsOpenedFor kind mode old r → (w : SinkChange) (ended : Status) → TellsReport reported.status reported.text ended w
              → CameTo modes.Strong every limit printing r.catalog requests ended w (change old reported.disk)
          later_so strong old opened w ended tells' =
              of_strong strong ended w (change old reported.disk)
              (session_told mode every limit printing r.catalog requests (change old reported.disk) opened.was w reported.status reported.text (of_new old opened) ended tells').came

-- ---- the disk of a strong store has failed, and another opening may follow

module _ {D : Type 0} (kind : DiskKind D) (every : Option ℕ) (limit : ℕ) (printing : Printing) (requests : List Request) (last : Bool) (r : Recovered D)
    (parts : ℕ) (own : IsOwnCatalog r.catalog) (goes : GoesOn kind modes.Strong parts r (recovered_database r)) (finished : Finished D)
    (ran : RanFrom kind Strong every limit r.catalog (recovered_database r) r.first requests [] r.log finished) where
  abbrev from : D
  from = r.log.disk

  abbrev till : D
  till = finished.log.disk

  abbrev past_of : Past
  past_of = record { list = finished.closed.list; first = r.first; answers = finished.closed.answers; receipted = finished.receipted }

  abbrev begun_of : Begun
  begun_of = record { past = past_of; catalog = finished.closed.catalog }

  failed_strong : GrowthLaws → FirstIncarnation kind → is_some finished.log.halted ≡ true → ((f : ℕ) → finished.log.halted ≡ Some f → f < 2 ^ 64)
      → ServesNew kind modes.Strong every limit printing r.catalog requests last r (Failed (Some begun_of) till)
  failed_strong laws first_law some small = record { once = once; later = λ strong. later }
    where
      up : kind.faults from ≤ kind.faults till
      up = ran.1.ends.holds.later

      rose : Rose (kind.faults from) (kind.faults till)
      rose = rose_at (kind.faults from) (kind.faults till) finished.log.halted ran.1.ends.fault ran.1.ends.holds.halt some

      closed : Closed Strong r.catalog (recovered_database r) r.first finished.closed.list (disk_of kind from till)
      closed = was_closed kind Strong every r.catalog (recovered_database r) r.first (room_from limit r.first) ran.0 requests [] r.log finished ran.1

      receipted : Receipted Strong r.catalog (recovered_database r) r.first finished.closed.list finished.receipted (disk_of kind from till)
      receipted = was_receipted kind Strong every r.catalog (recovered_database r) r.first (room_from limit r.first) ran.0 requests [] r.log finished ran.1

      -- as one of each catalogue with more bodies
      is_past : (again : ℕ) (old : D) → IsOpenedFor kind modes.Strong old r → (more : Catalog) → GrowsTo finished.closed.catalog more → IsPast kind limit more requests (suc again) old till past_of
      is_past again old opened more grows =
          let grown : GrowsTo r.catalog more = subst (λ (c : Catalog). GrowsTo c more) ran.1.ends.run.catalog_is grows in
          let whole = opened.opened.whole in
          first_past kind modes.Strong every limit printing more requests again old (recovered_database r) r.first r.log finished (opened.each_was refl more grown) (opened.each refl more grown)
          (closed_more laws r.catalog more own grown (recovered_database r) r.first finished.closed.list whole closed.replays kind from till closed)
          (receipted_more laws r.catalog more own grown (recovered_database r) r.first finished.closed.list whole closed.replays kind from till finished.receipted receipted)
          ran.1.ends.run.within ran.1.ends.run.stops first_law
          (answered_failed kind Strong every limit printing r.catalog (recovered_database r) r.first ran.0 requests old r.log finished goes.few own.0 goes.ready.whole.in_step opened.opened ran.1
          (small_halt (kind.faults from) (kind.faults till) finished.log.halted ran.1.ends.fault ran.1.ends.holds.halt small))

      once : (old : D) → IsOpenedFor kind modes.Strong old r → kind.faults from ≡ kind.faults old → HasCome kind limit r.catalog requests 1 old till (Some begun_of)
      once old opened same = (omega (arith, up, same), omega (arith, rose, same), λ true'. is_past 0 old opened)

      later : (again : ℕ) (old : D) → kind.faults old ≤ kind.faults from → RoseBy (suc again) (kind.faults old) (kind.faults from) → (kind.honest → IsOpenedFor kind modes.Strong old r)
          → HasCome kind limit r.catalog requests (suc (suc again)) old till (Some begun_of)
      later again old least so_far opened = (omega (arith, least, up), rose_more (suc again) (kind.faults old) (kind.faults from) (kind.faults till) so_far rose, λ true'. is_past (suc again) old (opened true'))

-- as a store of this mode
-- its log is one of the mode in which it goes on
pub log_mode : {D : Type 0} (kind : DiskKind D) (mode : Mode) (parts : ℕ) (r : Recovered D) → GoesOn kind mode parts r (recovered_database r) → r.log.mode ≡ mode
log_mode kind mode parts r goes = goes.log.of_mode ∙ goes.of_mode

-- a run behind it in the mode of its log is one in each mode in which it goes on
pub ran_in : {D : Type 0} (kind : DiskKind D) (mode : Mode) (every : Option ℕ) (limit : ℕ) (requests : List Request) (r : Recovered D) (parts : ℕ) → GoesOn kind mode parts r (recovered_database r)
    → (finished : Finished D) → RanFrom kind (recovery_of kind r.log.mode r) every limit r.catalog (recovered_database r) r.first requests [] r.log finished
    → RanFrom kind (recovery_of kind mode r) every limit r.catalog (recovered_database r) r.first requests [] r.log finished
ran_in kind mode every limit requests r parts goes finished ran =
    subst (λ (m : Mode). RanFrom kind (recovery_of kind m r) every limit r.catalog (recovered_database r) r.first requests [] r.log finished) (log_mode kind mode parts r goes) ran

pub failed_new : {D : Type 0} (kind : DiskKind D) (mode : Mode) (every : Option ℕ) (limit : ℕ) (printing : Printing) (requests : List Request) (last : Bool) (r : Recovered D) (parts : ℕ) → mode ≡ modes.Strong → IsOwnCatalog r.catalog
    → GoesOn kind mode parts r (recovered_database r) → (finished : Finished D) → RanFrom kind (recovery_of kind mode r) every limit r.catalog (recovered_database r) r.first requests [] r.log finished
    → GrowthLaws → FirstIncarnation kind → is_some finished.log.halted ≡ true → ((f : ℕ) → finished.log.halted ≡ Some f → f < 2 ^ 64)
    → ServesNew kind mode every limit printing r.catalog requests last r
    (Failed (Some (record { past = record { list = finished.closed.list; first = r.first; answers = finished.closed.answers; receipted = finished.receipted }; catalog = finished.closed.catalog })) finished.log.disk)
failed_new kind modes.Strong every limit printing requests last r parts strong own goes finished ran laws first_law some small = failed_strong kind every limit printing requests last r parts own goes finished ran laws first_law some small
failed_new kind modes.Weak every limit printing requests last r parts strong own goes finished ran laws first_law some small = let no : modes.Weak ≡ modes.Strong = strong in absurd (cc)
