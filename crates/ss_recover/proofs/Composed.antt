-- What holds behind a run that only reads holds from its beginning.
use Rattle.std.proofs.Common.{◌≡◌, ◌∙◌, ◌⊎◌, inl, inr, ℕ, ◌≤◌, Option, Result, Ok, Err, subst, sym}
use Rattle.ss_disk.specs.Kinds.{DiskKind}
use Rattle.ss_model.specs.declared.catalog.Catalog.{Catalog}
use Rattle.ss_model.specs.declared.entry.Mode.{Mode}
use Rattle.ss_model.specs.Database.{Database as Model}
use Rattle.ss_disk.specs.Files.{Files}
use Rattle.ss_disk.proofs.CallerLemmas.{stays_fewer, stays_join}
use Rattle.ss_cmdlog.specs.Opening.{OnlyReads}
use Rattle.ss_cmdlog.specs.Store.{IsEmpty}
use Rattle.ss_cmdlog.proofs.CallerLemmas.{reads_join}
use Rattle.ss_fronts.specs.Fronts.{AtLeast, StoodAs}
use Rattle.ss_recover.specs.declared.recovered.Recovered.{Recovered}
use Rattle.ss_recover.specs.declared.error.RecoverError.{RecoverError}
use Rattle.ss_recover.specs.declared.error.RecoverError.TheVariants.{NoMemory, DiskFault, Foreign, OtherMode, OtherCatalog, Nothing}
use Rattle.ss_recover.specs.Faults.{HasFaultAt, IsStore}
use Rattle.ss_recover.specs.Recovering.{IsRecovered, MayBegin, MayHaveFormed, MayMake, RefusesAsSaid, TellsFaults, recovery_of}
use Rattle.ss_recover.proofs.Moments.{only_that, since, makes_since, rose_since}
use Rattle.ss_recover.proofs.Recoveries.{stood_front}

module _ {D : Type 0} (kind : DiskKind D) (told_by : kind.honest → kind.tells) (mode : Mode) (given : Option Catalog) (old mid : D)
    (reads : OnlyReads kind old mid) where
  pub recovered_since : (parts : ℕ) (r : Recovered D) (db : Model) → IsRecovered kind mode given parts mid r db → IsRecovered kind mode given parts old r db
  recovered_since parts r db is =
      let recovery = recovery_of kind mode r in
      let stood : kind.tells → StoodAs recovery r.catalog db r.first (kind.seen old) = λ told. subst (λ (d : Files). StoodAs recovery r.catalog db r.first d) (reads.same told) (is.stood told) in
      let moments = λ (true' : kind.honest). since kind old mid r.log.disk _ _ (reads.moments true') (λ image s. s) (is.moments true') in
      record {
        own = is.own;
        given_one = is.given_one;
        goes_on = is.goes_on;
        was = λ told. subst (λ (d : Files). IsEmpty d ⊎ IsStore mode d r.catalog) (reads.same told) (is.was told);
        stood = stood;
        moments = moments;
        stands_on = λ true' more grows list n.
            let P = AtLeast recovery more list n in
            stays_join kind.moment kind.images P (kind.moment old) mid r.log.disk _ (stays_fewer kind.moment kind.images P (kind.moment old) mid (reads.fewer true')) (is.moments true') (is.stands_on true' more grows list n);
        quiet = λ true' only.
            let told = told_by true' in
            only_that kind old r.log.disk (kind.seen old) _ only (stood_front recovery r.catalog db r.first (kind.seen old) (is.goes_on.began told) (stood told)) (moments true');
      }

  -- a store that may have been made behind it
  formed_since : (new : D) → kind.honest → MayHaveFormed kind mode given mid new → MayHaveFormed kind mode given old new
  formed_since new true' is = record {
    moments = since kind old mid new _ _ (reads.moments true') (λ image. makes_since mode given (kind.seen old) (kind.seen mid) image same) is.moments;
    reads = by is.reads;
    stands_on = λ catalog more given_is grows recovery of_mode may list n.
        let P = AtLeast recovery more list n in
        let begins : MayBegin recovery more (kind.seen mid) = subst (MayBegin recovery more) (sym same) may in
        stays_join kind.moment kind.images P (kind.moment old) mid new _ (stays_fewer kind.moment kind.images P (kind.moment old) mid (reads.fewer true')) is.moments
        (is.stands_on catalog more given_is grows recovery of_mode begins list n);
  }
    where
      same : kind.seen mid ≡ kind.seen old
      same = reads.same (told_by true')

      by : (kind.seen new ≡ kind.seen mid) ⊎ MayMake mode given (kind.seen mid) (kind.seen new) → (kind.seen new ≡ kind.seen old) ⊎ MayMake mode given (kind.seen old) (kind.seen new)
      by (inl stays) = inl (stays ∙ same)
      by (inr makes) = inr (makes_since mode given (kind.seen old) (kind.seen mid) (kind.seen new) same makes)

  module _ (new : D) (later : kind.faults old ≤ kind.faults mid) where
    pub refused_since : (e : RecoverError) → RefusesAsSaid kind mode given mid new e → RefusesAsSaid kind mode given old new e
    refused_since NoMemory is = λ true'. formed_since new true' (is true')
    refused_since DiskFault is =
        (λ true'. formed_since new true' (is.0 true'), rose_since (kind.faults old) (kind.faults mid) (kind.faults new) later is.1)
    refused_since (Foreign which at) is =
        (reads_join kind old mid new reads is.0, λ told. subst (λ (d : Files). HasFaultAt d which at) (reads.same told) (is.1 told))
    refused_since (OtherMode stored) is =
        let other = is.1 in (
          reads_join kind old mid new reads is.0,
          record {
            another = other.another;
            theirs = other.theirs;
            own = other.own;
            store = λ told. subst (λ (d : Files). IsStore stored d other.theirs) (reads.same told) (other.store told);
          },
        )
    refused_since (OtherCatalog stored text) is =
        let other = is.1 in (
          reads_join kind old mid new reads is.0,
          record {
            ours = other.ours;
            is_given = other.is_given;
            text_is = other.text_is;
            theirs = other.theirs;
            own = other.own;
            stored_is = other.stored_is;
            store = λ told. subst (λ (d : Files). IsStore mode d other.theirs) (reads.same told) (other.store told);
            another = other.another;
          },
        )
    refused_since Nothing is = (reads_join kind old mid new reads is.0, is.1, λ told. subst IsEmpty (reads.same told) (is.2 told))

-- that the disk failed is told from the beginning
pub told_since : {D : Type 0} (kind : DiskKind D) (old mid : D) (result : Result (Recovered D) (RecoverError × D)) → kind.faults mid ≡ kind.faults old → TellsFaults kind mid result → TellsFaults kind old result
told_since kind old mid (Ok r) still told = told ∙ still
told_since kind old mid (Err refused) still told = λ other. told other ∙ still
