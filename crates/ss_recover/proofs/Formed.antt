-- A store that was made.
use Rattle.std.proofs.Common.{◌≡◌, ◌⊎◌, inl, inr, ℕ, true, List, [], Option, Some, refl, arith, subst, sym}
use Rattle.ss_disk.specs.Kinds.{DiskKind, present}
use Rattle.ss_model.specs.declared.catalog.Catalog.{Catalog}
use Rattle.ss_model.specs.declared.entry.Listed.{Listed}
use Rattle.ss_model.specs.declared.entry.Mode.{Mode}
use Rattle.ss_model.specs.declared.entry.Mode.TheVariants as modes
use Rattle.ss_model.specs.Database.{Database as Model, empty_database, own_bodies}
use Rattle.ss_model.specs.WholeDatabase.{WholenessStays}
use Rattle.ss_model_laws.proofs.CallerLemmas.{empty_whole}
use Rattle.ss_weak_lists.specs.WeakLists.{KeptCarriesWeak, WeakListsHoldAsked}
use Rattle.ss_disk.specs.Files.{Files}
use Rattle.ss_disk.specs.Moments.{LeavesOnly}
use Rattle.ss_disk.proofs.CallerLemmas.{no_call, leaves_less, stays_none}
use Rattle.ss_shard.specs.declared.database.Database.{Database}
use Rattle.ss_shard.specs.Databases.{StandsFor as HoldsModel}
use Rattle.ss_shard.specs.Parts.{IsWholeShard}
use Rattle.ss_cmdlog.specs.declared.log.CmdLog.{CmdLog}
use Rattle.ss_cmdlog.specs.declared.log.LogError.{LogError}
use Rattle.ss_cmdlog.specs.declared.log.LogError.TheVariants as log
use Rattle.ss_cmdlog.specs.Formatting.{LeavesSome, fresh}
use Rattle.ss_cmdlog.specs.Generation.{Stood}
use Rattle.ss_cmdlog.specs.Log.{HasCallCause, IsAddRefusal, IsOpen}
use Rattle.ss_cmdlog.specs.Store.{IsEmpty, StandsFor}
use Rattle.ss_snapshot.specs.Bodies.{GrowsTo}
use Rattle.ss_snapshot.proofs.BodiesRead.{still}
use Rattle.ss_standing.specs.Checkpoints.{ImagesAreRead}
use Rattle.ss_standing.specs.FitsImage.{FitBodies}
use Rattle.ss_standing.specs.Image.{empty_image_of}
use Rattle.ss_standing.specs.Keeping.{OneThingStandsOn}
use Rattle.ss_standing.specs.Laws.{FormingStands}
use Rattle.ss_standing.specs.Standing.{IsImageAt}
use Rattle.ss_fronts.specs.Fronts.{AtLeast, StandsOnBy, StoodAs}
use Rattle.ss_recover.specs.declared.recovered.Recovered.{Recovered}
use Rattle.ss_recover.specs.Errors.{forming_refusal}
use Rattle.ss_recover.specs.Recovering.{IsOwnCatalog, IsRecovered, LeadsTo, MayHaveFormed, MayMake, RefusesAsSaid, StandsForIt, recovery_of}
use Rattle.ss_recover.proofs.FormedOn.{begun_more, fresh_stood, read_so, stands_so, start_image, strong_more, weak_more}
use Rattle.ss_recover.proofs.Images.{no_list}
use Rattle.ss_recover.proofs.Recoveries.{RunsFrom, origin, origin_image, recovery_by, runs_from, same_kept, stood_front}

module _ {D : Type 0} (kind : DiskKind D) (told_by : kind.honest → kind.tells) (mode : Mode) (catalog : Catalog) (own : IsOwnCatalog catalog)
    (forming : FormingStands) (fit : FitBodies true catalog (own_bodies catalog)) (image : List ℕ) (spelled : image ≡ empty_image_of catalog) (old : D) (empty : kind.tells → IsEmpty (kind.seen old)) where
  abbrev new_one : Stood
  new_one = fresh mode image

  abbrev start : Model
  start = empty_database catalog

  its_image : IsImageAt catalog true 0 image start
  its_image = start_image mode catalog own.0 forming fit image spelled

  leads : LeadsTo catalog new_one [] 0 start
  leads = record {
    opening = start;
    image = its_image;
    entries = no_list mode catalog own.0;
    replays = tt;
    placed = refl;
    reached = refl;
  }

  -- ---- a store that was made

  module _ (again : ImagesAreRead) (stays : WholenessStays) (carries : KeptCarriesWeak) (hold : WeakListsHoldAsked) where
    runs : RunsFrom (recovery_by mode catalog [] new_one) catalog new_one start 0
    runs = runs_from again stays carries hold catalog own.0 new_one [] 0 start leads refl mode refl

    -- where its history begins
    abbrev made_from : Model
    made_from = (origin again stays catalog own.0 new_one start its_image []).db

    made_stood : (m : Mode) → mode ≡ m → (crashed : Files) → IsEmpty crashed ⊎ StandsFor crashed new_one → StoodAs (recovery_by m catalog [] new_one) catalog start 0 crashed
    made_stood modes.Strong is crashed either = stands_so mode catalog own.0 forming fit image spelled is crashed either
    made_stood modes.Weak is crashed either =
        read_so mode catalog own.0 forming fit image spelled is made_from (same_kept again stays catalog own.0 new_one start its_image []) (origin_image again stays catalog own.0 new_one start its_image []) crashed either

    module _ (one : OneThingStandsOn D kind.moment kind.images) (new : D) (run : LeavesOnly kind.moment kind.images old new (λ crashed. IsEmpty crashed ⊎ StandsFor crashed new_one)) (some : LeavesSome kind.moment kind.images (kind.moment old) new)
        (more : Catalog) (grows : GrowsTo catalog more) where
      made_on : (m : Mode) → mode ≡ m → (list : List Listed) → StandsOnBy (recovery_by m catalog [] new_one) more list kind.moment kind.images (kind.moment old) new
      made_on modes.Strong is list = strong_more mode catalog forming fit image spelled kind one old new run some more grows is list
      made_on modes.Weak is list = weak_more mode catalog forming fit image spelled kind one old new run some more grows stays is made_from (same_kept again stays catalog own.0 new_one start its_image []) list

    pub formed : (parts : ℕ) (database : Database) (log : CmdLog D) → IsWholeShard catalog parts database.whole → HoldsModel catalog database start → IsOpen kind log new_one → log.count ≡ 0
        → (kind.honest → LeavesOnly kind.moment kind.images old log.disk (λ crashed. IsEmpty crashed ⊎ StandsFor crashed new_one))
        → (kind.honest → LeavesSome kind.moment kind.images (kind.moment old) log.disk) → OneThingStandsOn D kind.moment kind.images
        → IsRecovered kind mode (Some catalog) parts old (record { database = database; catalog = catalog; first = 0; known = []; bodies = true; image = image; log = log }) start
    formed parts database log dealt holds is_open count run some one =
        let r : Recovered D = record { database = database; catalog = catalog; first = 0; known = []; bodies = true; image = image; log = log } in
        let recovery = recovery_of kind mode r in
        let stood : (crashed : Files) → IsEmpty crashed ⊎ StandsFor crashed new_one → StoodAs recovery catalog start 0 crashed = made_stood mode refl in
        let front : (crashed : Files) → IsEmpty crashed ⊎ StandsFor crashed new_one → StandsForIt kind mode r start crashed =
        λ crashed either. stood_front recovery catalog start 0 crashed runs.began (stood crashed either) in
        record {
          own = own;
          given_one = λ other is. (let same : catalog ≡ other = cc in subst (λ (c : Catalog). GrowsTo c catalog) same (still catalog own.1 own.0));
          goes_on = record {
            ready = record { whole = empty_whole catalog own.0; dealt = dealt; holds = holds };
            had = its_image.had;
            few = omega arith;
            s = new_one;
            of_mode = refl;
            formed = refl;
            log = is_open;
            count = count;
            read = new_one;
            read_image = record { form = refl; bytes = refl };
            leads = leads;
            behind = inl (refl, refl);
            began = λ told. runs.began;
            held = λ told. runs.held;
          };
          was = λ told. inl (empty told);
          stood = λ told. stood (kind.seen old) (inl (empty told));
          moments = λ true'. leaves_less kind.moment kind.images old log.disk _ _ (run true') (λ crashed either. inr (front crashed either));
          stands_on = λ true' more grows list. made_on one log.disk (run true') (some true') more grows mode refl list;
          quiet = λ true' only. leaves_less kind.moment kind.images old log.disk _ _ (run true') front;
        }

  -- ---- a store that may have been made

  may_form : (new : D) → LeavesOnly kind.moment kind.images old new (λ crashed. IsEmpty crashed ⊎ StandsFor crashed new_one) → kind.tells
      → LeavesOnly kind.moment kind.images old new (λ crashed. present kind old crashed ⊎ MayMake mode (Some catalog) (kind.seen old) crashed)
  may_form new run told = leaves_less kind.moment kind.images old new _ _ run (λ crashed either. inr (inl (empty told, fresh_stood mode catalog own.0 forming fit image spelled mode refl crashed either)))

  -- a crash, reads and receipts find an empty disk, or the new store
  may_have_formed : (new : D) → (kind.honest → LeavesOnly kind.moment kind.images old new (λ crashed. IsEmpty crashed ⊎ StandsFor crashed new_one)) → (kind.honest → LeavesSome kind.moment kind.images (kind.moment old) new)
      → KeptCarriesWeak → OneThingStandsOn D kind.moment kind.images → ((disk : D) → kind.honest → kind.images disk (kind.moment disk) (kind.seen disk)) → kind.honest → MayHaveFormed kind mode (Some catalog) old new
  may_have_formed new run some carries one sees true' =
      let left = run true' in
      let none = empty (told_by true') in
      record {
        moments = may_form new left (told_by true');
        reads = inr (inl (none, fresh_stood mode catalog own.0 forming fit image spelled mode refl (kind.seen new) (left.each (kind.moment new) (kind.seen new) left.later (omega arith) (sees new true'))));
        stands_on = λ other more is grows recovery of_mode may list.
            let same : catalog ≡ other = cc in
            begun_more mode catalog forming fit image spelled kind one old new left (some true') more (subst (λ (c : Catalog). GrowsTo c more) (sym same) grows) carries (kind.seen old) none recovery of_mode may list;
      }

  pub unformed : (new : D) (e : LogError) → IsAddRefusal e → HasCallCause (kind.faults old) (kind.faults new) e → (kind.honest → LeavesOnly kind.moment kind.images old new (λ crashed. IsEmpty crashed ⊎ StandsFor crashed new_one))
      → (kind.honest → LeavesSome kind.moment kind.images (kind.moment old) new) → KeptCarriesWeak → OneThingStandsOn D kind.moment kind.images → ((disk : D) → kind.honest → kind.images disk (kind.moment disk) (kind.seen disk))
      → RefusesAsSaid kind mode (Some catalog) old new (forming_refusal e)
  unformed new log.NoMemory may cause run some carries one sees = may_have_formed new run some carries one sees
  unformed new log.DiskFault may cause run some carries one sees = (may_have_formed new run some carries one sees, cause.rose refl)
  unformed new (log.Foreign which at) may cause run some carries one sees = absurd may
  unformed new (log.Halted n) may cause run some carries one sees = absurd may

-- before the disk is called nothing has changed
pub uncalled : {D : Type 0} (kind : DiskKind D) (mode : Mode) (given : Option Catalog) (disk : D)
    → kind.honest → MayHaveFormed kind mode given disk disk
uncalled kind mode given disk = λ true'. record {
  moments = no_call kind.moment kind.images disk _ (λ image left. inl left);
  reads = inl refl;
  stands_on = λ catalog more is grows recovery of_mode may list n. stays_none kind.moment kind.images (AtLeast recovery more list n) (kind.moment disk) disk (omega arith);
}
