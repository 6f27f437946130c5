-- What goes on standing while a store is made on an empty disk.
use Rattle.std.proofs.Common.{◌≡◌, ◌∙◌, ◌⊎◌, inl, inr, ℕ, true, List, [], ◌∷◌, Some, None, ap, refl, subst, sym}
use Rattle.ss_disk.specs.Kinds.{DiskKind}
use Rattle.ss_model.specs.declared.catalog.Body.{Body}
use Rattle.ss_model.specs.declared.catalog.Catalog.{Catalog}
use Rattle.ss_model.specs.declared.entry.Entry.{Entry}
use Rattle.ss_model.specs.declared.entry.Listed.{Listed}
use Rattle.ss_model.specs.declared.entry.Mode.{Mode}
use Rattle.ss_model.specs.declared.entry.Mode.TheVariants as modes
use Rattle.ss_model.specs.Accepted.{Accepted}
use Rattle.ss_model.specs.Asked.{listed_entries}
use Rattle.ss_model.specs.Database.{Database as Model, empty_database, own_bodies}
use Rattle.ss_model.specs.Recovery.{Origin, Recovery, Strong, Weak}
use Rattle.ss_model.specs.Settling.{IsWeakList, Settles, kept, next_settled}
use Rattle.ss_model.specs.SparesAside.{with_spares}
use Rattle.ss_model.specs.WholeDatabase.{WholeDatabase, WholenessStays}
use Rattle.ss_model_laws.proofs.CallerLemmas.{empty_whole}
use Rattle.ss_weak_lists.specs.WeakLists.{KeptCarriesWeak}
use Rattle.ss_disk.specs.Files.{Files}
use Rattle.ss_disk.specs.Moments.{LeavesOnly}
use Rattle.ss_cmdlog.specs.Formatting.{LeavesSome, fresh}
use Rattle.ss_cmdlog.specs.Generation.{Stood}
use Rattle.ss_cmdlog.specs.Store.{IsEmpty, StandsFor}
use Rattle.ss_snapshot.specs.Bodies.{GrowsTo}
use Rattle.ss_snapshot.proofs.CallerLemmas.{kept_with}
use Rattle.ss_standing.specs.FitsImage.{FitBodies, FitsImage}
use Rattle.ss_standing.specs.Image.{empty_image_of, image_bytes}
use Rattle.ss_standing.specs.Keeping.{OneThingStandsOn}
use Rattle.ss_standing.specs.Laws.{FormingStands}
use Rattle.ss_standing.specs.Standing.{IsImageAt}
use Rattle.ss_fronts.specs.Fronts.{StandsOnBy, StoodAs, fresh_recovery, mode_of}
use Rattle.ss_fronts.specs.WeakReads.{WeakReads}
use Rattle.ss_fronts.proofs.CallerLemmas.{had_alike}
use Rattle.ss_recover.specs.Recovering.{MayBegin}
use Rattle.ss_recover.proofs.FreshStands.{fresh_origin, fresh_stands_on, not_both}
use Rattle.ss_recover.proofs.Images.{empty_image_at, no_list}

-- where settling has no next step it runs none
none_settled : (catalog : Catalog) (d : Model) (list : List Listed) → next_settled catalog d ≡ None → Settles catalog d (listed_entries list) → list ≡ []
none_settled catalog d [] none settles = refl
none_settled catalog d (l ∷ ls) none settles = absurd (let both : None ≡ Some settles.0 = sym none ∙ settles.1 in cc)

-- the image of the empty database is the same whatever bodies may be installed
pub same_image : (catalog : Catalog) (spares : List (List Body)) → empty_image_of (with_spares catalog spares) ≡ empty_image_of catalog
unfolding kept image_bytes
same_image catalog spares = refl

-- an origin that an empty disk is read as
pub record IsFreshOrigin (catalog : Catalog) (o : Origin) : Type 0 where
  pub whole : WholeDatabase catalog o.db
  pub same : kept catalog (empty_database catalog) ≡ kept catalog o.db
  pub fresh_one : fresh_origin o.db ≡ o

module _ (mode : Mode) (catalog : Catalog) (accepted : Accepted catalog) (forming : FormingStands) (fit : FitBodies true catalog (own_bodies catalog)) (image : List ℕ) (spelled : image ≡ empty_image_of catalog) where
  abbrev new_one : Stood
  new_one = fresh mode image

  abbrev start : Model
  start = empty_database catalog

  pub start_image : IsImageAt catalog true 0 image start
  start_image = empty_image_at catalog accepted fit 0 image spelled

  -- the image is that of each database of which the same is kept
  pub image_alike : (db : Model) → kept catalog start ≡ kept catalog db → WholeDatabase catalog db → IsImageAt catalog true 0 image db
  image_alike db same whole = record {
    whole = whole;
    had = had_alike catalog start db same 0 start_image.had;
    fits = subst (FitsImage true catalog) same start_image.fits;
    spelled = start_image.spelled ∙ ap (image_bytes true catalog) same;
  }

  -- a crash leaves an empty disk, or the new store: in weak mode each is read as a database of which the same is kept as of the empty one
  pub read_so : mode ≡ modes.Weak → (db : Model) → kept catalog start ≡ kept catalog db → IsImageAt catalog true 0 image db → (crashed : Files) → IsEmpty crashed ⊎ StandsFor crashed new_one → WeakReads catalog crashed 0 db []
  read_so weak db same is crashed (inl none) = inl (record { empty = none; none = refl; whole = is.whole; nothing = sym same; no_entries = refl })
  read_so weak db same is crashed (inr stands) = inr (record { stood = new_one; stands = stands; read = record { weak = weak; first = refl; image = is; entries_are = refl } })

  -- and in strong mode it stands for the empty one
  pub stands_so : mode ≡ modes.Strong → (crashed : Files) → IsEmpty crashed ⊎ StandsFor crashed new_one → StoodAs (fresh_recovery modes.Strong catalog) catalog start 0 crashed
  stands_so strong crashed either =
      forming catalog crashed accepted fit
      (subst (λ (m : Mode). IsEmpty crashed ⊎ StandsFor crashed (fresh m (empty_image_of catalog))) strong (subst (λ (bytes : List ℕ). IsEmpty crashed ⊎ StandsFor crashed (fresh mode bytes)) spelled either))

  pub fresh_stood : (m : Mode) → mode ≡ m → (crashed : Files) → IsEmpty crashed ⊎ StandsFor crashed new_one → StoodAs (fresh_recovery m catalog) catalog start 0 crashed
  fresh_stood modes.Strong is crashed either = stands_so is crashed either
  fresh_stood modes.Weak is crashed either = read_so is start refl start_image crashed either

  -- what an empty disk is read as is the empty database, and nothing behind it
  fresh_is : KeptCarriesWeak → (disk : Files) → IsEmpty disk → (o : Origin) → MayBegin (Weak o) catalog disk → IsFreshOrigin catalog o
  fresh_is carries disk none o (db, first, led, inr read) = absurd (not_both disk read.stood none read.stands)
  fresh_is carries disk none o (db, first, led, inl read) =
      let same = sym read.nothing in
      let rests : next_settled catalog o.db ≡ None = (carries catalog start o.db same).settles [] (no_list modes.Weak catalog accepted) in
      let settles : Settles catalog o.db (listed_entries o.known) = subst (λ (es : List Entry). IsWeakList catalog o.db es (listed_entries o.known)) read.no_entries led.is_weak in
      let known = none_settled catalog o.db o.known rests settles in
      record { whole = read.whole; same = same; fresh_one = sym (λ i. record { place = read.none i; db = o.db; known = known i }) }

  module _ {D : Type 0} (kind : DiskKind D) (one : OneThingStandsOn D kind.moment kind.images) (old new : D)
      (run : LeavesOnly kind.moment kind.images old new (λ crashed. IsEmpty crashed ⊎ StandsFor crashed new_one)) (some : LeavesSome kind.moment kind.images (kind.moment old) new) where
    pub strong_on : mode ≡ modes.Strong → (list : List Listed) → StandsOnBy Strong catalog list kind.moment kind.images (kind.moment old) new
    strong_on strong list = one catalog 0 (kept catalog start) (kind.moment old) new some (λ t crashed from to left. stands_so strong crashed (run.each t crashed from to left))

    pub weak_on : mode ≡ modes.Weak → (db : Model) → kept catalog start ≡ kept catalog db → WholeDatabase catalog db → (list : List Listed) → StandsOnBy (Weak (fresh_origin db)) catalog list kind.moment kind.images (kind.moment old) new
    weak_on weak db same whole list =
        fresh_stands_on catalog db kind.moment kind.images (kind.moment old) new some (λ t crashed from to left. read_so weak db same (image_alike db same whole) crashed (run.each t crashed from to left)) list

    -- so much as stands of any list goes on standing, however a run begins on the empty disk
    pub begun_on : KeptCarriesWeak → (disk : Files) → IsEmpty disk → (recovery : Recovery) → mode_of recovery ≡ mode → MayBegin recovery catalog disk → (list : List Listed)
        → StandsOnBy recovery catalog list kind.moment kind.images (kind.moment old) new
    begun_on carries disk none Strong is may list = strong_on (sym is) list
    begun_on carries disk none (Weak o) is may list =
        let begins = fresh_is carries disk none o may in
        subst (λ (x : Origin). StandsOnBy (Weak x) catalog list kind.moment kind.images (kind.moment old) new) begins.fresh_one (weak_on (sym is) o.db begins.same begins.whole list)

-- ---- with more bodies to be installed

module _ (mode : Mode) (catalog : Catalog) (forming : FormingStands) (fit : FitBodies true catalog (own_bodies catalog)) (image : List ℕ) (spelled : image ≡ empty_image_of catalog)
    {D : Type 0} (kind : DiskKind D) (one : OneThingStandsOn D kind.moment kind.images) (old new : D)
    (run : LeavesOnly kind.moment kind.images old new (λ crashed. IsEmpty crashed ⊎ StandsFor crashed (fresh mode image))) (some : LeavesSome kind.moment kind.images (kind.moment old) new)
    (more : Catalog) (grows : GrowsTo catalog more) where
  abbrev wide : Catalog
  wide = with_spares catalog more.spares

  wide_accepted : Accepted wide
  wide_accepted = subst Accepted grows.same grows.accepted

  wide_spelled : image ≡ empty_image_of wide
  wide_spelled = spelled ∙ sym (same_image catalog more.spares)

  pub begun_more : KeptCarriesWeak → (disk : Files) → IsEmpty disk → (recovery : Recovery) → mode_of recovery ≡ mode → MayBegin recovery more disk → (list : List Listed)
      → StandsOnBy recovery more list kind.moment kind.images (kind.moment old) new
  begun_more carries disk none recovery is may list =
      subst (λ (c : Catalog). StandsOnBy recovery c list kind.moment kind.images (kind.moment old) new) (sym grows.same)
      (begun_on mode wide wide_accepted forming fit image wide_spelled kind one old new run some carries disk none recovery is (subst (λ (c : Catalog). MayBegin recovery c disk) grows.same may) list)

  pub strong_more : mode ≡ modes.Strong → (list : List Listed) → StandsOnBy Strong more list kind.moment kind.images (kind.moment old) new
  strong_more strong list =
      subst (λ (c : Catalog). StandsOnBy Strong c list kind.moment kind.images (kind.moment old) new) (sym grows.same)
      (strong_on mode wide wide_accepted forming fit image wide_spelled kind one old new run some strong list)

  pub weak_more : WholenessStays → mode ≡ modes.Weak → (db : Model) → kept catalog (empty_database catalog) ≡ kept catalog db → (list : List Listed)
      → StandsOnBy (Weak (fresh_origin db)) more list kind.moment kind.images (kind.moment old) new
  weak_more stays weak db same list =
      let there : kept wide (empty_database wide) ≡ kept wide db = kept_with catalog more.spares (empty_database catalog) ∙ same ∙ sym (kept_with catalog more.spares db) in
      let whole = stays wide (empty_database wide) db there (empty_whole wide wide_accepted) in
      subst (λ (c : Catalog). StandsOnBy (Weak (fresh_origin db)) c list kind.moment kind.images (kind.moment old) new) (sym grows.same)
      (weak_on mode wide wide_accepted forming fit image wide_spelled kind one old new run some weak db there whole list)
