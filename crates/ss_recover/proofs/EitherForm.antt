-- A run of no entries begins at a generation of an older form, and at the checkpoint in the new form that takes its place.
use Rattle.std.proofs.Common.{◌≡◌, ◌∙◌, ◌⊎◌, inl, inr, ℕ, ◌+◌, Bool, true, false, List, [], ◌∷◌, ◌++◌, length, ap, arith, refl, subst, sym, take_at, length-append}
use Rattle.ss_model.specs.declared.catalog.Body.{Body}
use Rattle.ss_model.specs.declared.catalog.Catalog.{Catalog}
use Rattle.ss_model.specs.declared.entry.Listed.{Listed}
use Rattle.ss_model.specs.declared.entry.Mode.{Mode}
use Rattle.ss_model.specs.declared.entry.Mode.TheVariants as modes
use Rattle.ss_model.specs.Accepted.{Accepted}
use Rattle.ss_model.specs.Asked.{asked_of, listed_entries}
use Rattle.ss_model.specs.Database.{Database as Model}
use Rattle.ss_model.specs.Recovery.{Origin, Recovery, Strong, Weak}
use Rattle.ss_model.specs.Replays.{after}
use Rattle.ss_model.specs.Settling.{kept}
use Rattle.ss_model.specs.SparesAside.{with_spares}
use Rattle.ss_model.specs.WholeDatabase.{HadAtMost, WholeDatabase, WholenessStays}
use Rattle.ss_model_laws.proofs.CallerLemmas.{had_at_most, whole_after}
use Rattle.ss_weak_lists.specs.WeakLists.{KeptCarriesWeak, WeakListsHoldAsked}
use Rattle.ss_disk.specs.Files.{Files}
use Rattle.ss_disk.specs.Moments.{AnyMoment, LeavesOnly}
use Rattle.ss_cmdlog.specs.Formatting.{LeavesSome}
use Rattle.ss_cmdlog.specs.Generation.{Stood}
use Rattle.ss_cmdlog.specs.Logged.{logged}
use Rattle.ss_cmdlog.specs.Store.{IsEmpty, StandsFor, entries_of}
use Rattle.ss_cmdlog.proofs.CallerLemmas.{files_stand_for_one}
use Rattle.ss_standing.specs.Checkpoints.{ImagesAreRead, checkpoint_of}
use Rattle.ss_standing.specs.FitsImage.{FitsImage}
use Rattle.ss_standing.specs.Image.{image_bytes}
use Rattle.ss_standing.specs.ImageForm.{kept_in}
use Rattle.ss_standing.specs.Standing.{IsImageAt}
use Rattle.ss_fronts.specs.Fronts.{BeganAt, FrontStands, HoldsFront, StandsOnBy, StoodAs, mode_of}
use Rattle.ss_fronts.specs.Laws.{CheckpointsHold, CheckpointsKeepFronts, HeldFrontsStand}
use Rattle.ss_fronts.specs.WeakFronts.{asked_between}
use Rattle.ss_fronts.specs.WeakLaws.{WeaklyStandsForOne}
use Rattle.ss_fronts.specs.WeakReads.{IsReadAs, WeaklyStands}
use Rattle.ss_fronts.proofs.CallerLemmas.{front_less, grows, had_alike}
use Rattle.ss_recover.specs.Recovering.{LeadsTo, MayBegin, origin_at, recovery_at}
use Rattle.ss_recover.proofs.Recoveries.{RunsFrom, recovery_by, runs_from}

-- a run of no entries begins at either generation
pub record RunsOver (recovery : Recovery) (catalog : Catalog) (db : Model) (first : ℕ) (s next : Stood) : Type 0 where
  pub began : BeganAt recovery catalog db first
  pub held : HoldsFront recovery catalog db first [] 0 s
  pub next_held : HoldsFront recovery catalog db first [] 0 next

module _ (stand : HeldFrontsStand) (recovery : Recovery) (catalog : Catalog) (db : Model) (first : ℕ) (s next : Stood) (over : RunsOver recovery catalog db first s next) where
  -- what stands for either is a front of no entries
  pub either_front : (image : Files) → StandsFor image s ⊎ StandsFor image next → FrontStands recovery catalog db first [] first image
  either_front image (inl stands) = front_less recovery catalog db first [] first (first + 0) image (omega arith) ((stand recovery catalog db first [] 0 s over.began tt over.held).stands image stands)
  either_front image (inr stands) = front_less recovery catalog db first [] first (first + 0) image (omega arith) ((stand recovery catalog db first [] 0 next over.began tt over.next_held).stands image stands)

  -- while the one takes the place of the other, what stands of any list stays
  pub over_stays : {D : Type 0} (moment : D → ℕ) (images : D → ℕ → Files → Type 0) → CheckpointsKeepFronts D moment images → (old new : D)
      → LeavesOnly moment images old new (λ image. StandsFor image s ⊎ StandsFor image next) → LeavesSome moment images (moment old) new → (list : List Listed) → StandsOnBy recovery catalog list moment images (moment old) new
  over_stays moment images keep old new run some list = λ n t u le rise within all image left.
      let grow = grows recovery catalog db first [] list in
      let front : AnyMoment moment images (moment old) new (FrontStands recovery catalog db first [] first) = λ v i from to there. either_front i (run.each v i from to there) in
      grow.at_least n image (keep recovery catalog db first [] s next old new over.began tt over.held over.next_held run some n t u le rise within
      (λ i there. grow.no_more n i (front t i le (omega (arith, rise, within)) there) (all i there)) image left)

-- ---- bodies to be installed aside

module _ (catalog : Catalog) (spares : List (List Body)) where
  abbrev more : Catalog
  more = with_spares catalog spares

  bytes_with : (db : Model) → image_bytes true more (kept more db) ≡ image_bytes true catalog (kept catalog db)
  unfolding kept image_bytes
  bytes_with db = refl

  fits_with : (db : Model) → FitsImage true catalog (kept catalog db) → FitsImage true more (kept more db)
  unfolding kept
  fits_with db fits = record {
    tables = fits.tables;
    windows = fits.windows;
    streams = fits.streams;
    counts = fits.counts;
    next_numbers = fits.next_numbers;
    texts = fits.texts;
  }

module _ (a b : Catalog) (same : b ≡ with_spares a b.spares) where
  pub checkpoint_aside : (mode : Mode) (place : ℕ) (db : Model) → checkpoint_of mode b place db ≡ checkpoint_of mode a place db
  checkpoint_aside mode place db =
      let bytes : image_bytes true b (kept b db) ≡ image_bytes true a (kept a db) = ap (λ (c : Catalog). image_bytes true c (kept c db)) same ∙ bytes_with a b.spares db in
      ap (λ (image : List ℕ). record { bodies = true; mode = mode; first = place; image = image; groups = [] }) bytes

  pub fits_aside : (db : Model) → FitsImage true a (kept a db) → FitsImage true b (kept b db)
  fits_aside db fits = subst (λ (c : Catalog). FitsImage true c (kept c db)) (sym same) (fits_with a b.spares db fits)

-- ---- what a run begins at

checkpoint_there : (mode : Mode) (catalog : Catalog) (p q : ℕ) (x y : Model) → p ≡ q → kept catalog x ≡ kept catalog y → checkpoint_of mode catalog p x ≡ checkpoint_of mode catalog q y
checkpoint_there mode catalog p q x y place same = λ i. record { bodies = true; mode = mode; first = place i; image = image_bytes true catalog (same i); groups = [] }

mode_is : (mode : Mode) (catalog : Catalog) (known : List Listed) (s : Stood) → mode_of (recovery_by mode catalog known s) ≡ mode
mode_is modes.Strong catalog known s = refl
mode_is modes.Weak catalog known s = refl

-- what a weak run begins at stands weakly for that
weakly : (o : Origin) (catalog : Catalog) (db : Model) (first : ℕ) (disk : Files) → BeganAt (Weak o) catalog db first → StoodAs (Weak o) catalog db first disk → WeaklyStands catalog disk first (kept catalog db)
weakly o catalog db first disk led reads = record {
  place = o.place;
  db = o.db;
  entries = asked_of (listed_entries o.known);
  reads = reads;
  list = o.known;
  is_weak = led.is_weak;
  replays = led.replays;
  count_is = led.placed;
  kept_is = led.reached;
}

-- a store isn't empty
not_both : (disk : Files) (s : Stood) → IsEmpty disk → StandsFor disk s → ⊥
not_both disk s empty stands = (let none : [] ≡ stands.byte ∷ [] = sym empty ∙ stands.selector in cc)

-- a generation that is read as the origin, with the requests behind it, has them
module _ (o : Origin) (catalog : Catalog) (db : Model) (first : ℕ) (s : Stood) where
  read_held : IsReadAs catalog s o.place o.db (asked_of (listed_entries o.known)) → HoldsFront (Weak o) catalog db first [] 0 s
  read_held there =
      let place : o.place ≡ o.place + 0 = omega arith in
      let all : asked_between 0 (length o.known + 0) (o.known ++ []) ≡ asked_of (listed_entries o.known) = ap (λ (l : List Listed). asked_of (listed_entries l)) (take_at o.known [] (length o.known + 0) (omega arith)) in
      record {
        before = 0;
        ordered = omega arith;
        within = omega (arith, length-append o.known []);
        read = record {
          weak = there.weak;
          first = there.first ∙ place;
          image = subst (λ (n : ℕ). IsImageAt catalog s.bodies n s.image o.db) place there.image;
          entries_are = there.entries_are ∙ sym all;
        };
      }

  stood_held : (disk : Files) → StandsFor disk s → StoodAs (Weak o) catalog db first disk → HoldsFront (Weak o) catalog db first [] 0 s
  stood_held disk stands (inl none) = absurd (not_both disk s none.empty stands)
  stood_held disk stands (inr read) =
      read_held (subst (λ (g : Stood). IsReadAs catalog g o.place o.db (asked_of (listed_entries o.known))) (files_stand_for_one disk read.stood s read.stands stands) read.read)

-- ---- what a generation leads to, with a checkpoint of it

module _ (again : ImagesAreRead) (stays : WholenessStays) (carries : KeptCarriesWeak) (hold : WeakListsHoldAsked) (hold_all : CheckpointsHold) (one : WeaklyStandsForOne)
    (catalog : Catalog) (accepted : Accepted catalog) (s : Stood) (known : List Listed) (place : ℕ) (db : Model) (leads : LeadsTo catalog s known place db) (all : logged s.mode (entries_of s) ≡ entries_of s)
    (fits : FitsImage true catalog (kept catalog db)) where
  leads_whole : WholeDatabase catalog db
  leads_whole = stays catalog (after catalog leads.opening known) db (sym leads.reached) (whole_after catalog accepted leads.opening known leads.image.whole)

  leads_had : HadAtMost place db
  leads_had =
      had_alike catalog (after catalog leads.opening known) db (sym leads.reached) place
      (subst (λ (n : ℕ). HadAtMost n (after catalog leads.opening known)) (sym leads.placed) (had_at_most catalog accepted leads.opening leads.image.whole s.first leads.image.had.streams known))

  pub led_runs : (mode : Mode) → s.mode ≡ mode → RunsFrom (recovery_by mode catalog known s) catalog s db place
  led_runs mode of_mode = runs_from again stays carries hold catalog accepted s known place db leads all mode of_mode

  -- a run that began so at a database of which the same is kept, and at the same place, begins at the checkpoint
  checkpoint_held : (recovery : Recovery) (x : Model) (first : ℕ) → BeganAt recovery catalog x first → first ≡ place → kept catalog x ≡ kept catalog db
      → HoldsFront recovery catalog x first [] 0 (checkpoint_of (mode_of recovery) catalog place db)
  checkpoint_held recovery x first began placed same =
      let whole = stays catalog db x (sym same) leads_whole in
      let had = subst (λ (n : ℕ). HadAtMost n x) (sym placed) (had_alike catalog db x (sym same) place leads_had) in
      let held = hold_all recovery catalog x first [] accepted whole had began tt (subst (FitsImage true catalog) (sym same) fits) in
      subst (HoldsFront recovery catalog x first [] 0) (checkpoint_there (mode_of recovery) catalog (first + 0) place x db (omega (arith, placed)) same) held

  pub led_over : (mode : Mode) → s.mode ≡ mode → RunsOver (recovery_by mode catalog known s) catalog db place s (checkpoint_of mode catalog place db)
  led_over mode of_mode =
      let runs = led_runs mode of_mode in
      let held = checkpoint_held (recovery_by mode catalog known s) db place runs.began refl refl in
      record {
        began = runs.began;
        held = runs.held;
        next_held = subst (λ (m : Mode). HoldsFront (recovery_by mode catalog known s) catalog db place [] 0 (checkpoint_of m catalog place db)) (mode_is mode catalog known s) held;
      }

  -- so it is with each run that may begin at files that stand for the generation
  pub begun_over : (recovery : Recovery) → s.mode ≡ mode_of recovery → (disk : Files) → StandsFor disk s → MayBegin recovery catalog disk
      → (x : Model) × (first : ℕ) × RunsOver recovery catalog x first s (checkpoint_of (mode_of recovery) catalog place db)
  begun_over Strong of_mode disk stands may = (db, place, led_over modes.Strong of_mode)
  begun_over (Weak o) of_mode disk stands (x, first, led, stood) =
      let runs = led_runs modes.Weak of_mode in
      let ours = weakly (origin_at catalog s.bodies s.first s.image known) catalog db place disk runs.began (runs.stood disk stands) in
      let same = one catalog accepted disk first place (kept catalog x) (kept catalog db) (weakly o catalog x first disk led stood) ours in
      (x, first, record { began = led; held = stood_held o catalog x first s disk stands stood; next_held = checkpoint_held (Weak o) x first led same.0 same.1 })

  -- what it leads to begins there itself
  pub may_begin : (mode : Mode) → s.mode ≡ mode → (disk : Files) → StandsFor disk s → MayBegin (recovery_by mode catalog known s) catalog disk
  may_begin modes.Strong of_mode disk stands = tt
  may_begin modes.Weak of_mode disk stands = (db, place, (led_runs modes.Weak of_mode).began, (led_runs modes.Weak of_mode).stood disk stands)

-- an image of an older form tells the same, whatever bodies may be installed
recovery_with : (mode : Mode) (catalog : Catalog) (spares : List (List Body)) (known : List Listed) (place : ℕ) (image : List ℕ)
    → recovery_at mode (with_spares catalog spares) false place image known ≡ recovery_at mode catalog false place image known
unfolding kept kept_in
recovery_with modes.Strong catalog spares known place image = refl
recovery_with modes.Weak catalog spares known place image = refl

pub recovery_aside : (mode : Mode) (a b : Catalog) → b ≡ with_spares a b.spares → (known : List Listed) (s : Stood) → s.bodies ≡ false → recovery_by mode b known s ≡ recovery_by mode a known s
recovery_aside mode a b same known s older =
    subst (λ (form : Bool). recovery_at mode b form s.first s.image known ≡ recovery_at mode a form s.first s.image known) (sym older)
    (ap (λ (c : Catalog). recovery_at mode c false s.first s.image known) same ∙ recovery_with mode a b.spares known s.first s.image)
