-- What recovery gives, and what it leaves of the disk.
use Rattle.std.specs.Prelude.{◌≡◌, ◌≢◌, ◌⊎◌, ◌≤◌, ◌+◌, ◌-◌, ◌^◌, ◌++◌, ℕ, Bool, true, false, List, [], length, map, drop, replicate, Option, Some, None, Result, Ok, Err, MatchResult}
use Rattle.ss_disk.specs.Kinds.{DiskKind, present}
use Rattle.ss_value.specs.FaultCounts.{Rose}
use Rattle.ss_value.specs.Rows.{Rows}
use Rattle.ss_model.specs.declared.catalog.Catalog.{Catalog}
use Rattle.ss_model.specs.declared.entry.Listed.{Listed}
use Rattle.ss_model.specs.declared.entry.Mode.{Mode}
use Rattle.ss_model.specs.declared.entry.Mode.TheVariants as modes
use Rattle.ss_model.specs.Accepted.{Accepted}
use Rattle.ss_model.specs.Database.{Database as Model, empty_database}
use Rattle.ss_model.specs.Recovery.{Origin, Recovery, Strong, Weak}
use Rattle.ss_model.specs.Replays.{Replays, after}
use Rattle.ss_model.specs.Settling.{Kept, kept}
use Rattle.ss_model.specs.WholeDatabase.{WholeDatabase, HadAtMost}
use Rattle.ss_disk.specs.Files.{Files}
use Rattle.ss_disk.specs.Crash.{Only}
use Rattle.ss_disk.specs.Moments.{LeavesOnly}
use Rattle.ss_shard.specs.declared.database.Database.{Database}
use Rattle.ss_shard.specs.Databases.{StandsFor as HoldsModel}
use Rattle.ss_shard.specs.Parts.{IsWholeShard}
use Rattle.ss_cmdlog.specs.Generation.{Stood}
use Rattle.ss_cmdlog.specs.Log.{IsOpen}
use Rattle.ss_cmdlog.specs.Opening.{OnlyReads}
use Rattle.ss_cmdlog.specs.Store.{IsEmpty, StandsFor, entries_of}
use Rattle.ss_snapshot.specs.Bodies.{GrowsTo}
use Rattle.ss_snapshot.specs.Own.{IsReadFromItsText}
use Rattle.ss_snapshot.specs.Held.{kept_held}
use Rattle.ss_standing.specs.Checkpoints.{checkpoint_of}
use Rattle.ss_standing.specs.Image.{text_bytes}
use Rattle.ss_standing.specs.ImageForm.{kept_in, to_the_end}
use Rattle.ss_standing.specs.Standing.{IsImageAt}
use Rattle.ss_fronts.specs.Fronts.{BeganAt, FrontStands, HoldsFront, StandsOnBy, StoodAs, fresh_recovery, mode_of}
use Rattle.ss_recover.specs.declared.recovered.Recovered.{Recovered}
use Rattle.ss_recover.specs.declared.error.RecoverError.{RecoverError}
use Rattle.ss_recover.specs.declared.error.RecoverError.TheVariants.{NoMemory, DiskFault, Foreign, OtherMode, OtherCatalog, Nothing}
use Rattle.ss_recover.specs.Faults.{HasFaultAt, IsStore}
use Rattle.ss_recover.specs.Loading.{IsListOf}

-- a catalogue that is accepted, and is what its own text is read as, with bodies to be installed each of which is read
abbrev pub IsOwnCatalog : Catalog → Type 0
IsOwnCatalog catalog = Accepted catalog × IsReadFromItsText catalog

-- the program's database stands for this one, which is whole, and is dealt to so many partitions
pub record IsReady (catalog : Catalog) (parts : ℕ) (database : Database) (db : Model) : Type 0 where
  pub whole : WholeDatabase catalog db
  pub dealt : IsWholeShard catalog parts database.whole
  pub holds : HoldsModel catalog database db

-- the generation's entries, with these outcomes, lead from its image to this place, and to a database of which the same is kept as of this one
pub record LeadsTo (catalog : Catalog) (s : Stood) (list : List Listed) (place : ℕ) (db : Model) : Type 0 where
  pub opening : Model
  pub image : IsImageAt catalog s.bodies s.first s.image opening
  pub entries : IsListOf s.mode catalog opening (entries_of s) list
  pub replays : Replays catalog opening list
  pub placed : place ≡ s.first + length list
  pub reached : kept catalog db ≡ kept catalog (after catalog opening list)

-- items of which these are kept, behind as many blank ones as aren't
abbrev pub behind_blanks : ℕ → List Rows → List Rows
behind_blanks had items = replicate (had - length items) [] ++ items

-- a database of which this is kept: the units and batches that aren't kept are blank
abbrev pub database_of : Kept → Model
database_of k = record {
  contents = record { tables = k.tables; windows = map (λ w. behind_blanks w.0 w.1) k.windows };
  streams = map (λ s. behind_blanks s.0 s.1.1) k.streams;
  counts = k.counts;
  next_numbers = k.next_numbers;
  bodies = k.bodies;
}

-- the database that was recovered: as the program's tells it
abbrev pub recovered_database : {D : Type 0} → Recovered D → Model
recovered_database r = database_of (kept_held r.catalog r.database.whole r.database.streams.streams)

-- ---- how the store is had again

-- what is kept of the database of which the bytes are the image at this place, and of the empty one where they are no image
abbrev pub kept_by : Catalog → Result Kept ℕ → Kept
kept_by catalog (Ok k) = k
kept_by catalog (Err left) = kept catalog (empty_database catalog)

abbrev pub image_kept : Catalog → Bool → ℕ → List ℕ → Kept
image_kept catalog bodies place image = kept_by catalog (to_the_end (kept_in bodies catalog place) (drop (length (text_bytes catalog.text)) image))

-- where the history of a run begins: at the database of the image at this place, with the list that the entries behind it led to
abbrev pub origin_at : Catalog → Bool → ℕ → List ℕ → List Listed → Origin
origin_at catalog bodies place image known = record { place = place; db = database_of (image_kept catalog bodies place image); known = known }

-- by the image that was read
abbrev pub recovery_at : Mode → Catalog → Bool → ℕ → List ℕ → List Listed → Recovery
recovery_at modes.Strong catalog bodies place image known = Strong
recovery_at modes.Weak catalog bodies place image known = Weak (origin_at catalog bodies place image known)

-- how what was recovered in this mode is had again
abbrev pub recovery_of : {D : Type 0} → DiskKind D → Mode → Recovered D → Recovery
recovery_of kind mode r = recovery_at mode r.catalog r.bodies (r.first - length r.known) r.image r.known

-- a generation has this image, with bodies or without
pub record HasImage (bodies : Bool) (image : List ℕ) (s : Stood) : Type 0 where
  pub form : s.bodies ≡ bodies
  pub bytes : s.image ≡ image

-- the log goes on behind the generation that was read; behind one of an older form it goes on in its place, with a checkpoint of what was
-- recovered in the new form
abbrev pub GoesOnBehind : Mode → Catalog → ℕ → Model → Stood → Stood → Type 0
GoesOnBehind mode catalog place db read s =
    ((read.bodies ≡ true) × (s ≡ read)) ⊎ ((read.bodies ≡ false) × (s ≡ checkpoint_of mode catalog place db))

-- What was recovered stands for this database, and its log is open on a generation in which bodies may be, behind which a run begins
-- there. What was read led there, and the image of it was kept.
pub record GoesOn {D : Type 0} (kind : DiskKind D) (mode : Mode) (parts : ℕ) (r : Recovered D) (db : Model) : Type 0 where
  pub ready : IsReady r.catalog parts r.database db
  pub had : HadAtMost r.first db
  pub few : r.first ≤ 2 ^ 60
  pub s : Stood
  pub of_mode : s.mode ≡ mode
  pub formed : s.bodies ≡ true
  pub log : IsOpen kind r.log s
  pub count : r.log.count ≡ r.first
  pub read : Stood
  pub read_image : HasImage r.bodies r.image read
  pub leads : LeadsTo r.catalog read r.known r.first db
  pub behind : GoesOnBehind mode r.catalog r.first db read s
  pub began : kind.tells → BeganAt (recovery_of kind mode r) r.catalog db r.first
  pub held : kind.tells → HoldsFront (recovery_of kind mode r) r.catalog db r.first [] 0 s

-- since then a crash leaves what it could leave at first, or what stands for so many executions and for what is kept after them
abbrev pub LeavesOldOr : {D : Type 0} → DiskKind D → D → D → (Files → Type 0) → Type 0
LeavesOldOr kind old new P = LeavesOnly kind.moment kind.images old new (λ image. present kind old image ⊎ P image)

-- an image is a front of no entries behind what was recovered: a strong one stands for as many executions, and for what is kept of the
-- database after them; a weak one is read as what the recovery began at, with the calls, pushes and installs that it read
abbrev pub StandsForIt : {D : Type 0} → DiskKind D → Mode → Recovered D → Model → Files → Type 0
StandsForIt kind mode r db image = FrontStands (recovery_of kind mode r) r.catalog db r.first [] r.first image

-- the given catalogue, if there is one, with the bodies to be installed that the store has too: those that it had it has still
abbrev pub IsGivenOne : Option Catalog → Catalog → Type 0
IsGivenOne given stored = (catalog : Catalog) → given ≡ Some catalog → GrowsTo catalog stored

-- a database was recovered from a disk, which stood for it, or made on an empty one; of the given catalogue, if there is one. What a
-- crash at some moment could not take, whatever a run is to list and whatever more bodies may be installed, one at no later moment takes
pub record IsRecovered {D : Type 0} (kind : DiskKind D) (mode : Mode)
    (given : Option Catalog) (parts : ℕ) (old : D) (r : Recovered D) (db : Model) : Type 0 where
  pub own : IsOwnCatalog r.catalog
  pub given_one : IsGivenOne given r.catalog
  pub goes_on : GoesOn kind mode parts r db
  pub was : kind.tells → IsEmpty (kind.seen old) ⊎ IsStore mode (kind.seen old) r.catalog
  pub stood : kind.tells → StoodAs (recovery_of kind mode r) r.catalog db r.first (kind.seen old)
  pub moments : kind.honest → LeavesOldOr kind old r.log.disk (StandsForIt kind mode r db)
  pub stands_on : kind.honest → (more : Catalog) → GrowsTo r.catalog more → (list : List Listed) →
      StandsOnBy (recovery_of kind mode r) more list kind.moment kind.images (kind.moment old) r.log.disk
  pub quiet : kind.honest → Only (kind.seen old) (present kind old) → LeavesOnly kind.moment kind.images old r.log.disk (StandsForIt kind mode r db)

-- some database was
abbrev pub WasRecovered : {D : Type 0} → DiskKind D → Mode → Option Catalog → ℕ → D → Recovered D → Type 0
WasRecovered kind mode given parts old r = (db : Model) × IsRecovered kind mode given parts old r db

-- ---- refusals

-- an image of a disk on which a store of this mode and of the given catalogue was being made
abbrev pub MayForm : Mode → Option Catalog → Files → Files → Type 0
MayForm mode None disk image = ⊥
MayForm mode (Some catalog) disk image = IsEmpty disk × StoodAs (fresh_recovery mode catalog) catalog (empty_database catalog) 0 image

-- the history of a run may begin at what the disk is read as, whatever that is in strong mode
abbrev pub MayBegin : Recovery → Catalog → Files → Type 0
MayBegin Strong catalog disk = Unit {0}
MayBegin (Weak o) catalog disk = (db : Model) × (first : ℕ) × BeganAt (Weak o) catalog db first × StoodAs (Weak o) catalog db first disk

-- An image of a disk on which a checkpoint was being made, in the new form, in place of a store of an older one: of the one or of the
-- other, and so a front of no entries behind what the store stood for.
pub record MayRenew (mode : Mode) (given : Option Catalog) (disk image : Files) : Type 0 where
  pub catalog : Catalog
  pub own : IsOwnCatalog catalog
  pub given_one : IsGivenOne given catalog
  pub store : IsStore mode disk catalog
  pub older : store.s.bodies ≡ false
  pub recovery : Recovery
  pub of_mode : mode_of recovery ≡ mode
  pub db : Model
  pub first : ℕ
  pub began : BeganAt recovery catalog db first
  pub stood : StoodAs recovery catalog db first disk
  pub front : FrontStands recovery catalog db first [] first image
  pub made : StandsFor image store.s ⊎ StandsFor image (checkpoint_of mode catalog first db)

-- the one or the other
abbrev pub MayMake : Mode → Option Catalog → Files → Files → Type 0
MayMake mode given disk image = MayForm mode given disk image ⊎ MayRenew mode given disk image

-- Nothing was recovered, and on an empty disk a store of the given catalogue may have been made, and in place of a store of an older form
-- one of the new one: what that leaves to a crash, what reads give, and that what a crash could not take it doesn't take.
pub record MayHaveFormed {D : Type 0} (kind : DiskKind D) (mode : Mode) (given : Option Catalog) (old new : D) : Type 0 where
  pub moments : LeavesOldOr kind old new (MayMake mode given (kind.seen old))
  pub reads : (kind.seen new ≡ kind.seen old) ⊎ MayMake mode given (kind.seen old) (kind.seen new)
  pub stands_on : (catalog more : Catalog) → given ≡ Some catalog → GrowsTo catalog more → (recovery : Recovery) → mode_of recovery ≡ mode →
      MayBegin recovery more (kind.seen old) → (list : List Listed) → StandsOnBy recovery more list kind.moment kind.images (kind.moment old) new

-- the store is of the mode that isn't asked
pub record HasOtherMode (tells : Type 0) (mode : Mode) (disk : Files) (stored : Mode) : Type 0 where
  pub another : stored ≢ mode
  pub theirs : Catalog
  pub own : IsOwnCatalog theirs
  pub store : tells → IsStore stored disk theirs

-- the store is of the mode that is asked, and of a catalogue with this text, which is another than the given one's
pub record HasOtherText (tells : Type 0) (mode : Mode) (disk : Files) (given : Option Catalog) (stored text : List ℕ) : Type 0 where
  pub ours : Catalog
  pub is_given : given ≡ Some ours
  pub text_is : text ≡ ours.text
  pub theirs : Catalog
  pub own : IsOwnCatalog theirs
  pub stored_is : stored ≡ theirs.text
  pub store : tells → IsStore mode disk theirs
  pub another : stored ≢ text

-- a catalogue is given, and has another text
pub record DiffersFrom (stored : Catalog) (given : Option Catalog) (e : RecoverError) : Type 0 where
  pub ours : Catalog
  pub is_given : given ≡ Some ours
  pub another : stored.text ≢ ours.text
  pub told : e ≡ OtherCatalog stored.text ours.text

-- that the disk's count of faults rose is told: it stays, but where the answer is a fault of the disk
abbrev pub TellsFaults : {D : Type 0} → DiskKind D → D → Result (Recovered D) (RecoverError × D) → Type 0
TellsFaults kind old result = MatchResult result (λ r. kind.faults r.log.disk ≡ kind.faults old) (λ refused. (refused.0 ≡ DiskFault → ⊥) → kind.faults refused.1 ≡ kind.faults old)

-- a refusal, and what it leaves of the disk
abbrev pub RefusesAsSaid : {D : Type 0} → DiskKind D → Mode → Option Catalog →
    D → D → RecoverError → Type 0
RefusesAsSaid kind mode given old new NoMemory = kind.honest → MayHaveFormed kind mode given old new
RefusesAsSaid kind mode given old new DiskFault =
    (kind.honest → MayHaveFormed kind mode given old new) × Rose (kind.faults old) (kind.faults new)
RefusesAsSaid kind mode given old new (Foreign which at) =
    OnlyReads kind old new × (kind.tells → HasFaultAt (kind.seen old) which at)
RefusesAsSaid kind mode given old new (OtherMode stored) =
    OnlyReads kind old new × HasOtherMode kind.tells mode (kind.seen old) stored
RefusesAsSaid kind mode given old new (OtherCatalog stored text) =
    OnlyReads kind old new × HasOtherText kind.tells mode (kind.seen old) given stored text
RefusesAsSaid kind mode given old new Nothing =
    OnlyReads kind old new × (given ≡ None) × (kind.tells → IsEmpty (kind.seen old))
