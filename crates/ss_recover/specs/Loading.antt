-- What a store's contents come to, apart from its disk.
use Rattle.std.specs.Prelude.{◌≡◌, ◌⊎◌, ◌≤◌, ◌+◌, ◌-◌, ◌*◌, ◌^◌, ℕ, suc, Bool, true, nat_lt, if◌then◌else◌, List, [], ◌∷◌, ◌++◌, length, take, get_or, Option, Some, None}
use Rattle.std.specs.List.{AllByRecursion}
use Rattle.ss_model.specs.declared.catalog.Body.{Body}
use Rattle.ss_model.specs.declared.catalog.Catalog.{Catalog}
use Rattle.ss_model.specs.declared.entry.Entry.{Entry}
use Rattle.ss_model.specs.declared.entry.Entry.TheVariants.{Call, Push, Step, Install}
use Rattle.ss_model.specs.declared.entry.Listed.{Listed}
use Rattle.ss_model.specs.declared.entry.Mode.{Mode}
use Rattle.ss_model.specs.declared.entry.Mode.TheVariants.{Strong, Weak}
use Rattle.ss_model.specs.Accepted.{Accepted}
use Rattle.ss_model.specs.Database.{Database as Model, has_body, spare_bodies}
use Rattle.ss_model.specs.Replays.{Replays, after}
use Rattle.ss_model.specs.Settling.{IsWeakList}
use Rattle.ss_record.specs.Spelling.{records}
use Rattle.ss_shard.specs.Databases.{StandsFor}
use Rattle.ss_shard.specs.Parts.{IsWholeShard}
use Rattle.ss_cmdlog.specs.declared.open.Loaded.{Loaded}
use Rattle.ss_snapshot.specs.Bodies.{GrowsTo, HasNoBody}
use Rattle.ss_snapshot.specs.Images.{IsImageOf, IsForeignAt}
use Rattle.ss_standing.specs.Standing.{listed_entries}
use Rattle.ss_recover.specs.declared.stored.Stored.{Stored}
use Rattle.ss_recover.specs.declared.stored.StoredError.{StoredError}
use Rattle.ss_recover.specs.declared.stored.StoredError.TheVariants.{NoMemory, Foreign}
use Rattle.ss_recover.specs.Faults.{NoneStopsLater, StopsAfter, WithAnyBodies, first_place, group_head, image_place}
use Rattle.ss_replay.specs.declared.entries.Replayed.{Replayed}
use Rattle.ss_weak_lists.specs.Stops.{PassesLast}

-- ---- bodies to be installed

-- a catalogue has more bodies to be installed, each behind those that it had, and each of which is read
pub record HasMore (old new : Catalog) : Type 0 where
  pub grows : GrowsTo old new
  pub behind : (q : ℕ) → (more : List Body) × (spare_bodies new q ≡ spare_bodies old q ++ more)

-- what an entry installs is a body of the catalogue, or of no catalogue with its text
abbrev pub IsNamed : Catalog → Entry → Type 0
IsNamed catalog (Call client index procedure args) = Unit {0}
IsNamed catalog (Push client index stream source seq rows) = Unit {0}
IsNamed catalog (Step procedure batch) = Unit {0}
IsNamed catalog (Install client index procedure text) = (has_body catalog procedure text ≡ true) ⊎ HasNoBody catalog procedure text

-- so it is with each entry
abbrev pub AreNamed : Catalog → List Entry → Type 0
AreNamed catalog entries = AllByRecursion (IsNamed catalog) entries

-- bodies of a procedure that may be installed are the catalogue's too, or those of no catalogue with its text
abbrev pub AreBodies : Catalog → ℕ → List Body → Type 0
AreBodies catalog q bodies = AllByRecursion (λ (b : Body). (has_body catalog q b.text ≡ true) ⊎ HasNoBody catalog q b.text) bodies

-- so it is with those of each procedure
abbrev pub AreSpares : Catalog → List (List Body) → Type 0
AreSpares catalog spares = (q : ℕ) → AreBodies catalog q (get_or spares q [])

-- a catalogue has the bodies of another, of the same text
abbrev pub HasBodiesOf : Catalog → Catalog → Type 0
HasBodiesOf catalog given = (q : ℕ) (text : List ℕ) → has_body given q text ≡ true → has_body catalog q text ≡ true

-- the same of the given catalogue, where there is one that has the text
abbrev pub HasGivenBodies : Catalog → Option Catalog → Type 0
HasGivenBodies catalog None = Unit {0}
HasGivenBodies catalog (Some given) = given.text ≡ catalog.text → HasBodiesOf catalog given

-- ---- what a store's contents come to

-- the list has the entries: those of a strong log as they stand, and of a weak one with the settlings between them
abbrev pub IsListOf : Mode → Catalog → Model → List Entry → List Listed → Type 0
IsListOf Strong catalog db entries list = listed_entries list ≡ entries
IsListOf Weak catalog db entries list = IsWeakList catalog db entries (listed_entries list)

-- the image is that of a database, and the entries replay on this one, up to the last place
pub record IsStored (loaded : Loaded) (given : Option Catalog) (parts : ℕ) (r : Stored) : Type 0 where
  pub form : r.bodies ≡ loaded.bodies
  pub bytes : r.image ≡ loaded.image
  pub given_bodies : HasGivenBodies r.catalog given
  pub accepted : Accepted r.catalog
  pub db : Model
  pub image : IsImageOf loaded.bodies loaded.image loaded.first r.catalog db
  pub entries : IsListOf loaded.mode r.catalog db loaded.entries r.known
  pub replays : Replays r.catalog db r.known
  pub placed : r.first ≡ loaded.first + length r.known
  pub few : r.first ≤ 2 ^ 60
  pub dealt : IsWholeShard r.catalog parts r.database.whole
  pub holds : StandsFor r.catalog r.database (after r.catalog db r.known)

-- what is stored of a catalogue, where this came of the entries behind an image
abbrev pub stored_as : Catalog → Loaded → Replayed → Stored
stored_as catalog loaded r =
    record { database = r.database; catalog = catalog; first = loaded.first + length r.list; known = r.list; bodies = loaded.bodies; image = loaded.image }

-- bytes are no image at this place, and are told at the first one that can't be, by its place in the file
pub record HasOddImage (bodies : Bool) (first : ℕ) (image : List ℕ) (at : ℕ) : Type 0 where
  pub offset : ℕ
  pub foreign : IsForeignAt bodies first image offset
  pub place : at ≡ image_place bodies + offset

-- why they aren't: out of memory says nothing
abbrev pub RefusesImage : Bool → ℕ → List ℕ → StoredError → Type 0
RefusesImage bodies first image NoMemory = Unit {0}
RefusesImage bodies first image (Foreign at) = HasOddImage bodies first image at

-- how many groups begin up to the entry at this position, by how many entries each has
abbrev pub groups_begun : List ℕ → ℕ → ℕ
groups_begun [] n = 0
groups_begun (m ∷ ms) n = if nat_lt n m then 1 else suc (groups_begun ms (n - m))

-- where the record stands that is behind those of these entries: the image has so many bytes, and the groups so many entries
abbrev pub place_behind : Bool → ℕ → List ℕ → List Entry → ℕ
place_behind bodies image sizes entries = image_place bodies + image + group_head * groups_begun sizes (length entries) + length (records entries)

-- behind such an image an entry doesn't replay, and whatever bodies may be installed, none gets past it
pub record HasOddEntry (loaded : Loaded) (at : ℕ) : Type 0 where
  pub catalog : Catalog
  pub accepted : Accepted catalog
  pub db : Model
  pub image : IsImageOf loaded.bodies loaded.image loaded.first catalog db
  pub before : ℕ
  pub within : before ≤ length loaded.entries
  pub stops : StopsAfter loaded.mode catalog db loaded.first loaded.entries before
  pub furthest : NoneStopsLater loaded.mode loaded.bodies loaded.image loaded.first catalog loaded.entries before
  pub place : at ≡ place_behind loaded.bodies (length loaded.image) loaded.sizes (take before loaded.entries)

-- or settling such an image would pass the last place
pub record HasOddSettling (loaded : Loaded) (at : ℕ) : Type 0 where
  pub of_mode : loaded.mode ≡ Weak
  pub catalog : Catalog
  pub accepted : Accepted catalog
  pub db : Model
  pub image : IsImageOf loaded.bodies loaded.image loaded.first catalog db
  pub past : PassesLast catalog db loaded.first
  pub others : WithAnyBodies loaded.bodies loaded.image loaded.first catalog (λ other d. PassesLast other d loaded.first)
  pub place : at ≡ first_place loaded.bodies

-- why contents are no store's: out of memory says nothing
abbrev pub RefusesLoaded : Loaded → StoredError → Type 0
RefusesLoaded loaded NoMemory = Unit {0}
RefusesLoaded loaded (Foreign at) = HasOddImage loaded.bodies loaded.first loaded.image at ⊎ HasOddEntry loaded at ⊎ HasOddSettling loaded at
