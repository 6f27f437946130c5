-- Which disks hold a store, and the first fault of one that isn't empty and holds none, by three passes over its current file.
use Rattle.std.specs.Prelude.{◌≡◌, ◌≢◌, ◌⊎◌, ◌≤◌, ◌+◌, ◌-◌, ◌^◌, ℕ, Bool, true, false, nat_lt, if◌then◌else◌, List, [], ◌∷◌, length, take, Ok, Err}
use Rattle.ss_model.specs.declared.catalog.Catalog.{Catalog}
use Rattle.ss_model.specs.declared.entry.Entry.{Entry}
use Rattle.ss_model.specs.declared.entry.Listed.{Listed}
use Rattle.ss_model.specs.declared.entry.Mode.{Mode}
use Rattle.ss_model.specs.declared.entry.Mode.TheVariants.{Strong, Weak}
use Rattle.ss_model.specs.Accepted.{Accepted}
use Rattle.ss_model.specs.Database.{Database as Model}
use Rattle.ss_model.specs.Replays.{Replays}
use Rattle.ss_record.specs.Spelling.{records}
use Rattle.ss_disk.specs.Files.{Files}
use Rattle.ss_cmdlog.specs.Generation.{Stood}
use Rattle.ss_cmdlog.specs.Store.{current_file, entries_of}
use Rattle.ss_cmdlog.specs.Opening.{number_of, store_at}
use Rattle.ss_snapshot.specs.Images.{IsImageOf, IsForeignAt}
use Rattle.ss_standing.specs.Standing.{listed_entries}
use Rattle.ss_replay.specs.Replaying.{StopsBehind}
use Rattle.ss_weak_lists.specs.Stops as weakly

-- in front of the first place stands the magic: of nine bytes in the form in which bodies may be, with the one for the mode, and of eight in
-- the older forms
abbrev pub first_place : Bool → ℕ
first_place true = 9
first_place false = 8

-- and in front of the image the first place too, and the image's length, of eight bytes each
abbrev pub image_place : Bool → ℕ
image_place bodies = first_place bodies + 16

-- in front of the records of a group stand its gate and two numbers of four bytes
abbrev pub group_head : ℕ
group_head = 9

-- where the record of the entry at this position stands behind the image
abbrev pub record_place : List (List Entry) → ℕ → ℕ
record_place [] n = 0
record_place (es ∷ groups) n =
    if nat_lt n (length es) then group_head + length (records (take n es)) else group_head + length (records es) + record_place groups (n - length es)

-- the current file, which has this number, is read as this generation
pub record ReadsAs (disk : Files) (which : ℕ) (s : Stood) : Type 0 where
  pub read : store_at disk ≡ Ok s
  pub byte : ℕ
  pub selector : disk.selector ≡ byte ∷ []
  pub named : which ≡ number_of (current_file byte)

-- ---- how entries replay on a database, from a place on

-- as they stand, each at its place
pub record ReplaysAsTheyStand (catalog : Catalog) (db : Model) (first : ℕ) (entries : List Entry) : Type 0 where
  pub list : List Listed
  pub entries_are : listed_entries list ≡ entries
  pub replays : Replays catalog db list
  pub few : first + length list ≤ 2 ^ 60

-- those of a strong log as they stand, and those of a weak one with the settlings between them
abbrev pub ReplaysAs : Mode → Catalog → Model → ℕ → List Entry → Type 0
ReplaysAs Strong catalog db first entries = ReplaysAsTheyStand catalog db first entries
ReplaysAs Weak catalog db first entries = weakly.ReplaysWeakly catalog db first entries

-- so many do, and the next one doesn't
abbrev pub StopsAfter : Mode → Catalog → Model → ℕ → List Entry → ℕ → Type 0
StopsAfter Strong catalog db first entries n = (list : List Listed) × (n ≡ length list) × StopsBehind catalog db first entries list
StopsAfter Weak catalog db first entries n = weakly.StopsBehind catalog db first entries n

-- ---- whatever bodies may be installed

-- what holds of each database of which the bytes are the image, of whatever catalogue with this one's text, which is read from it
abbrev pub WithAnyBodies : Bool → List ℕ → ℕ → Catalog → (Catalog → Model → Type 0) → Type 0
WithAnyBodies bodies image first catalog P = (other : Catalog) (db : Model) → other.text ≡ catalog.text → IsImageOf bodies image first other db → P other db

-- behind such an image the entries stop, at this position at the latest
abbrev pub NoneStopsLater : Mode → Bool → List ℕ → ℕ → Catalog → List Entry → ℕ → Type 0
NoneStopsLater mode bodies image first catalog entries n =
    WithAnyBodies bodies image first catalog (λ other db. (m : ℕ) × StopsAfter mode other db first entries m × m ≤ n)

-- ---- stores

-- The files are a store of this mode and catalogue: the image is that of a database, and the entries replay on this one. The bodies that may
-- be installed in the catalogue have among them each that the image and the entries name; two that have them are of one text.
pub record IsStore (mode : Mode) (disk : Files) (catalog : Catalog) : Type 0 where
  pub which : ℕ
  pub s : Stood
  pub reads : ReadsAs disk which s
  pub of_mode : s.mode ≡ mode
  pub accepted : Accepted catalog
  pub db : Model
  pub image : IsImageOf s.bodies s.image s.first catalog db
  pub replays : ReplaysAs mode catalog db s.first (entries_of s)

-- ---- the first fault

-- the first pass: the bytes are no generation, whatever its image says
abbrev pub HasForeignBytes : Files → ℕ → ℕ → Type 0
HasForeignBytes disk which at = (disk.selector ≢ []) × (store_at disk ≡ Err (which, at))

-- the second: the image is that of no database
pub record HasForeignImage (disk : Files) (which at : ℕ) : Type 0 where
  pub s : Stood
  pub reads : ReadsAs disk which s
  pub offset : ℕ
  pub foreign : IsForeignAt s.bodies s.first s.image offset
  pub place : at ≡ image_place s.bodies + offset

-- the third: an entry doesn't replay behind those before it, and is told at its record; whatever bodies may be installed, none gets past it
pub record HasForeignEntry (disk : Files) (which at : ℕ) : Type 0 where
  pub s : Stood
  pub reads : ReadsAs disk which s
  pub catalog : Catalog
  pub accepted : Accepted catalog
  pub db : Model
  pub image : IsImageOf s.bodies s.image s.first catalog db
  pub before : ℕ
  pub stops : StopsAfter s.mode catalog db s.first (entries_of s) before
  pub furthest : NoneStopsLater s.mode s.bodies s.image s.first catalog (entries_of s) before
  pub place : at ≡ image_place s.bodies + length s.image + record_place s.groups before

-- or settling the image of a weak store would pass the last place, and is told at the first place's first byte
pub record HasForeignSettling (disk : Files) (which at : ℕ) : Type 0 where
  pub s : Stood
  pub reads : ReadsAs disk which s
  pub of_mode : s.mode ≡ Weak
  pub catalog : Catalog
  pub accepted : Accepted catalog
  pub db : Model
  pub image : IsImageOf s.bodies s.image s.first catalog db
  pub past : weakly.PassesLast catalog db s.first
  pub others : WithAnyBodies s.bodies s.image s.first catalog (λ other d. weakly.PassesLast other d s.first)
  pub place : at ≡ first_place s.bodies

-- the first pass that finds a fault gives the place
abbrev pub HasFaultAt : Files → ℕ → ℕ → Type 0
HasFaultAt disk which at =
    HasForeignBytes disk which at ⊎ HasForeignImage disk which at ⊎ HasForeignEntry disk which at ⊎ HasForeignSettling disk which at
