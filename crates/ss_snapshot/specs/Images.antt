-- Which bytes are the image of a database, and the first byte of others that can't be.
use Rattle.std.specs.Prelude.{◌≡◌, ◌⊎◌, ◌-◌, ◌^◌, ◌<◌, ◌≤◌, ◌++◌, ℕ, Bool, List, length, Err, Result, MatchResult}
use Rattle.ss_model.specs.declared.catalog.Catalog.{Catalog}
use Rattle.ss_model.specs.Accepted.{Accepted}
use Rattle.ss_model.specs.Database.{Database as Model}
use Rattle.ss_model.specs.Settling.{kept}
use Rattle.ss_shard.specs.declared.database.Database.{Database}
use Rattle.ss_shard.specs.Databases.{StandsFor}
use Rattle.ss_standing.specs.Image.{text_bytes}
use Rattle.ss_standing.specs.ImageForm.{kept_in, to_the_end}
use Rattle.ss_standing.specs.Standing.{IsImageAt}
use Rattle.ss_snapshot.specs.declared.error.ImageError.{ImageError}
use Rattle.ss_snapshot.specs.declared.error.ImageError.TheVariants.{NoMemory, Foreign}
use Rattle.ss_snapshot.specs.declared.reading.fields.PartError.{PartError}
use Rattle.ss_snapshot.specs.declared.reading.fields.PartError.TheVariants as part
use Rattle.ss_snapshot.specs.Own.{IsReadFromItsText, SameButSpares}
use Rattle.ss_snapshot.specs.Foreign.{EndsInText, HasForeignText}

-- the bytes are the image at this place of a database, with bodies or without, of a catalogue whose text can be read again
pub record IsImageOf (bodies : Bool) (bytes : List ℕ) (first : ℕ) (catalog : Catalog) (db : Model) : Type 0 where
  pub own : IsReadFromItsText catalog
  pub short : length catalog.text < 2 ^ 32
  pub image : IsImageAt catalog bodies first bytes db

-- whatever bodies may be installed in a catalogue of this text, what stands behind the text is refused with so many bytes left at least
abbrev pub NoneGetsFurther : Bool → Catalog → ℕ → List ℕ → ℕ → Type 0
NoneGetsFurther bodies catalog first rest left =
    (other : Catalog) → IsReadFromItsText other → other.text ≡ catalog.text → (m : ℕ) × (to_the_end (kept_in bodies other first) rest ≡ Err m) × left ≤ m

-- what stands behind a catalogue's text has not the form of what is kept: so many bytes are left from the first that can't be
pub record IsRefusedAt (bodies : Bool) (catalog : Catalog) (first : ℕ) (rest : List ℕ) (left : ℕ) : Type 0 where
  pub refused : to_the_end (kept_in bodies catalog first) rest ≡ Err left
  pub furthest : NoneGetsFurther bodies catalog first rest left

-- a refusal of it tells these; want of memory says nothing
abbrev pub RefusesRest : Bool → Catalog → ℕ → List ℕ → PartError → Type 0
RefusesRest bodies catalog first rest part.NoMemory = Unit {0}
RefusesRest bodies catalog first rest (part.Foreign left) = IsRefusedAt bodies catalog first rest left

-- the text is an accepted catalogue's, and what stands behind it has not the form of what is kept: it is told at its first byte that can't
-- be, up to which it is read with the bodies that stand before it
pub record HasForeignRest (bodies : Bool) (first : ℕ) (bytes : List ℕ) (at : ℕ) : Type 0 where
  pub catalog : Catalog
  pub own : IsReadFromItsText catalog
  pub accepted : Accepted catalog
  pub short : length catalog.text < 2 ^ 32
  pub rest : List ℕ
  pub begins : bytes ≡ text_bytes catalog.text ++ rest
  pub left : ℕ
  pub refused : IsRefusedAt bodies catalog first rest left
  pub offset : at ≡ length bytes - left

-- the offset of the first byte that can't be
abbrev pub IsForeignAt : Bool → ℕ → List ℕ → ℕ → Type 0
IsForeignAt bodies first bytes at = EndsInText bytes at ⊎ HasForeignText bytes at ⊎ HasForeignRest bodies first bytes at

-- a refusal tells it; want of memory says nothing
abbrev pub Refuses : Bool → ℕ → List ℕ → ImageError → Type 0
Refuses bodies first bytes NoMemory = Unit {0}
Refuses bodies first bytes (Foreign at) = IsForeignAt bodies first bytes at

-- a catalogue, and a database of the program that stands for one of which these bytes are the image
abbrev pub IsReadAs : Bool → List ℕ → ℕ → Catalog × Database → Type 0
IsReadAs bodies bytes first read = (db : Model) × IsImageOf bodies bytes first read.0 db × StandsFor read.0 read.1 db

-- what is read of the image of a database is its catalogue, bodies to be installed aside, and stands for it, but for want of memory
abbrev pub FindsImage : Bool → List ℕ → ℕ → Result (Catalog × Database) ImageError → Type 0
FindsImage bodies bytes first result =
    (catalog : Catalog) (db : Model) → IsImageOf bodies bytes first catalog db →
    MatchResult result (λ read. SameButSpares read.0 catalog × StandsFor read.0 read.1 db) (λ refused. refused ≡ NoMemory)

-- law: bytes are the image of databases of one catalogue alone, bodies to be installed aside, of which the same is kept
abbrev pub HasOneKept : Type 0
HasOneKept =
    (bodies : Bool) (bytes : List ℕ) (first : ℕ) (a b : Catalog) (x y : Model) → IsImageOf bodies bytes first a x → IsImageOf bodies bytes first b y →
    SameButSpares a b × (kept a x ≡ kept b y)

-- law: bytes that are an image have no first byte that can't be
abbrev pub IsImageOrForeign : Type 0
IsImageOrForeign =
    (bodies : Bool) (bytes : List ℕ) (first : ℕ) (catalog : Catalog) (db : Model) (at : ℕ) → IsImageOf bodies bytes first catalog db →
    IsForeignAt bodies first bytes at → ⊥

-- law: and others have one such byte at most
abbrev pub HasOneOffset : Type 0
HasOneOffset = (bodies : Bool) (bytes : List ℕ) (first m n : ℕ) → IsForeignAt bodies first bytes m → IsForeignAt bodies first bytes n → m ≡ n
