-- What the files of a disk stand for: so many executions, and what is kept of the database after them.
use Rattle.std.specs.Prelude.{◌≡◌, ◌⊎◌, Bool, ℕ, ◌+◌, ◌≤◌, List, length, take}
use Rattle.ss_model.specs.declared.catalog.Catalog.{Catalog}
use Rattle.ss_model.specs.declared.entry.Listed.{Listed}
use Rattle.ss_model.specs.declared.entry.Mode.TheVariants.{Strong}
pub use Rattle.ss_model.specs.Asked.{listed_entries}
use Rattle.ss_model.specs.Database.{Database, empty_database}
use Rattle.ss_model.specs.Replays.{Replays, after}
use Rattle.ss_model.specs.Settling.{Kept, kept}
use Rattle.ss_model.specs.WholeDatabase.{WholeDatabase, HadAtMost}
use Rattle.ss_disk.specs.Files.{Files}
use Rattle.ss_disk.specs.Moments.{StaysFrom}
use Rattle.ss_cmdlog.specs.Generation.{Stood}
use Rattle.ss_cmdlog.specs.Store.{IsEmpty, StandsFor, entries_of}
use Rattle.ss_standing.specs.Image.{image_bytes}
use Rattle.ss_standing.specs.FitsImage.{FitsImage}

-- a whole database of which the bytes are the image at this place, with bodies or without: no stream has had more batches than there
-- were executions
pub record IsImageAt (catalog : Catalog) (bodies : Bool) (first : ℕ) (bytes : List ℕ) (db : Database) : Type 0 where
  pub whole : WholeDatabase catalog db
  pub had : HadAtMost first db
  pub fits : FitsImage bodies catalog (kept catalog db)
  pub spelled : bytes ≡ image_bytes bodies catalog (kept catalog db)

-- a strong generation's image is that of a database, and its entries replay on this; after them there are so many executions, and so much
-- is kept
pub record Replayed (catalog : Catalog) (s : Stood) (count : ℕ) (k : Kept) : Type 0 where
  pub strong : s.mode ≡ Strong
  pub opening : Database
  pub image : IsImageAt catalog s.bodies s.first s.image opening
  pub list : List Listed
  pub entries : listed_entries list ≡ entries_of s
  pub replays : Replays catalog opening list
  pub count_is : count ≡ s.first + length list
  pub kept_is : k ≡ kept catalog (after catalog opening list)

-- an empty disk stands for no execution and the empty database
pub record StandsForNothing (catalog : Catalog) (image : Files) (count : ℕ) (k : Kept) : Type 0 where
  pub empty : IsEmpty image
  pub none : count ≡ 0
  pub nothing : k ≡ kept catalog (empty_database catalog)

-- the current generation stands for them
pub record StandsForReplayed (catalog : Catalog) (image : Files) (count : ℕ) (k : Kept) : Type 0 where
  pub stood : Stood
  pub stands : StandsFor image stood
  pub replayed : Replayed catalog stood count k

-- so many executions, and so much is kept after them
abbrev pub Stands : Catalog → Files → ℕ → Kept → Type 0
Stands catalog image count k = StandsForNothing catalog image count k ⊎ StandsForReplayed catalog image count k

-- the image stands for a front of the list that ends at this place at least
pub record StandsForFront (catalog : Catalog) (db : Database) (first : ℕ) (list : List Listed) (least : ℕ) (image : Files) : Type 0 where
  pub some : ℕ
  pub within : some ≤ length list
  pub enough : least ≤ first + some
  pub stands : Stands catalog image (first + some) (kept catalog (after catalog db (take some list)))

-- some first entries of the list, or none or all of them
abbrev pub Prefix : Catalog → Database → ℕ → List Listed → Files → Type 0
Prefix catalog db first list = StandsForFront catalog db first list first

-- the whole list
abbrev pub StandsForAll : Catalog → Database → ℕ → List Listed → Files → Type 0
StandsForAll catalog db first list image = Stands catalog image (first + length list) (kept catalog (after catalog db list))

-- the image stands for so many executions at least
pub record StandsForAtLeast (catalog : Catalog) (n : ℕ) (image : Files) : Type 0 where
  pub count : ℕ
  pub k : Kept
  pub stands : Stands catalog image count k
  pub enough : n ≤ count

-- each present image of the disk does so
abbrev pub Receipt : {D : Type 0} → Catalog → (D → Files → Type 0) → ℕ → D → Type 0
Receipt catalog present n disk = (image : Files) → present disk image → StandsForAtLeast catalog n image

-- so many executions that a crash at some moment could not take, from this one on up to now, a crash at no later moment takes
abbrev pub StandsOn : {D : Type 0} → Catalog → (D → ℕ) → (D → ℕ → Files → Type 0) → ℕ → D → Type 0
StandsOn catalog moment images from now = (n : ℕ) → StaysFrom moment images from now (StandsForAtLeast catalog n)
