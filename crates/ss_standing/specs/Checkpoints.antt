-- A generation in place of another that stands for the same: a checkpoint.
use Rattle.std.specs.Prelude.{◌≡◌, ◌⊎◌, Bool, true, ◌+◌, ◌++◌, ◌≤◌, ℕ, List, [], ◌∷◌, take, length, Ok}
use Rattle.ss_model.specs.declared.catalog.Catalog.{Catalog}
use Rattle.ss_model.specs.declared.entry.Listed.{Listed}
use Rattle.ss_model.specs.declared.entry.Mode.{Mode}
use Rattle.ss_model.specs.declared.entry.Mode.TheVariants.{Strong}
use Rattle.ss_model.specs.Accepted.{Accepted}
use Rattle.ss_model.specs.Database.{Database}
use Rattle.ss_model.specs.Replays.{after}
use Rattle.ss_model.specs.Settling.{Kept, kept}
use Rattle.ss_model.specs.WholeDatabase.{WholeDatabase, HadAtMost}
use Rattle.ss_record.specs.Numbers.{IsBytes}
use Rattle.ss_disk.specs.Files.{Files}
use Rattle.ss_disk.specs.Moments.{LeavesOnly}
use Rattle.ss_cmdlog.specs.Generation.{Spells, Stood}
use Rattle.ss_cmdlog.specs.Store.{StandsFor}
use Rattle.ss_standing.specs.FitsImage.{FitsImage}
use Rattle.ss_standing.specs.Image.{image_bytes, kept_bytes, text_bytes}
use Rattle.ss_standing.specs.ImageForm.{IsKeptOf, kept_in, to_the_end}
use Rattle.ss_standing.specs.Readers.{IsExact}
use Rattle.ss_standing.specs.Standing.{IsImageAt, Replayed, StandsForReplayed}
use Rattle.ss_standing.specs.Keeping.{Keeps}

-- the generation of a database at a place, in this mode and the new form: its image, and no entry behind it
abbrev pub checkpoint_of : Mode → Catalog → ℕ → Database → Stood
checkpoint_of mode catalog place db = record { bodies = true; mode = mode; first = place; image = image_bytes true catalog (kept catalog db); groups = [] }

-- the database behind the first entries of a list, so many
abbrev pub after_first : Catalog → Database → List Listed → ℕ → Database
after_first catalog db list held = after catalog db (take held list)

-- to their end the bytes are read as this
abbrev pub IsReadAs : Bool → Catalog → ℕ → List ℕ → Kept → Type 0
IsReadAs bodies catalog first rest k = to_the_end (kept_in bodies catalog first) rest ≡ Ok k

-- law: behind its text an image is read as what is kept of a whole database, and nothing else is
abbrev pub ImagesAreExact : Type 0
ImagesAreExact =
    (bodies : Bool) (catalog : Catalog) (most : ℕ) → Accepted catalog →
    IsExact (kept_in bodies catalog most) (kept_bytes bodies catalog) (IsKeptOf bodies catalog most)

-- law: what is read behind a catalogue's text, to the end of the bytes, is kept of a database of which they are the image
abbrev pub ReadImagesStand : Type 0
ReadImagesStand =
    (bodies : Bool) (catalog : Catalog) (first : ℕ) (rest : List ℕ) (k : Kept) → Accepted catalog → IsBytes rest → IsReadAs bodies catalog first rest k →
    (db : Database) × IsImageAt catalog bodies first (text_bytes catalog.text ++ rest) db × (k ≡ kept catalog db)

-- law: and the image of a database is read as what is kept of it
abbrev pub ImagesAreRead : Type 0
ImagesAreRead =
    (bodies : Bool) (catalog : Catalog) (first : ℕ) (bytes : List ℕ) (db : Database) → Accepted catalog → IsImageAt catalog bodies first bytes db →
    (bytes ≡ text_bytes catalog.text ++ kept_bytes bodies catalog (kept catalog db))
    × IsReadAs bodies catalog first (kept_bytes bodies catalog (kept catalog db)) (kept catalog db)

-- law: a checkpoint of a whole database stands for its place, and for what is kept of the database
abbrev pub CheckpointsStand : Type 0
CheckpointsStand =
    (catalog : Catalog) (place : ℕ) (db : Database) → WholeDatabase catalog db → HadAtMost place db → FitsImage true catalog (kept catalog db) →
    Replayed catalog (checkpoint_of Strong catalog place db) place (kept catalog db)

-- law: so does one of the database behind a front of a list, at the place behind it
abbrev pub FrontCheckpointsStand : Type 0
FrontCheckpointsStand =
    (catalog : Catalog) (db : Database) (first : ℕ) (list : List Listed) (held : ℕ) → Accepted catalog → WholeDatabase catalog db → HadAtMost first db →
    held ≤ length list → FitsImage true catalog (kept catalog (after_first catalog db list held)) →
    Replayed catalog (checkpoint_of Strong catalog (first + held) (after_first catalog db list held)) (first + held) (kept catalog (after_first catalog db list held))

-- law: while the one takes the place of the other, what a crash leaves stands for the same
abbrev pub CheckpointsChangeNothing : Type 0
CheckpointsChangeNothing =
    (catalog : Catalog) (s next : Stood) (count : ℕ) (k : Kept) (image : Files) → Replayed catalog s count k → Replayed catalog next count k →
    StandsFor image s ⊎ StandsFor image next → StandsForReplayed catalog image count k

-- law: what stands of a list goes on over a checkpoint behind all that the log has of it
abbrev pub KeepsOverCheckpoint : (D : Type 0) → (D → ℕ) → (D → ℕ → Files → Type 0) → Type 0
KeepsOverCheckpoint D moment images =
    (catalog : Catalog) (db : Database) (first : ℕ) (list : List Listed) (held : ℕ) (s next : Stood) (start old new : D) →
    Keeps moment images catalog db first list held s start old →
    Replayed catalog next (first + held) (kept catalog (after_first catalog db list held)) →
    LeavesOnly moment images old new (λ image. StandsFor image s ⊎ StandsFor image next) →
    Keeps moment images catalog db first list held next start new

-- law: where the generations of both files stand for the same, so do the files, whatever byte the selector holds
abbrev pub EitherGenerationStands : Type 0
EitherGenerationStands =
    (catalog : Catalog) (disk : Files) (first second : Stood) (count : ℕ) (k : Kept) (byte : ℕ) → Spells disk.first first → Spells disk.second second →
    Replayed catalog first count k → Replayed catalog second count k → disk.selector ≡ byte ∷ [] → StandsForReplayed catalog disk count k
