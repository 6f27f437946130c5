-- An image stands for one thing, and goes on standing for what is behind it.
use Rattle.std.specs.Prelude.{◌≡◌, ◌⊎◌, Bool, true, ℕ, ◌+◌, ◌^◌, ◌<◌, List, length}
use Rattle.ss_model.specs.declared.catalog.Catalog.{Catalog}
use Rattle.ss_model.specs.declared.entry.Listed.{Listed}
use Rattle.ss_model.specs.declared.entry.Mode.TheVariants.{Strong}
use Rattle.ss_model.specs.Database.{Database, empty_database, own_bodies}
use Rattle.ss_model.specs.Replays.{Replays, after}
use Rattle.ss_model.specs.Settling.{Kept, kept}
use Rattle.ss_model.specs.WholeDatabase.{WholeDatabase}
use Rattle.ss_model.specs.Accepted.{Accepted}
use Rattle.ss_disk.specs.Files.{Files}
use Rattle.ss_cmdlog.specs.Generation.{Stood}
use Rattle.ss_cmdlog.specs.Formatting.{fresh}
use Rattle.ss_cmdlog.specs.Groups.{groups_of}
use Rattle.ss_cmdlog.specs.Store.{IsEmpty, StandsFor, StandsForPart}
use Rattle.ss_standing.specs.Image.{image_bytes, empty_image_of}
use Rattle.ss_standing.specs.FitsImage.{FitBodies, FitsImage}
use Rattle.ss_standing.specs.Standing.{listed_entries, Replayed, StandsForReplayed, Stands, Prefix, StandsForFront, StandsForAtLeast}
use Rattle.ss_standing.specs.Behind.{IsBehind, HasFront}

-- the image tells what is kept: where the two have the same image, the same is kept of them
abbrev pub TellsKept : Bool → Catalog → Database → Database → Type 0
TellsKept bodies catalog a b = image_bytes bodies catalog (kept catalog a) ≡ image_bytes bodies catalog (kept catalog b) → kept catalog a ≡ kept catalog b

-- law: an image tells what is kept of a whole database that it has room for, in each form
abbrev pub ImageTellsKept : Type 0
ImageTellsKept =
    (bodies : Bool) (catalog : Catalog) (a b : Database) → WholeDatabase catalog a → WholeDatabase catalog b →
    FitsImage bodies catalog (kept catalog a) → FitsImage bodies catalog (kept catalog b) →
    TellsKept bodies catalog a b

-- law: on one database a list that replays is told by its entries
abbrev pub EntriesTellList : Type 0
EntriesTellList =
    (catalog : Catalog) (db : Database) (one other : List Listed) → Replays catalog db one → Replays catalog db other →
    listed_entries one ≡ listed_entries other → one ≡ other

-- law: an image stands for one count, and for one that is kept
abbrev pub StandsForOne : Type 0
StandsForOne =
    (catalog : Catalog) (image : Files) (m n : ℕ) (j k : Kept) → Stands catalog image m j → Stands catalog image n k → (m ≡ n) × (j ≡ k)

-- law: an image that isn't empty stands for something of catalogues with one text, where an image has room for this
abbrev pub StandsForOneText : Type 0
StandsForOneText =
    (a b : Catalog) (image : Files) (m n : ℕ) (j k : Kept) → length a.text < 2 ^ 32 → length b.text < 2 ^ 32 →
    StandsForReplayed a image m j → StandsForReplayed b image n k → a.text ≡ b.text

-- law: behind a generation that stands for a place, entries that replay there stand for the place after them
abbrev pub GenerationsGoOn : Type 0
GenerationsGoOn =
    (catalog : Catalog) (s new : Stood) (count : ℕ) (db : Database) (rest : List Listed) →
    Replayed catalog s count (kept catalog db) → Replays catalog db rest → IsBehind s new (listed_entries rest) →
    Replayed catalog new (count + length rest) (kept catalog (after catalog db rest))

-- law: an image that has the generation and a front of the list behind it is a prefix
abbrev pub FrontsStand : Type 0
FrontsStand =
    (catalog : Catalog) (s : Stood) (first : ℕ) (db : Database) (list : List Listed) (image : Files) →
    Replayed catalog s first (kept catalog db) → Replays catalog db list → HasFront s list image → Prefix catalog db first list image

-- law: in mid-flush a crash leaves a front of what is flushed
abbrev pub FlushesLeaveFronts : Type 0
FlushesLeaveFronts = (s : Stood) (list : List Listed) (image : Files) → StandsForPart s (groups_of (listed_entries list)) image → HasFront s list image

-- law: in mid-format of a strong store a crash leaves what stands for the empty database, where an image has room for the procedures' own bodies
abbrev pub FormingStands : Type 0
FormingStands =
    (catalog : Catalog) (image : Files) → Accepted catalog → FitBodies true catalog (own_bodies catalog) →
    IsEmpty image ⊎ StandsFor image (fresh Strong (empty_image_of catalog)) →
    Stands catalog image 0 (kept catalog (empty_database catalog))

-- law: a prefix of a list that stands for so many executions at least is a front that ends there at least
abbrev pub ReceiptsBoundFronts : Type 0
ReceiptsBoundFronts =
    (catalog : Catalog) (db : Database) (first : ℕ) (list : List Listed) (n : ℕ) (image : Files) →
    Prefix catalog db first list image → StandsForAtLeast catalog n image → StandsForFront catalog db first list n image
