-- What a crash may leave of a disk between two syncs.
use Rattle.std.specs.Prelude.{◌≡◌, ℕ, ◌+◌, ◌≤◌, min, max, List, length, take, drop}
use Rattle.ss_disk.specs.declared.disk.FileNo.{FileNo}
use Rattle.ss_disk.specs.Files.{Files, file, with_file}

-- one file, where a write of n bytes is on the disk in part or not at all:
-- any bytes in the range and past the old end, the same elsewhere, a length between
pub record TornFile (at n : ℕ) (old new : List ℕ) : Type 0 where
  pub before : take at new ≡ take at old
  pub after : drop (at + n) new ≡ drop (at + n) old
  pub no_shorter : length old ≤ length new
  pub no_longer : length new ≤ max (length old) (at + n)

-- one file, where a cut is on the disk in part or not at all: any bytes in what is cut off, a length between
pub record CutFile (len : ℕ) (old new : List ℕ) : Type 0 where
  pub before : take len new ≡ take len old
  pub no_longer : length new ≤ length old
  pub no_shorter : min len (length old) ≤ length new

-- the same of all files, of which one is written or cut
pub record InFile (which : FileNo) (step : List ℕ → List ℕ → Type 0) (old new : Files) : Type 0 where
  pub bytes : List ℕ
  pub files : new ≡ with_file which bytes old
  pub stepped : step (file which old) bytes

abbrev pub TornWrite : FileNo → ℕ → ℕ → Files → Files → Type 0
TornWrite which at n = InFile which (TornFile at n)

abbrev pub TornCut : FileNo → ℕ → Files → Files → Type 0
TornCut which len = InFile which (CutFile len)

-- an image of before, after a step
abbrev pub After : (Files → Files → Type 0) → (Files → Type 0) → Files → Type 0
After step may image = (old : Files) × may old × step old image

-- each new image is an old one after a step
abbrev pub Follows : (Files → Files → Type 0) → (Files → Type 0) → (Files → Type 0) → Type 0
Follows step old new = (image : Files) → new image → After step old image

-- a crash leaves nothing that it might not have left before
abbrev pub NoNewImage : (Files → Type 0) → (Files → Type 0) → Type 0
NoNewImage old new = (image : Files) → new image → old image

-- a crash leaves this and nothing else
abbrev pub Only : Files → (Files → Type 0) → Type 0
Only files may = (image : Files) → may image → image ≡ files
