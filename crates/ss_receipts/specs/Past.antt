-- The past of a disk up to an opening, which no later value of the disk has to be compared with.
use Rattle.std.specs.Prelude.{ℕ, ◌≤◌, List, [], ◌∷◌}
use Rattle.ss_disk.specs.Files.{Files}
use Rattle.ss_disk.specs.Moments.{AnyMoment}

-- the bytes of each file, in the order of the files
abbrev pub in_order : Files → List (List ℕ)
in_order files = files.selector ∷ files.first ∷ files.second ∷ []

-- the files that have these bytes
abbrev pub files_in : List (List ℕ) → Files
files_in (selector ∷ first ∷ second ∷ []) = record { selector = selector; first = first; second = second }
files_in _ = record { selector = []; first = []; second = [] }

-- what a crash at a moment may have left of a disk, as bytes in that order
abbrev pub past_of : {D : Type 0} → (D → ℕ → Files → Type 0) → D → ℕ → List (List ℕ) → Type 0
past_of images disk t bytes = images disk t (files_in bytes)

-- since the opening a crash at any moment leaves what has P, and up to it the moments have the images of the past
pub record LeavesSince {D : Type 0} (moment : D → ℕ) (images : D → ℕ → Files → Type 0) (opened : ℕ) (past : ℕ → List (List ℕ) → Type 0) (now : D) (P : Files → Type 0) : Type 0 where
  pub later : opened ≤ moment now
  pub kept : (t : ℕ) (image : Files) → t ≤ opened → images now t image → past t (in_order image)
  pub keeps : (t : ℕ) (image : Files) → t ≤ opened → past t (in_order image) → images now t image
  pub each : AnyMoment moment images opened now P
