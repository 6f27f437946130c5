-- What holds of each moment of a run of calls on a disk.
use Rattle.std.specs.Prelude.{ℕ, ◌+◌, ◌≤◌}
use Rattle.ss_disk.specs.declared.disk.FileNo.{FileNo}
use Rattle.ss_disk.specs.Files.{Files}
use Rattle.ss_disk.specs.Crash.{After, NoNewImage, TornWrite}

-- A call goes by: the moments up to now keep their images, and at most one moment more has come.
pub record Passes (before now : ℕ) (past images : ℕ → Files → Type 0) : Type 0 where
  pub later : before ≤ now
  pub by_one : now ≤ before + 1
  pub kept : (t : ℕ) (image : Files) → t ≤ before → images t image → past t image
  pub keeps : (t : ℕ) (image : Files) → t ≤ before → past t image → images t image

-- A crash at any moment from this one on, up to now, leaves what has P.
abbrev pub AnyMoment : {D : Type 0} → (D → ℕ) → (D → ℕ → Files → Type 0) → ℕ → D → (Files → Type 0) → Type 0
AnyMoment moment images from disk P = (t : ℕ) (image : Files) → from ≤ t → t ≤ moment disk → images disk t image → P image

-- From old to new a crash at any moment leaves what has P, and what was before keeps its images.
pub record LeavesOnly {D : Type 0} (moment : D → ℕ) (images : D → ℕ → Files → Type 0) (old new : D) (P : Files → Type 0) : Type 0 where
  pub later : moment old ≤ moment new
  pub kept : (t : ℕ) (image : Files) → t ≤ moment old → images new t image → images old t image
  pub keeps : (t : ℕ) (image : Files) → t ≤ moment old → images old t image → images new t image
  pub each : AnyMoment moment images (moment old) new P

-- What a crash at any moment leaves is what one might leave before, or that with a torn write.
abbrev pub LeavesWrite : {D : Type 0} → (D → ℕ) → (D → ℕ → Files → Type 0) → D → D → FileNo → ℕ → ℕ → Type 0
LeavesWrite moment images old new which at n = LeavesOnly moment images old new (After (TornWrite which at n) (images old (moment old)))

-- From this moment on, up to now, a crash leaves nothing that it might not have left at each moment between.
abbrev pub LeavesFewer : {D : Type 0} → (D → ℕ) → (D → ℕ → Files → Type 0) → ℕ → D → Type 0
LeavesFewer moment images from now = (t u : ℕ) → from ≤ t → t ≤ u → u ≤ moment now → NoNewImage (images now t) (images now u)

-- What each image of a moment has, from this one on up to now, each image of each later moment has.
abbrev pub StaysFrom : {D : Type 0} → (D → ℕ) → (D → ℕ → Files → Type 0) → ℕ → D → (Files → Type 0) → Type 0
StaysFrom moment images from now P = (t u : ℕ) → from ≤ t → t ≤ u → u ≤ moment now → ((image : Files) → images now t image → P image) → (image : Files) → images now u image → P image
