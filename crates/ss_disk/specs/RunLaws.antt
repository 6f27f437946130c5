-- How what holds at each moment of a run of calls is put together: P is what each image that a crash leaves has.
use Rattle.std.specs.Prelude.{◌≡◌, ℕ, ◌≤◌}
use Rattle.ss_disk.specs.Files.{Files}
use Rattle.ss_disk.specs.Crash.{NoNewImage, Only}
use Rattle.ss_disk.specs.Moments.{Passes, AnyMoment, LeavesOnly}

-- a run of no call
abbrev pub NoCall : (D : Type 0) → (D → ℕ) → (D → ℕ → Files → Type 0) → (Files → Type 0) → Type 0
NoCall D moment images P = (disk : D) → ((image : Files) → images disk (moment disk) image → P image) → LeavesOnly moment images disk disk P

-- a run of one call: what holds of the images before it and of those after it holds at each moment
abbrev pub OneCall : (D : Type 0) → (D → ℕ) → (D → ℕ → Files → Type 0) → (Files → Type 0) → Type 0
OneCall D moment images P = (old new : D) → Passes (moment old) (moment new) (images old) (images new)
    → ((image : Files) → images old (moment old) image → P image) → ((image : Files) → images new (moment new) image → P image) → LeavesOnly moment images old new P

-- one run and then another are a run
abbrev pub RunsJoin : (D : Type 0) → (D → ℕ) → (D → ℕ → Files → Type 0) → (Files → Type 0) → Type 0
RunsJoin D moment images P = (old mid new : D) → LeavesOnly moment images old mid P → LeavesOnly moment images mid new P → LeavesOnly moment images old new P

-- of a run less may be said
abbrev pub LeavesLess : (D : Type 0) → (D → ℕ) → (D → ℕ → Files → Type 0) → (Files → Type 0) → (Files → Type 0) → Type 0
LeavesLess D moment images P Q = (old new : D) → LeavesOnly moment images old new P → ((image : Files) → P image → Q image) → LeavesOnly moment images old new Q

-- what holds since an earlier moment goes on to hold
abbrev pub GoesOn : (D : Type 0) → (D → ℕ) → (D → ℕ → Files → Type 0) → (Files → Type 0) → Type 0
GoesOn D moment images P = (from : ℕ) (old new : D) → from ≤ moment old → AnyMoment moment images from old P → LeavesOnly moment images old new P → AnyMoment moment images from new P

-- a call that leaves no new image, on a disk where a crash leaves one thing alone, leaves that alone at each moment
abbrev pub StaysOnly : (D : Type 0) → (D → ℕ) → (D → ℕ → Files → Type 0) → Type 0
StaysOnly D moment images = (old new : D) (files : Files) → Passes (moment old) (moment new) (images old) (images new)
    → NoNewImage (images old (moment old)) (images new (moment new)) → Only files (images old (moment old)) → LeavesOnly moment images old new (λ image. image ≡ files)
