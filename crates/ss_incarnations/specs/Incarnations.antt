-- Runs over the faults of a disk: one incarnation after another, each on the disk that was opened again.
use Rattle.std.specs.Prelude.{◌≡◌, ◌⊎◌, ◌≤◌, ◌+◌, ℕ, List, [], ◌∷◌, ◌++◌, length, take}
use Rattle.ss_model.specs.declared.catalog.Catalog.{Catalog}
use Rattle.ss_model.specs.declared.entry.Listed.{Listed}
use Rattle.ss_model.specs.Database.{Database}
use Rattle.ss_disk.specs.Files.{Files}
use Rattle.ss_disk.specs.Kinds.{DiskKind, present}
use Rattle.ss_standing.specs.Standing.{Prefix, StandsForFront}
use Rattle.ss_headline.specs.Sentences.{entries_from}

-- an incarnation of a run: it began at this moment, the run's list was this when it ended, and all below this count was receipted by then
pub record Incarnation : Type 0 where
  pub moment : ℕ
  pub list : List Listed
  pub receipted : ℕ

-- a crash at any moment from one to another leaves what has P
abbrev pub Between : (ℕ → Files → Type 0) → ℕ → ℕ → (Files → Type 0) → Type 0
Between images from till P = (t : ℕ) (image : Files) → from ≤ t → t ≤ till → images t image → P image

-- Of incarnations, the last one first: wherever a crash falls, up to this moment, it leaves a front of the list of the incarnation in which
-- it falls. The oldest may also leave what a crash might have left before the call; each later one has all in its front that was receipted
-- before it began.
abbrev pub LeaveFronts : Catalog → Database → ℕ → (Files → Type 0) → (ℕ → Files → Type 0) → ℕ → List Incarnation → Type 0
LeaveFronts catalog db first before images till [] = Unit {0}
LeaveFronts catalog db first before images till (i ∷ []) =
    (i.moment ≤ till) × Between images i.moment till (λ image. before image ⊎ Prefix catalog db first i.list image)
LeaveFronts catalog db first before images till (i ∷ j ∷ earlier) =
    (i.moment ≤ till) × Between images i.moment till (StandsForFront catalog db first i.list j.receipted) ×
    LeaveFronts catalog db first before images i.moment (j ∷ earlier)

-- The list of the next incarnation begins with a front of the one before, which holds all that was receipted: of each client all but its last
-- 16 entries at most. What is in that front was found on the disk, so it is receipted now.
pub record GoesOnFrom (first : ℕ) (before next : Incarnation) : Type 0 where
  pub stayed : ℕ
  pub within : stayed ≤ length before.list
  pub receipted : before.receipted ≤ first + stayed
  pub few_behind : (client : ℕ) → length (entries_from client before.receipted first before.list) ≤ 16
  pub found : first + stayed ≤ next.receipted
  pub rest : List Listed
  pub begins : next.list ≡ take stayed before.list ++ rest

-- each goes on from the one before, the last one first
abbrev pub EachGoesOn : ℕ → List Incarnation → Type 0
EachGoesOn first [] = Unit {0}
EachGoesOn first (i ∷ []) = Unit {0}
EachGoesOn first (i ∷ j ∷ earlier) = GoesOnFrom first j i × EachGoesOn first (j ∷ earlier)

-- the first of them, which stands last, began at this moment
abbrev pub BeginAt : ℕ → List Incarnation → Type 0
BeginAt moment [] = ⊥
BeginAt moment (i ∷ []) = i.moment ≡ moment
BeginAt moment (i ∷ j ∷ earlier) = BeginAt moment (j ∷ earlier)

-- these are the incarnations of a call from the one disk to the other, the last one first
pub record AreIncarnations {D : Type 0} (kind : DiskKind D) (catalog : Catalog) (db : Database) (first : ℕ) (incarnations : List Incarnation)
    (old new : D) : Type 0 where
  pub begin : BeginAt (kind.moment old) incarnations
  pub each_goes_on : EachGoesOn first incarnations
  pub wherever_a_crash_falls : LeaveFronts catalog db first (present kind old) (kind.images new) (kind.moment new) incarnations
