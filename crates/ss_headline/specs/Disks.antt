-- A disk before and after a call, and what a crash leaves of it meanwhile.
use Rattle.std.specs.Prelude.{◌≡◌, ◌⊎◌, ℕ}
use Rattle.ss_disk.specs.Kinds.{DiskKind, present as present_images}
use Rattle.ss_model.specs.declared.catalog.Catalog.{Catalog}
use Rattle.ss_model.specs.declared.entry.Mode.{Mode}
use Rattle.ss_model.specs.Database.{empty_database}
use Rattle.ss_disk.specs.Files.{Files}
use Rattle.ss_disk.specs.Moments.{LeavesOnly, StaysFrom}
use Rattle.ss_cmdlog.specs.Store.{IsEmpty}
use Rattle.ss_fronts.specs.Fronts.{StoodAs, fresh_recovery}

-- a disk before and after a call: what reads give, what a crash leaves, and how often it has failed
pub record DiskChange : Type 1 where
  -- that reads give what is said of them
  pub tells : Type 0
  -- that a crash leaves what is said of it, which all that is said of crashes presumes
  pub honest : Type 0
  -- that it is the very disk that it was, which no call has reached
  pub uncalled : Type 0
  pub seen_before : Files
  pub seen_now : Files
  -- what a crash might leave before, and what it may leave now
  pub present_before : Files → Type 0
  pub present : Files → Type 0
  -- that a crash at any moment of the call leaves only what has this, and the moments before keep their images
  pub leaves_only : (Files → Type 0) → Type 0
  -- that what each image of a moment of the call has, each image of each later moment has
  pub stays : (Files → Type 0) → Type 0
  pub faults_before : ℕ
  pub faults_now : ℕ

-- the disk that was so before, and is so now
abbrev pub disk_of : {D : Type 0} → DiskKind D → D → D → DiskChange
disk_of kind before now = record {
  tells = kind.tells;
  honest = kind.honest;
  uncalled = now ≡ before;
  seen_before = kind.seen before;
  seen_now = kind.seen now;
  present_before = present_images kind before;
  present = present_images kind now;
  leaves_only = LeavesOnly kind.moment kind.images before now;
  stays = StaysFrom kind.moment kind.images (kind.moment before) now;
  faults_before = kind.faults before;
  faults_now = kind.faults now;
}

-- a crash at each moment of the call leaves what has this
abbrev pub AlwaysLeaves : DiskChange → (Files → Type 0) → Type 0
AlwaysLeaves disk P = disk.honest → disk.leaves_only P

-- wherever a crash fell in the call, it left what it might have left before, or what has this
abbrev pub AtEachMoment : DiskChange → (Files → Type 0) → Type 0
AtEachMoment disk P = AlwaysLeaves disk (λ image. disk.present_before image ⊎ P image)

-- behind the call a crash leaves what has this
abbrev pub AtTheExit : DiskChange → (Files → Type 0) → Type 0
AtTheExit disk P = disk.honest → (image : Files) → disk.present image → P image

-- ---- calls that ran nothing

-- wherever a crash fell, it left what it might have left before
abbrev pub AsBefore : DiskChange → Type 0
AsBefore disk = AlwaysLeaves disk disk.present_before

-- it was read at most: it is as before, and reads give what they gave
pub record OnlyRead (disk : DiskChange) : Type 0 where
  pub as_before : AsBefore disk
  pub reads : disk.tells → disk.seen_now ≡ disk.seen_before

-- wherever a crash fell, it left what it might have left before, or, of an empty disk, what a store of this mode is that was just made
abbrev pub NothingRan : Mode → Catalog → DiskChange → Type 0
NothingRan mode catalog disk =
    AtEachMoment disk (λ image. IsEmpty disk.seen_before × StoodAs (fresh_recovery mode catalog) catalog (empty_database catalog) 0 image)
