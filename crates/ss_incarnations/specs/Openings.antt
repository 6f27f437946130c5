-- A strong store that is opened only at a later try, because the disk failed or there was no memory before.
use Rattle.std.specs.Prelude.{◌≡◌, ◌⊎◌, ◌≤◌, ℕ, List}
use Rattle.ss_model.specs.declared.catalog.Catalog.{Catalog}
use Rattle.ss_model.specs.declared.entry.Listed.{Listed}
use Rattle.ss_model.specs.Database.{Database}
use Rattle.ss_model.specs.Recovery.{Strong}
use Rattle.ss_model.specs.Settling.{Kept}
use Rattle.ss_disk.specs.Files.{Files}
use Rattle.ss_disk.specs.Kinds.{DiskKind}
use Rattle.ss_standing.specs.Standing.{Stands}
use Rattle.ss_headline.specs.Disks.{DiskChange, disk_of, AtEachMoment}
use Rattle.ss_headline.specs.Layers.{Opened}
use Rattle.ss_headline.specs.Sentences.{ReceiptsStay}

-- both stand for the same
abbrev pub StandForSame : Catalog → Files → Files → Type 0
StandForSame catalog a b = (count : ℕ) × (k : Kept) × Stands catalog a count k × Stands catalog b count k

-- No store was opened, but one may have been made on an empty disk, or a checkpoint in place of a store of an older form: wherever a crash
-- fell, it left what it might have left before, or what stands for the same as the disk did; what is receipted stays; and reads give what
-- they gave, or what stands for the same.
pub record NotOpened (catalog : Catalog) (disk : DiskChange) : Type 0 where
  pub nothing_ran : AtEachMoment disk (StandForSame catalog disk.seen_before)
  pub receipts_stay : (list : List Listed) → ReceiptsStay Strong catalog list disk
  pub reads : disk.honest → (disk.seen_now ≡ disk.seen_before) ⊎ StandForSame catalog disk.seen_before disk.seen_now

module _ {D : Type 0} (kind : DiskKind D) where
  abbrev pub change : D → D → DiskChange
  change = disk_of kind

  -- law: where it wasn't tried yet, none was opened
  abbrev pub NoneIsTried : Type 0
  NoneIsTried = (catalog : Catalog) (disk : D) → NotOpened catalog (change disk disk)

  -- law: nor where it was tried once more
  abbrev pub NoneIsOpened : Type 0
  NoneIsOpened =
      (catalog : Catalog) (old mid new : D) → NotOpened catalog (change old mid) → NotOpened catalog (change mid new) → NotOpened catalog (change old new)

  -- law: on an honest disk a store that was opened only at a later try was opened
  abbrev pub OpenedAtLast : Type 0
  OpenedAtLast =
      (catalog : Catalog) (db : Database) (first : ℕ) (old mid new : D) → kind.honest → NotOpened catalog (change old mid) →
      kind.faults old ≤ kind.faults mid → Opened Strong catalog db first (change mid new) → Opened Strong catalog db first (change old new)
