-- Calls that ran nothing: what they leave of the disk.
use Rattle.std.specs.Prelude.{ℕ}
use Rattle.ss_disk.specs.Kinds.{DiskKind}
use Rattle.ss_model.specs.declared.catalog.Catalog.{Catalog}
use Rattle.ss_model.specs.declared.entry.Mode.TheVariants.{Strong}
use Rattle.ss_model.specs.Database.{Database}
use Rattle.ss_model.specs.Settling.{kept}
use Rattle.ss_standing.specs.Standing.{Stands}
use Rattle.ss_headline.specs.Disks.{DiskChange, disk_of, AtEachMoment, OnlyRead, NothingRan}

module _ {D : Type 0} (kind : DiskKind D) where
  abbrev pub change : D → D → DiskChange
  change = disk_of kind

  -- law: of a disk that no call has reached nothing has changed
  abbrev pub UncalledIsOnlyRead : Type 0
  UncalledIsOnlyRead = (old new : D) → (change old new).uncalled → OnlyRead (change old new)

  -- law: where a disk stood for a database, as a strong store, and nothing ran, a crash leaves what it might have left before, or what
  -- stands for that one
  abbrev pub NothingRanStands : Type 0
  NothingRanStands =
      (catalog : Catalog) (db : Database) (first : ℕ) (old new : D) → Stands catalog (kind.seen old) first (kept catalog db) →
      NothingRan Strong catalog (change old new) → AtEachMoment (change old new) (λ image. Stands catalog image first (kept catalog db))
