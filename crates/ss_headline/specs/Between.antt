-- Between calls: what is said of a disk on which nothing was pending, and how two runs on one disk go on from each other.
use Rattle.std.specs.Prelude.{◌≡◌, ◌⊎◌, ◌≤◌, ◌+◌, ℕ, List, ◌++◌, length, take, Option}
use Rattle.ss_disk.specs.Kinds.{DiskKind}
use Rattle.ss_model.specs.declared.catalog.Catalog.{Catalog}
use Rattle.ss_model.specs.declared.entry.Listed.{Listed}
use Rattle.ss_model.specs.declared.entry.Request.{Request}
use Rattle.ss_model.specs.Database.{Database}
use Rattle.ss_model.specs.Recovery.{Strong}
use Rattle.ss_model.specs.Replays.{Replays, after}
use Rattle.ss_model.specs.Settling.{Drained, kept}
use Rattle.ss_disk.specs.Files.{Files}
use Rattle.ss_disk.specs.Moments.{LeavesOnly}
use Rattle.ss_cmdlog.specs.Log.{IsSettled}
use Rattle.ss_standing.specs.Standing.{Prefix, StandsForAtLeast}
use Rattle.ss_headline.specs.Disks.{DiskChange, disk_of, AlwaysLeaves, AtEachMoment, AsBefore}
use Rattle.ss_headline.specs.Runs.{IsWholeRun, IsStoppedRun}

-- ---- a disk on which nothing was pending

module _ {D : Type 0} (kind : DiskKind D) where
  abbrev pub change : D → D → DiskChange
  change = disk_of kind

  -- law: where nothing was pending, a crash left what has this at each moment, if what a read gave before has it
  abbrev pub QuietLeaves : (Files → Type 0) → Type 0
  QuietLeaves P =
      (old new : D) → kind.honest → IsSettled kind old → P (kind.seen old) → AtEachMoment (change old new) P →
      LeavesOnly kind.moment kind.images old new P

  -- law: and where the disk is as before, what a read gave
  abbrev pub QuietStays : Type 0
  QuietStays =
      (old new : D) → kind.honest → IsSettled kind old → AsBefore (change old new) →
      LeavesOnly kind.moment kind.images old new (λ image. image ≡ kind.seen old)

-- ---- two runs on one disk

-- the second list begins where the first ends, so that both are one list from the first one's database on
pub record AreOneList (catalog : Catalog) (a b : Database) (m n : ℕ) (one two : List Listed) : Type 0 where
  pub place : n ≡ m + length one
  pub same : kept catalog b ≡ kept catalog (after catalog a one)
  pub replays : Replays catalog a (one ++ two)
  -- where nothing is pending behind the second list, nothing is behind both
  pub drained : Drained catalog (after catalog b two) → Drained catalog (after catalog a (one ++ two))

-- a run on a strong store, whole or stopped, had this list
abbrev pub HadList : Option ℕ → ℕ → Catalog → List Request → Database → ℕ → List Listed → DiskChange → Type 0
HadList every limit catalog requests opening first list disk =
    ((text : List ℕ) × IsWholeRun Strong every limit catalog requests opening first list text disk) ⊎
    ((status : ℕ) × (count : ℕ) × (text : List ℕ) × IsStoppedRun Strong every limit catalog requests opening first list status count text disk)

module _ {D : Type 0} (disk_of : D → D → DiskChange) where
  -- a crash in either call leaves a prefix of the one list, and all of the first stands through the second
  pub record GoesOnBehindAll (catalog : Catalog) (a b : Database) (m n : ℕ) (one two : List Listed) (old mid new : D) : Type 0 where
    pub lists : AreOneList catalog a b m n one two
    pub crashes : AtEachMoment (disk_of old new) (Prefix catalog a m (one ++ two))
    pub stays : AlwaysLeaves (disk_of mid new) (StandsForAtLeast catalog (m + length one))

  -- So many entries of the first list stand, among them all that are receipted, and the second goes on behind these. A crash leaves a
  -- prefix of the first list, or of that one, and what is receipted stands through the second call.
  pub record GoesOnBehindFront (catalog : Catalog) (a b : Database) (m n : ℕ) (one two : List Listed) (count : ℕ) (old mid new : D) : Type 0 where
    pub some : ℕ
    pub within : some ≤ length one
    pub enough : count ≤ m + some
    pub lists : AreOneList catalog a b m n (take some one) two
    pub crashes : AtEachMoment (disk_of old new) (λ image. Prefix catalog a m one image ⊎ Prefix catalog a m (take some one ++ two) image)
    pub stays : AlwaysLeaves (disk_of mid new) (StandsForAtLeast catalog count)

  -- law: on an honest disk a run on a strong store goes on from the one before it, which was whole, or had stopped; either may have had checkpoints
  pub record CallsGoOn : Type 0 where
    pub whole : (every each : Option ℕ) (limit : ℕ) (catalog : Catalog) (requests others : List Request) (a b : Database) (m n : ℕ)
        (one two : List Listed) (text : List ℕ) (old mid new : D) → (disk_of old mid).honest →
        IsWholeRun Strong every limit catalog requests a m one text (disk_of old mid) → HadList each limit catalog others b n two (disk_of mid new) →
        GoesOnBehindAll catalog a b m n one two old mid new
    pub stopped : (every each : Option ℕ) (limit : ℕ) (catalog : Catalog) (requests others : List Request) (a b : Database) (m n : ℕ)
        (one two : List Listed) (status count : ℕ) (text : List ℕ) (old mid new : D) → (disk_of old mid).honest →
        IsStoppedRun Strong every limit catalog requests a m one status count text (disk_of old mid) →
        HadList each limit catalog others b n two (disk_of mid new) → GoesOnBehindFront catalog a b m n one two count old mid new
