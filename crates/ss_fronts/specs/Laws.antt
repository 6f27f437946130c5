-- Fronts of a list, in both modes: they go on where the list does, over a flush and over a checkpoint, and what a generation has of a list
-- is one.
use Rattle.std.specs.Prelude.{◌≡◌, ◌⊎◌, ◌≤◌, true, ℕ, ◌+◌, List, ◌++◌, length, take, drop}
use Rattle.std.specs.List.{flat_map}
use Rattle.ss_model.specs.declared.catalog.Catalog.{Catalog}
use Rattle.ss_model.specs.declared.entry.Entry.{Entry}
use Rattle.ss_model.specs.declared.entry.Listed.{Listed}
use Rattle.ss_model.specs.Accepted.{Accepted}
use Rattle.ss_model.specs.Asked.{listed_entries}
use Rattle.ss_model.specs.Database.{Database}
use Rattle.ss_model.specs.Recovery.{Recovery}
use Rattle.ss_model.specs.Replays.{Replays, after}
use Rattle.ss_model.specs.Settling.{kept}
use Rattle.ss_model.specs.WholeDatabase.{WholeDatabase, HadAtMost}
use Rattle.ss_disk.specs.Files.{Files}
use Rattle.ss_disk.specs.Moments.{LeavesOnly, StaysFrom}
use Rattle.ss_cmdlog.specs.Formatting.{LeavesSome}
use Rattle.ss_cmdlog.specs.Generation.{Stood}
use Rattle.ss_cmdlog.specs.Groups.{groups_of}
use Rattle.ss_cmdlog.specs.Log.{KeepsCounts}
use Rattle.ss_cmdlog.specs.Logged.{logged}
use Rattle.ss_cmdlog.specs.Store.{StandsFor, StandsForPart, with_groups}
use Rattle.ss_standing.specs.Checkpoints.{checkpoint_of}
use Rattle.ss_standing.specs.FitsImage.{FitsImage}
use Rattle.ss_fronts.specs.Fronts.{BeganAt, mode_of, FrontStands, AtLeast, HoldsFront}

-- the entries that a log of this mode has of a list behind its first ones, so many
abbrev pub left_of : Recovery → List Listed → ℕ → List Entry
left_of recovery list held = logged (mode_of recovery) (listed_entries (drop held list))

-- What holds of a list holds of each that goes on from it, whose entries may be more.
pub record GrowsTo (recovery : Recovery) (catalog : Catalog) (db : Database) (first : ℕ) (list more : List Listed) : Type 0 where
  pub fronts : (least : ℕ) (image : Files) → FrontStands recovery catalog db first list least image → FrontStands recovery catalog db first (list ++ more) least image
  pub generations : (held : ℕ) (s : Stood) → HoldsFront recovery catalog db first list held s → HoldsFront recovery catalog db first (list ++ more) held s
  -- and a front of the list has so much of the longer one as it has of the list
  pub at_least : (n : ℕ) (image : Files) → AtLeast recovery catalog list n image → AtLeast recovery catalog (list ++ more) n image
  pub no_more : (n : ℕ) (image : Files) → FrontStands recovery catalog db first list first image → AtLeast recovery catalog (list ++ more) n image →
      AtLeast recovery catalog list n image

-- law: this holds of each list
abbrev pub FrontsGrow : Type 0
FrontsGrow = (recovery : Recovery) (catalog : Catalog) (db : Database) (first : ℕ) (list more : List Listed) → GrowsTo recovery catalog db first list more

-- what a generation that has the first entries of a list leaves
pub record HeldStands (recovery : Recovery) (catalog : Catalog) (db : Database) (first : ℕ) (list : List Listed) (held : ℕ) (s : Stood) : Type 0 where
  pub within : held ≤ length list
  pub mode : s.mode ≡ mode_of recovery
  -- files that stand for it are a front that ends there
  pub stands : (image : Files) → StandsFor image s → FrontStands recovery catalog db first list (first + held) image
  -- in mid-flush of the entries behind those, files are a front that has at least those
  pub in_flush : (image : Files) → StandsForPart s (groups_of (left_of recovery list held)) image → FrontStands recovery catalog db first list (first + held) image
  -- with groups of the next entries, so many, it has them too
  pub adds : (some : ℕ) (groups : List (List Entry)) → some ≤ length (drop held list) →
      flat_map (λ (es : List Entry). es) groups ≡ logged (mode_of recovery) (take some (listed_entries (drop held list))) →
      HoldsFront recovery catalog db first list (held + some) (with_groups s groups)

-- law: this holds of each such generation, where the run began so and its list replays
abbrev pub HeldFrontsStand : Type 0
HeldFrontsStand =
    (recovery : Recovery) (catalog : Catalog) (db : Database) (first : ℕ) (list : List Listed) (held : ℕ) (s : Stood) → BeganAt recovery catalog db first →
    Replays catalog db list → HoldsFront recovery catalog db first list held s → HeldStands recovery catalog db first list held s

-- law: an image of the database behind all of the list, at the place behind it, has all of the list
abbrev pub CheckpointsHold : Type 0
CheckpointsHold =
    (recovery : Recovery) (catalog : Catalog) (db : Database) (first : ℕ) (list : List Listed) → Accepted catalog → WholeDatabase catalog db → HadAtMost first db →
    BeganAt recovery catalog db first → Replays catalog db list → FitsImage true catalog (kept catalog (after catalog db list)) →
    HoldsFront recovery catalog db first list (length list) (checkpoint_of (mode_of recovery) catalog (first + length list) (after catalog db list))

module _ (D : Type 0) (moment : D → ℕ) (images : D → ℕ → Files → Type 0) where
  -- law: what the log's counts keep over a flush, fronts keep
  abbrev pub FlushesKeepFronts : Type 0
  FlushesKeepFronts =
      (recovery : Recovery) (catalog : Catalog) (db : Database) (first : ℕ) (list : List Listed) (held : ℕ) (s : Stood) (old new : D) →
      BeganAt recovery catalog db first → Replays catalog db list → HoldsFront recovery catalog db first list held s →
      LeavesOnly moment images old new (StandsForPart s (groups_of (left_of recovery list held))) → KeepsCounts moment images (moment old) new →
      (n : ℕ) → StaysFrom moment images (moment old) new (AtLeast recovery catalog list n)

  -- law: and over a checkpoint behind all of the list, at each moment of which a crash leaves something (CmdLog::renew says so: `some`)
  abbrev pub CheckpointsKeepFronts : Type 0
  CheckpointsKeepFronts =
      (recovery : Recovery) (catalog : Catalog) (db : Database) (first : ℕ) (list : List Listed) (s next : Stood) (old new : D) →
      BeganAt recovery catalog db first → Replays catalog db list → HoldsFront recovery catalog db first list (length list) s →
      HoldsFront recovery catalog db first list (length list) next →
      LeavesOnly moment images old new (λ image. StandsFor image s ⊎ StandsFor image next) → LeavesSome moment images (moment old) new →
      (n : ℕ) → StaysFrom moment images (moment old) new (AtLeast recovery catalog list n)
