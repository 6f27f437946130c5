-- What stands of a list while it grows and is flushed.
use Rattle.std.specs.Prelude.{◌≡◌, ◌+◌, ◌≤◌, ℕ, List, ◌++◌, length, take, drop}
use Rattle.ss_model.specs.declared.catalog.Catalog.{Catalog}
use Rattle.ss_model.specs.declared.entry.Listed.{Listed}
use Rattle.ss_model.specs.Database.{Database}
use Rattle.ss_model.specs.Replays.{Replays, after}
use Rattle.ss_model.specs.Settling.{Kept, kept}
use Rattle.ss_disk.specs.Files.{Files}
use Rattle.ss_disk.specs.Moments.{AnyMoment, LeavesOnly}
use Rattle.ss_cmdlog.specs.Formatting.{LeavesSome}
use Rattle.ss_cmdlog.specs.Generation.{Stood}
use Rattle.ss_cmdlog.specs.Log.{IsReceipted, HasAtLeast, KeepsCounts}
use Rattle.ss_cmdlog.specs.Groups.{groups_of}
use Rattle.ss_cmdlog.specs.Store.{StandsFor, StandsForPart, count_of, with_groups}
use Rattle.ss_standing.specs.Standing.{listed_entries, Replayed, Stands, Prefix, StandsForAtLeast, Receipt, StandsOn}
use Rattle.ss_standing.specs.Behind.{IsBehind}

-- the generation stands for the first entries of the list, so many, and since the start a crash leaves a front of it
pub record Keeps {D : Type 0} (moment : D → ℕ) (images : D → ℕ → Files → Type 0) (catalog : Catalog) (db : Database) (first : ℕ)
    (list : List Listed) (held : ℕ) (s : Stood) (start now : D) : Type 0 where
  pub within : held ≤ length list
  pub generation : Replayed catalog s (first + held) (kept catalog (after catalog db (take held list)))
  pub crashes : LeavesOnly moment images start now (Prefix catalog db first list)

-- law: a flush of the entries behind those leaves fronts of the list
abbrev pub KeepsOverFlush : (D : Type 0) → (D → ℕ) → (D → ℕ → Files → Type 0) → Type 0
KeepsOverFlush D moment images =
    (catalog : Catalog) (db : Database) (first : ℕ) (list : List Listed) (held : ℕ) (s : Stood) (start old new : D) →
    Keeps moment images catalog db first list held s start old → Replays catalog db list →
    LeavesOnly moment images old new (StandsForPart s (groups_of (listed_entries (drop held list)))) →
    LeavesOnly moment images start new (Prefix catalog db first list)

-- law: where the list goes on, so does what stands of it
abbrev pub KeepsGoOn : (D : Type 0) → (D → ℕ) → (D → ℕ → Files → Type 0) → Type 0
KeepsGoOn D moment images =
    (catalog : Catalog) (db : Database) (first : ℕ) (list more : List Listed) (held : ℕ) (s : Stood) (start now : D) →
    Keeps moment images catalog db first list held s start now → Keeps moment images catalog db first (list ++ more) held s start now

-- behind a flush of the entries behind those: this generation has some of them, and stands for as many entries of the list more
pub record KeepsMore {D : Type 0} (moment : D → ℕ) (images : D → ℕ → Files → Type 0) (catalog : Catalog) (db : Database) (first : ℕ)
    (list : List Listed) (held : ℕ) (s : Stood) (start new : D) (now : Stood) : Type 0 where
  pub more : ℕ
  pub keeps : Keeps moment images catalog db first list (held + more) now start new
  pub behind : IsBehind s now (listed_entries (take more (drop held list)))

-- the flush added all groups of these entries, or so many first ones
pub record FlushKeeps {D : Type 0} (moment : D → ℕ) (images : D → ℕ → Files → Type 0) (catalog : Catalog) (db : Database) (first : ℕ)
    (list : List Listed) (held : ℕ) (s : Stood) (start new : D) : Type 0 where
  pub all : Keeps moment images catalog db first list (length list) (with_groups s (groups_of (listed_entries (drop held list)))) start new
  pub behind : IsBehind s (with_groups s (groups_of (listed_entries (drop held list)))) (listed_entries (drop held list))
  pub some : (groups : ℕ) →
      KeepsMore moment images catalog db first list held s start new (with_groups s (take groups (groups_of (listed_entries (drop held list)))))

-- law: what stands of a list goes on over a flush
abbrev pub FlushesKeep : (D : Type 0) → (D → ℕ) → (D → ℕ → Files → Type 0) → Type 0
FlushesKeep D moment images =
    (catalog : Catalog) (db : Database) (first : ℕ) (list : List Listed) (held : ℕ) (s : Stood) (start old new : D) →
    Keeps moment images catalog db first list held s start old → Replays catalog db list →
    LeavesOnly moment images old new (StandsForPart s (groups_of (listed_entries (drop held list)))) →
    FlushKeeps moment images catalog db first list held s start new

-- law: what a log counts of a store is how many executions it stands for
abbrev pub CountsExecutions : Type 0
CountsExecutions =
    (catalog : Catalog) (image : Files) (count : ℕ) (k : Kept) (s : Stood) → Stands catalog image count k → StandsFor image s → count ≡ count_of s

-- law: where each present image stands for something, a log's receipt is one for executions
abbrev pub LogReceiptsTell : (D : Type 0) → (D → Files → Type 0) → Type 0
LogReceiptsTell D present =
    (catalog : Catalog) (n : ℕ) (disk : D) → ((image : Files) → present disk image → StandsForAtLeast catalog 0 image) →
    IsReceipted present n disk → Receipt catalog present n disk

-- law: where each image stands for something, a log that keeps its counts keeps what stands
abbrev pub KeptCountsStandOn : (D : Type 0) → (D → ℕ) → (D → ℕ → Files → Type 0) → Type 0
KeptCountsStandOn D moment images =
    (catalog : Catalog) (from : ℕ) (now : D) → AnyMoment moment images from now (HasAtLeast 0) →
    AnyMoment moment images from now (StandsForAtLeast catalog 0) → KeepsCounts moment images from now →
    StandsOn catalog moment images from now

-- law: where a crash at each moment leaves something, and all of it stands for one thing, what stands stays
abbrev pub OneThingStandsOn : (D : Type 0) → (D → ℕ) → (D → ℕ → Files → Type 0) → Type 0
OneThingStandsOn D moment images =
    (catalog : Catalog) (count : ℕ) (k : Kept) (from : ℕ) (now : D) → LeavesSome moment images from now →
    AnyMoment moment images from now (λ image. Stands catalog image count k) → StandsOn catalog moment images from now
