-- A log, and what its calls leave on the disk.
use Rattle.std.specs.Prelude.{◌≡◌, ◌≢◌, ◌⊎◌, ℕ, ◌+◌, ◌≤◌, List, [], ◌∷◌, ◌++◌, length, take, Option, Some, None, Result, OnOk, IsErrOf}
use Rattle.std.specs.List.{flat_map}
use Rattle.ss_disk.specs.Kinds.{DiskKind, present}
use Rattle.ss_model.specs.declared.entry.Entry.{Entry}
use Rattle.ss_model.specs.declared.entry.Mode.{Mode}
use Rattle.ss_model.specs.declared.entry.Mode.TheVariants.{Strong, Weak}
use Rattle.ss_disk.specs.declared.disk.FileNo.{FileNo}
use Rattle.ss_disk.specs.Files.{Files, file}
use Rattle.ss_disk.specs.Crash.{Only}
use Rattle.ss_disk.specs.Moments.{LeavesOnly, StaysFrom}
use Rattle.ss_value.specs.FaultCounts.{Rose}
use Rattle.ss_cmdlog.specs.declared.log.CmdLog.{CmdLog}
use Rattle.ss_cmdlog.specs.declared.log.LogError.{LogError}
use Rattle.ss_cmdlog.specs.declared.log.LogError.TheVariants.{NoMemory, DiskFault, Foreign, Halted}
use Rattle.ss_cmdlog.specs.Logged.{logged}
use Rattle.ss_cmdlog.specs.Generation.{Stood, IsStood, front_bytes}
use Rattle.ss_cmdlog.specs.Store.{StandsFor, StandsForPart, current_file, count_of, with_groups}
use Rattle.ss_cmdlog.specs.Groups.{groups_of}

-- the files stand for this, in this file, whose closed gate stands at this place
pub record IsOpenAt (disk : Files) (current : FileNo) (gate : ℕ) (s : Stood) : Type 0 where
  pub stood : IsStood s
  pub byte : ℕ
  pub selector : disk.selector ≡ byte ∷ []
  pub named : current ≡ current_file byte
  pub place : gate ≡ length (front_bytes s)
  pub shut : ℕ
  pub closed : shut ≢ 1
  pub rest : List ℕ
  pub bytes : file current disk ≡ front_bytes s ++ shut ∷ rest

-- a crash now leaves what a read gives
abbrev pub IsSettled : {D : Type 0} → DiskKind D → D → Type 0
IsSettled kind disk = Only (kind.seen disk) (present kind disk)

-- how many executions a log counts of what it has: as many entries as there are in a strong one; a weak one has fewer, since it has no steps
abbrev pub Counts : Mode → ℕ → Stood → Type 0
Counts Strong count s = count ≡ count_of s
Counts Weak count s = count_of s ≤ count

-- the log goes on, its disk stands for this, and all of that is on the disk
pub record IsOpen {D : Type 0} (kind : DiskKind D) (log : CmdLog D) (s : Stood) : Type 0 where
  pub going : log.halted ≡ None
  pub of_mode : log.mode ≡ s.mode
  pub of_form : log.bodies ≡ s.bodies
  pub at : kind.tells → IsOpenAt (kind.seen log.disk) log.file log.gate s
  pub first : kind.tells → log.first ≡ s.first
  pub count : kind.tells → Counts s.mode log.count s
  pub only : kind.honest → Only (kind.seen log.disk) (present kind log.disk)

-- the files stand for this count at least
abbrev pub HasAtLeast : ℕ → Files → Type 0
HasAtLeast n disk = (s : Stood) × StandsFor disk s × (n ≤ count_of s)

-- each present image of a disk stands for this count at least
abbrev pub IsReceipted : {D : Type 0} → (D → Files → Type 0) → ℕ → D → Type 0
IsReceipted present n disk = (image : Files) → present disk image → HasAtLeast n image

-- the count that each image of a moment stands for at least, from this one on up to now, each image of each later moment does
abbrev pub KeepsCounts : {D : Type 0} → (D → ℕ) → (D → ℕ → Files → Type 0) → ℕ → D → Type 0
KeepsCounts moment images from now = (n : ℕ) → StaysFrom moment images from now (HasAtLeast n)

-- these groups, of which there is one or none, are added whole, or not at all
pub record AddsGroups {D : Type 0} (kind : DiskKind D) (old new : CmdLog D) (result : Result (Unit {0}) LogError) (s : Stood)
    (groups : List (List Entry)) : Type 0 where
  pub done : OnOk result (IsOpen kind new (with_groups s groups))
  pub kept : IsErrOf result NoMemory → IsOpen kind new s
  pub moments : kind.honest → LeavesOnly kind.moment kind.images old.disk new.disk (λ image. StandsFor image s ⊎ StandsFor image (with_groups s groups))
  pub stays : kind.honest → KeepsCounts kind.moment kind.images (kind.moment old.disk) new.disk

-- so many records for so many entries: a strong log has one for each
abbrev pub HasRecords : Mode → ℕ → ℕ → Type 0
HasRecords Strong records taken = records ≡ taken
HasRecords Weak records taken = records ≤ taken

-- some first entries are added, as groups, and no others
pub record AddsSome {D : Type 0} (kind : DiskKind D) (old new : CmdLog D) (s : Stood) (entries : List Entry) : Type 0 where
  pub some : ℕ
  pub within : some ≤ length entries
  pub counted : new.count ≡ old.count + some
  pub groups : ℕ
  pub are : flat_map (λ (es : List Entry). es) (take groups (groups_of (logged s.mode entries))) ≡ logged s.mode (take some entries)
  pub opens : IsOpen kind new (with_groups s (take groups (groups_of (logged s.mode entries))))

-- The first groups are added of the entries that the log has: all of them, or so many as had room. Whatever is added, the log counts the
-- entries up to it.
pub record AddsEntries {D : Type 0} (kind : DiskKind D) (old new : CmdLog D) (ok no_memory : Type 0) (s : Stood)
    (entries : List Entry) : Type 0 where
  pub done : ok → IsOpen kind new (with_groups s (groups_of (logged s.mode entries)))
  pub kept : no_memory → AddsSome kind old new s entries
  pub moments : kind.honest → LeavesOnly kind.moment kind.images old.disk new.disk (StandsForPart s (groups_of (logged s.mode entries)))
  pub stays : kind.honest → KeepsCounts kind.moment kind.images (kind.moment old.disk) new.disk

-- a fault is answered where the disk's count rose and there alone, and is kept; nothing else halts the log
pub record HasLogCause {T : Type 0} (before now : ℕ) (old new : Option ℕ) (result : Result T LogError) : Type 0 where
  pub later : before ≤ now
  pub rose : IsErrOf result DiskFault → Rose before now
  pub told : (IsErrOf result DiskFault → ⊥) → now ≡ before
  pub keeps : IsErrOf result DiskFault → new ≡ Some now
  pub goes_on : (IsErrOf result DiskFault → ⊥) → new ≡ old

-- a fault is answered where the disk's count rose, and there alone
pub record HasCallCause (before now : ℕ) (refused : LogError) : Type 0 where
  pub later : before ≤ now
  pub rose : refused ≡ DiskFault → Rose before now
  pub told : (refused ≡ DiskFault → ⊥) → now ≡ before

-- what a log that goes on may refuse
abbrev pub IsAddRefusal : LogError → Type 0
IsAddRefusal NoMemory = Unit {0}
IsAddRefusal DiskFault = Unit {0}
IsAddRefusal (Foreign which at) = ⊥
IsAddRefusal (Halted faults) = ⊥
