-- What a disk in memory holds, and what a call on it is.
use Rattle.std.specs.Prelude.{◌≡◌, ◌⊎◌, ℕ, ◌+◌, ◌-◌, ◌^◌, min, List, [], ◌∷◌, ◌++◌, length, Bool, true, false, nat_eq, if◌then◌else◌, Result, Ok, Err}
use Rattle.std.specs.List.{list_any}
use Rattle.ss_disk.specs.declared.events.Event.{Event}
use Rattle.ss_disk.specs.declared.events.Event.TheVariants.{Synced}
use Rattle.ss_disk.specs.declared.disk.DiskError.{DiskError}
use Rattle.ss_disk.specs.declared.disk.DiskError.TheVariants.{Failed, NoMemory}
use Rattle.ss_disk.specs.Files.{Files}
use Rattle.ss_disk.specs.Kinds.{DiskKind}
use Rattle.ss_disk.specs.Crash.{Only}
use Rattle.ss_disk.specs.Memory.{files_of, seen_after}
use Rattle.ss_disk.specs.Happened.{left_at}
use Rattle.ss_disk.specs.declared.memory.MemoryDisk.{MemoryDisk}

abbrev pub memory_seen : MemoryDisk → Files
memory_seen d = files_of d.files

-- the files as they were at first, all of them on the disk
abbrev pub memory_initial : MemoryDisk → Files
memory_initial d = files_of d.initial

abbrev pub memory_events : MemoryDisk → List Event
memory_events d = d.events.items

-- the moment: how many events there have been
abbrev pub memory_moment : MemoryDisk → ℕ
memory_moment d = length d.events.items

abbrev pub memory_calls : MemoryDisk → ℕ
memory_calls d = d.calls

abbrev pub memory_faults : MemoryDisk → ℕ
memory_faults d = d.faults

-- the numbers of the calls that are to fail
abbrev pub memory_fails : MemoryDisk → List ℕ
memory_fails d = d.fails

-- what a crash may leave, behind so many events
abbrev pub memory_left : MemoryDisk → ℕ → Files → Type 0
memory_left d t image = left_at (files_of d.initial) d.events.items t image

-- it tells its contents, is honest, and has a moment behind each event
abbrev pub memory_kind : DiskKind MemoryDisk
memory_kind = record {
  tells = Unit {0};
  honest = Unit {0};
  seen = λ d. files_of d.files;
  moment = λ d. length d.events.items;
  images = λ d t image. left_at (files_of d.initial) d.events.items t image;
  faults = λ d. d.faults;
}

-- what a crash now may leave
abbrev pub memory_left_now : MemoryDisk → Files → Type 0
memory_left_now d = memory_left d (memory_moment d)

-- a crash now leaves what a read gives
abbrev pub IsSynced : MemoryDisk → Type 0
IsSynced d = Only (memory_seen d) (memory_left_now d)

-- whether the next call is to fail
abbrev pub fails_next : MemoryDisk → Bool
fails_next d = list_any (λ n. nat_eq n d.calls) d.fails

-- one more, up to the greatest number of 64 bits
abbrev pub one_more : ℕ → ℕ
one_more n = min (n + 1) (2 ^ 64 - 1)

-- A call was made: it is counted, it failed exactly where it was to, and these events have happened, each to the files.
pub record MadeCall (old new : MemoryDisk) (failed : Bool) (events : List Event) : Type 0 where
  pub due : fails_next old ≡ failed
  pub fails : memory_fails new ≡ memory_fails old
  pub calls : memory_calls new ≡ one_more (memory_calls old)
  pub faults : memory_faults new ≡ (if failed then one_more (memory_faults old) else memory_faults old)
  pub initial : memory_initial new ≡ memory_initial old
  pub happened : memory_events new ≡ memory_events old ++ events
  pub seen : memory_seen new ≡ seen_after events (memory_seen old)

-- No call was made: all is as it was, but for the room.
pub record MadeNoCall (old new : MemoryDisk) : Type 0 where
  pub fails : memory_fails new ≡ memory_fails old
  pub calls : memory_calls new ≡ memory_calls old
  pub faults : memory_faults new ≡ memory_faults old
  pub initial : memory_initial new ≡ memory_initial old
  pub happened : memory_events new ≡ memory_events old
  pub seen : memory_seen new ≡ memory_seen old

-- A write or a cut, of which so much happened: want of memory makes no call.
abbrev pub MadeChange : {T : Type 0} → MemoryDisk → MemoryDisk → (Bool → Event) → Result T DiskError → Type 0
MadeChange old new event (Ok x) = MadeCall old new false (event true ∷ [])
MadeChange old new event (Err Failed) = MadeCall old new true (event false ∷ [])
MadeChange old new event (Err NoMemory) = MadeNoCall old new

-- A sync: where nothing is unsynced it needs no event.
abbrev pub MadeSync : {T E : Type 0} → MemoryDisk → MemoryDisk → Result T E → Type 0
MadeSync old new (Ok x) = MadeCall old new false [] ⊎ MadeCall old new false (Synced (memory_calls old) ∷ [])
MadeSync old new (Err e) = MadeCall old new true []

-- Counting a call leaves the files and the events.
pub record CountsCall (old new : MemoryDisk) (failed : Bool) : Type 0 where
  pub fails : new.fails ≡ old.fails
  pub calls : new.calls ≡ one_more old.calls
  pub faults : new.faults ≡ (if failed then one_more old.faults else old.faults)
  pub initial : new.initial ≡ old.initial
  pub files : new.files ≡ old.files
  pub events : new.events ≡ old.events
  pub unsynced : new.unsynced ≡ old.unsynced
