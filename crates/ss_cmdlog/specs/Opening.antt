-- What opening a store finds.
use Rattle.std.specs.Prelude.{◌≡◌, ◌≢◌, ℕ, List, [], ◌∷◌, ◌++◌, map, length, Result, Ok, Err}
use Rattle.ss_disk.specs.Kinds.{DiskKind}
use Rattle.ss_disk.specs.declared.disk.FileNo.{FileNo}
use Rattle.ss_disk.specs.declared.disk.FileNo.TheVariants.{Selector, First, Second}
use Rattle.ss_disk.specs.Files.{Files, file}
use Rattle.ss_disk.specs.Moments.{LeavesOnly, LeavesFewer}
use Rattle.ss_cmdlog.specs.declared.open.Loaded.{Loaded}
use Rattle.ss_cmdlog.specs.declared.log.LogError.{LogError}
use Rattle.ss_cmdlog.specs.declared.log.LogError.TheVariants.{NoMemory, DiskFault, Foreign, Halted}
use Rattle.ss_cmdlog.specs.Generation.{Stood, IsStood, front_bytes}
use Rattle.ss_cmdlog.specs.Store.{StandsFor, current_file, entries_of}
use Rattle.ss_cmdlog.specs.Reading.{generation_at}
use Rattle.ss_cmdlog.specs.Log.{IsOpenAt}

abbrev pub number_of : FileNo → ℕ
number_of Selector = 0
number_of First = 1
number_of Second = 2

abbrev pub in_file : FileNo → Result Stood ℕ → Result Stood (ℕ × ℕ)
in_file which (Ok s) = Ok s
in_file which (Err at) = Err (number_of which, at)

-- what the files stand for by this selector, or the file and the place of the first byte that can't be
abbrev pub store_by : List ℕ → Files → Result Stood (ℕ × ℕ)
store_by [] disk = Err (0, 0)
store_by (byte ∷ []) disk = in_file (current_file byte) (generation_at (file (current_file byte) disk))
store_by (byte ∷ other ∷ more) disk = Err (0, 1)

abbrev pub store_at : Files → Result Stood (ℕ × ℕ)
store_at disk = store_by disk.selector disk

-- the bytes stand for this, and their closed gate stands at this place
pub record IsGatedAt (bytes : List ℕ) (gate : ℕ) (s : Stood) : Type 0 where
  pub stood : IsStood s
  pub place : gate ≡ length (front_bytes s)
  pub shut : ℕ
  pub closed : shut ≢ 1
  pub rest : List ℕ
  pub spelled : bytes ≡ front_bytes s ++ shut ∷ rest

-- what was loaded is this
pub record IsLoaded (loaded : Loaded) (s : Stood) : Type 0 where
  pub bodies : loaded.bodies ≡ s.bodies
  pub mode : loaded.mode ≡ s.mode
  pub first : loaded.first ≡ s.first
  pub image : loaded.image ≡ s.image
  pub entries : loaded.entries ≡ entries_of s
  pub sizes : loaded.sizes ≡ map length s.groups

-- these bytes were read as a generation with its closed gate at this place, where the disk tells them
abbrev pub ReadsGeneration : Type 0 → List ℕ → Loaded → ℕ → Type 0
ReadsGeneration tells bytes loaded gate = (s : Stood) × (tells → (generation_at bytes ≡ Ok s) × IsGatedAt bytes gate s) × IsLoaded loaded s × IsStood s

-- these files were read as a store with its closed gate at this place of this file, where the disk tells them
abbrev pub ReadsStore : Type 0 → Files → Loaded → FileNo → ℕ → Type 0
ReadsStore tells disk loaded current gate = (s : Stood) × (tells → (store_at disk ≡ Ok s) × IsOpenAt disk current gate s) × IsLoaded loaded s × IsStood s

-- that files are foreign is told with the first byte that can't be
abbrev pub IsForeignAt : Files → LogError → Type 0
IsForeignAt disk refused = (which at : ℕ) → refused ≡ Foreign which at → store_at disk ≡ Err (which, at)

-- each of these images stands for what was loaded
abbrev pub StandForLoaded : (Files → Type 0) → Loaded → Type 0
StandForLoaded present loaded = (image : Files) → present image → (s : Stood) × StandsFor image s × IsLoaded loaded s

-- a call that changes nothing: reads give what they gave, and a crash leaves nothing new, at each moment no more than at those before
pub record OnlyReads {D : Type 0} (kind : DiskKind D) (old new : D) : Type 0 where
  pub same : kind.tells → kind.seen new ≡ kind.seen old
  pub moments : kind.honest → LeavesOnly kind.moment kind.images old new (kind.images old (kind.moment old))
  pub fewer : kind.honest → LeavesFewer kind.moment kind.images (kind.moment old) new

-- what opening may refuse
abbrev pub IsOpenRefusal : LogError → Type 0
IsOpenRefusal NoMemory = Unit {0}
IsOpenRefusal DiskFault = Unit {0}
IsOpenRefusal (Foreign which at) = Unit {0}
IsOpenRefusal (Halted faults) = ⊥
