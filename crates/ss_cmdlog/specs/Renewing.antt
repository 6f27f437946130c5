-- What a new generation in place of the current one leaves on the disk.
use Rattle.std.specs.Prelude.{◌≡◌, ◌⊎◌, true, ℕ, List, [], Result, OnOk, IsErrOf}
use Rattle.ss_model.specs.declared.entry.Mode.{Mode}
use Rattle.ss_disk.specs.declared.disk.FileNo.{FileNo}
use Rattle.ss_disk.specs.declared.disk.FileNo.TheVariants.{Selector, First, Second}
use Rattle.ss_disk.specs.Kinds.{DiskKind}
use Rattle.ss_disk.specs.Files.{Files, with_file}
use Rattle.ss_disk.specs.Moments.{LeavesOnly}
use Rattle.ss_cmdlog.specs.declared.log.CmdLog.{CmdLog}
use Rattle.ss_cmdlog.specs.declared.log.LogError.{LogError}
use Rattle.ss_cmdlog.specs.declared.log.LogError.TheVariants.{NoMemory}
use Rattle.ss_cmdlog.specs.Generation.{Stood}
use Rattle.ss_cmdlog.specs.Store.{StandsFor}
use Rattle.ss_cmdlog.specs.Log.{IsOpen}

-- a generation of this mode with this image at this place, and no groups, in the new form
abbrev pub renewed : Mode → ℕ → List ℕ → Stood
renewed mode place image = record { bodies = true; mode = mode; first = place; image = image; groups = [] }

-- the file that isn't the current one, and the selector's byte for it
abbrev pub other_file : FileNo → FileNo
other_file Selector = First
other_file First = Second
other_file Second = First

abbrev pub selector_byte : FileNo → ℕ
selector_byte Selector = 0
selector_byte First = 0
selector_byte Second = 1

-- the same files, but for what this one has
abbrev pub IsOtherwise : FileNo → Files → Files → Type 0
IsOtherwise which old new = (bytes : List ℕ) × (new ≡ with_file which bytes old)

-- an image with all files but this one of one of these
abbrev pub KeepsRest : FileNo → (Files → Type 0) → Files → Type 0
KeepsRest which may image = (old : Files) × may old × IsOtherwise which old image

-- the generation is replaced by the next one, or stays; a crash leaves the one or the other
pub record Renews {D : Type 0} (kind : DiskKind D) (old new : CmdLog D) (result : Result (Unit {0}) LogError) (s next : Stood) : Type 0 where
  pub done : OnOk result (IsOpen kind new next)
  pub kept : IsErrOf result NoMemory → IsOpen kind new s
  pub moments : kind.honest → LeavesOnly kind.moment kind.images old.disk new.disk (λ image. StandsFor image s ⊎ StandsFor image next)
