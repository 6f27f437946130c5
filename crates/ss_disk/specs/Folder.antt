-- A disk in a folder.
use Rattle.std.specs.Prelude.{ℕ}
use Rattle.ss_disk.specs.Kinds.{DiskKind}
use Rattle.ss_disk.specs.Memory.{no_files}
use Rattle.ss_disk.specs.declared.folder.FolderDisk.{FolderDisk}

-- how often it has failed
abbrev pub folder_faults : {R File Dir : Type 0} → FolderDisk R File Dir → ℕ
folder_faults d = d.faults

-- it tells no contents, is not honest, and counts its faults
abbrev pub folder_kind : {R File Dir : Type 0} → DiskKind (FolderDisk R File Dir)
folder_kind = record { tells = ⊥; honest = ⊥; seen = λ _. no_files; moment = λ _. 0; images = λ _ _ _. ⊥; faults = λ d. folder_faults d }
