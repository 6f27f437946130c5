-- When a disk may answer that it failed.
use Rattle.std.specs.Prelude.{◌≡◌, ℕ, ◌≤◌, Result, OnOk, IsErrOf}
use Rattle.ss_value.specs.FaultCounts.{Rose}
use Rattle.ss_disk.specs.declared.disk.DiskError.{DiskError}
use Rattle.ss_disk.specs.declared.disk.DiskError.TheVariants.{Failed, NoMemory}

-- the same where want of memory may be answered too, which is no fault
pub record HasDiskCause {T : Type 0} (before now : ℕ) (result : Result T DiskError) : Type 0 where
  pub later : before ≤ now
  pub failed : IsErrOf result Failed → Rose before now
  pub no_memory : IsErrOf result NoMemory → now ≡ before
  pub done : OnOk result (now ≡ before)
