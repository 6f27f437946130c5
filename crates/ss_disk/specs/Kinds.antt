-- What is known of a type of disks.
use Rattle.std.specs.Prelude.{ℕ}
use Rattle.ss_disk.specs.Files.{Files}

-- what the disks of a type tell, and what a crash leaves of them
pub record DiskKind (D : Type 0) : Type 1 where
  -- that reads give what `seen` says
  pub tells : Type 0
  -- that a crash leaves what `images` says
  pub honest : Type 0
  -- what a read gives of each file
  pub seen : D → Files
  -- a number that never falls, and rises by one at most with each call that may change what a crash leaves
  pub moment : D → ℕ
  -- what a crash at a moment may leave
  pub images : D → ℕ → Files → Type 0
  -- how often a disk has failed; counts stand still at the greatest number of 64 bits
  pub faults : D → ℕ

-- what a crash now may leave
abbrev pub present : {D : Type 0} → DiskKind D → D → Files → Type 0
present kind disk = kind.images disk (kind.moment disk)
