-- What a store of an older form comes to in the new one.
use Rattle.std.specs.Prelude.{◌≡◌, ◌⊎◌, false, ℕ}
use Rattle.ss_value.specs.FaultCounts.{Rose}
use Rattle.ss_disk.specs.Kinds.{DiskKind}
use Rattle.ss_disk.specs.Moments.{LeavesOnly}
use Rattle.ss_cmdlog.specs.Formatting.{LeavesSome}
use Rattle.ss_cmdlog.specs.Generation.{Stood}
use Rattle.ss_cmdlog.specs.Log.{IsOpen}
use Rattle.ss_cmdlog.specs.Store.{StandsFor}
use Rattle.ss_snapshot.specs.Held.{FitsHeld, OfWhatTheyHold}
use Rattle.ss_recover.specs.declared.error.RecoverError.{RecoverError}
use Rattle.ss_recover.specs.declared.error.RecoverError.TheVariants.{NoMemory, DiskFault}
use Rattle.ss_recover.specs.declared.recovered.Recovered.{Recovered}
use Rattle.ss_recover.specs.declared.stored.Stored.{Stored}
use Rattle.ss_recover.specs.Recovering.{GoesOnBehind}

-- a crash left the one generation or the other, and something at each moment
pub record LeavesForm {D : Type 0} (kind : DiskKind D) (s next : Stood) (old new : D) : Type 0 where
  pub moments : LeavesOnly kind.moment kind.images old new (λ image. StandsFor image s ⊎ StandsFor image next)
  pub some : LeavesSome kind.moment kind.images (kind.moment old) new

-- memory was out, or the disk failed, and counted it
abbrev pub HasFormCause : ℕ → ℕ → RecoverError → Type 0
HasFormCause before now e = ((e ≡ NoMemory) × (now ≡ before)) ⊎ ((e ≡ DiskFault) × Rose before now)

-- what was stored goes on behind this generation
pub record IsRenewed {D : Type 0} (kind : DiskKind D) (stored : Stored) (s : Stood) (r : Recovered D) : Type 0 where
  pub same : r ≡ record { database = stored.database; catalog = stored.catalog; first = stored.first; known = stored.known; bodies = stored.bodies; image = stored.image; log = r.log }
  pub goes_on : OfWhatTheyHold stored.catalog stored.database.whole stored.database.streams.streams (λ d.
      (t : Stood) × IsOpen kind r.log t × GoesOnBehind s.mode stored.catalog stored.first d s t)
  pub fits : stored.bodies ≡ false → FitsHeld stored.catalog stored.database.whole stored.database.streams.streams
  pub count : r.log.count ≡ stored.first
