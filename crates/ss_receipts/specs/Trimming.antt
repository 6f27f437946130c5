-- A log behind the last flush: what it needs to be renewed where that is due, and what is answered.
use Rattle.std.specs.Prelude.{◌≡◌, ◌≢◌, ◌⊎◌, ℕ, ◌+◌, ◌<◌, ◌≤◌, ◌^◌, List, length, Option, Result, Ok, Err}
use Rattle.ss_model.specs.declared.catalog.Catalog.{Catalog}
use Rattle.ss_model.specs.declared.entry.Listed.{Listed}
use Rattle.ss_model.specs.Recovery.{Recovery}
use Rattle.ss_model.specs.Database.{Database}
use Rattle.ss_model.specs.Replays.{Replays, after}
use Rattle.ss_disk.specs.Kinds.{DiskKind}
use Rattle.ss_stream.specs.Pending.{Pending}
use Rattle.ss_shard.specs.ShardValue.{ShardValue}
use Rattle.ss_cmdlog.specs.declared.log.CmdLog.{CmdLog}
use Rattle.ss_receipts.specs.declared.durable.DurableError.{DurableError}
use Rattle.ss_receipts.specs.declared.durable.DurableError.TheVariants.{NoMemory, DiskFault, Halted}
use Rattle.ss_receipts.specs.Checkpointing.{IsOfDatabase}
use Rattle.ss_receipts.specs.Holding.{Holds}

-- the log has all of the list, which ends at this place, and shard and streams are those behind it
pub record HoldsAll {D : Type 0} (recovery : Recovery) (every : Option ℕ) (catalog : Catalog) (db : Database) (first opened before : ℕ) (past : ℕ → List (List ℕ) → Type 0) (kind : DiskKind D) (list : List Listed) (log : CmdLog D) (end fault : ℕ) (whole : ShardValue) (streams : List Pending) : Type 0 where
  pub end_is : end ≡ first + length list
  pub small : end ≤ 2 ^ 60
  pub replays : Replays catalog db list
  pub of : IsOfDatabase catalog (after catalog db list) whole streams
  pub holds : Holds recovery every catalog db first opened before past kind list log end fault

-- by the end of the list and the faults that are told: fewer than so many entries stand behind the generation's first place, or
-- there was no memory, or the disk has failed
abbrev pub IsTrimmed : {D : Type 0} → ℕ → ℕ → ℕ → CmdLog D → Result (Unit {0}) DurableError → Type 0
IsTrimmed end bound later log (Ok done) = end < log.first + bound
IsTrimmed end bound later log (Err NoMemory) = Unit {0}
IsTrimmed end bound later log (Err DiskFault) = later ≢ 0
IsTrimmed end bound later log (Err (Halted faults)) = (later ≢ 0) × (faults ≡ later)

-- a log that has all of the list as before, and the faults that were told or are the first ones
pub record Trims {D : Type 0} (recovery : Recovery) (every : Option ℕ) (catalog : Catalog) (db : Database) (first opened before : ℕ) (past : ℕ → List (List ℕ) → Type 0) (kind : DiskKind D) (list : List Listed) (new : CmdLog D) (end fault bound : ℕ) (result : Result (Unit {0}) DurableError) : Type 0 where
  pub later : ℕ
  pub holds : Holds recovery every catalog db first opened before past kind list new end later
  pub told : (fault ≡ 0) ⊎ (fault ≡ later)
  pub answer : IsTrimmed end bound later new result
