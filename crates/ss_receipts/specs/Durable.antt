-- What is answered where places were to be made durable.
use Rattle.std.specs.Prelude.{◌≡◌, ◌≢◌, ◌⊎◌, ℕ, ◌+◌, ◌≤◌, List, length, Option, Result, Ok, Err}
use Rattle.ss_model.specs.declared.catalog.Catalog.{Catalog}
use Rattle.ss_model.specs.declared.entry.Listed.{Listed}
use Rattle.ss_model.specs.Recovery.{Recovery}
use Rattle.ss_model.specs.Database.{Database}
use Rattle.ss_disk.specs.Kinds.{DiskKind}
use Rattle.ss_cmdlog.specs.declared.log.CmdLog.{CmdLog}
use Rattle.ss_cmdlog.specs.declared.log.Receipt.{Receipt}
use Rattle.ss_receipts.specs.declared.durable.DurableError.{DurableError}
use Rattle.ss_receipts.specs.declared.durable.DurableError.TheVariants.{NoMemory, DiskFault, Halted}
use Rattle.ss_receipts.specs.Holding.{Holds}

-- by the count that is receipted and the faults that are told: all places below the wanted one are, or the disk has failed
abbrev pub IsDurable : ℕ → ℕ → ℕ → Result Receipt DurableError → Type 0
IsDurable wanted count fault (Ok receipt) = (wanted ≤ receipt.count) × (receipt.count ≡ count)
IsDurable wanted count fault (Err NoMemory) = Unit {0}
IsDurable wanted count fault (Err DiskFault) = fault ≢ 0
IsDurable wanted count fault (Err (Halted faults)) = (fault ≢ 0) × (faults ≡ fault)

-- a flush of all the list: a count that is no lower, and the faults that were told or are the first ones
pub record Finishes {D : Type 0} (recovery : Recovery) (every : Option ℕ) (catalog : Catalog) (db : Database) (first opened before : ℕ) (past : ℕ → List (List ℕ) → Type 0) (kind : DiskKind D) (list : List Listed) (new : CmdLog D) (old_count old_fault : ℕ) (result : Result Receipt DurableError) : Type 0 where
  pub count : ℕ
  pub fault : ℕ
  pub holds : Holds recovery every catalog db first opened before past kind list new count fault
  pub more : old_count ≤ count
  pub told : (old_fault ≡ 0) ⊎ (old_fault ≡ fault)
  pub answer : IsDurable (first + length list) count fault result
