-- A lane that asks for receipts.
use Rattle.std.specs.Prelude.{◌≡◌, ◌≢◌, ◌≤◌, ℕ, Result, Ok, Err}
use Rattle.ss_cmdlog.specs.declared.log.Receipt.{Receipt}
use Rattle.ss_receipts.specs.declared.durable.DurableError.{DurableError}
use Rattle.ss_receipts.specs.declared.durable.DurableError.TheVariants.{NoMemory, DiskFault, Halted}
use Rattle.ss_lanes.specs.Between.{KeepsAnswers}
use Rattle.ss_lanes.specs.Dues.{AllBelow, failed_at, receipted}
use Rattle.ss_lanes.specs.Lanes.{LaneView}
use Rattle.ss_lanes.specs.Told.{told}

-- a refusal that tells of the disk's faults tells of these
abbrev pub with_faults : ℕ → DurableError → DurableError
with_faults faults NoMemory = NoMemory
with_faults faults DiskFault = DiskFault
with_faults faults (Halted other) = Halted faults

-- the lane is then told of these faults, of which there are some
abbrev pub IsToldOf : ℕ → LaneView → LaneView → Type 0
IsToldOf faults old new = (faults ≢ 0) × (new.due ≡ failed_at faults old.due)

-- what is answered: a receipt of all that the lane's answers tell, for no more than the lane has then seen; or that there was no memory,
-- which changed nothing; or that the disk fails now, or has failed before
abbrev pub IsReceiptOr : LaneView → LaneView → Result Receipt DurableError → Type 0
IsReceiptOr old new (Ok receipt) =
    AllBelow receipt.count (told old.answers) × (receipt.count ≤ new.count) × (old.due.faults ≡ 0) × (new.due ≡ receipted old.due)
IsReceiptOr old new (Err NoMemory) = (old.due.faults ≡ 0) × (new.due ≡ old.due)
IsReceiptOr old new (Err DiskFault) = (old.due.faults ≡ 0) × IsToldOf new.due.faults old new
IsReceiptOr old new (Err (Halted faults)) = IsToldOf faults old new

-- it asked for a receipt
pub record AsksForReceipt (first : ℕ) (old new : LaneView) (answer : Result Receipt DurableError) : Type 0 where
  pub keeps : KeepsAnswers first old new
  pub answer_is : IsReceiptOr old new answer
