-- A lane that asks for a checkpoint where one is due.
use Rattle.std.specs.Prelude.{◌≡◌, ℕ, ◌+◌, ◌<◌, ◌≤◌, List, length, Option, Some, Result, Ok, Err}
use Rattle.std.specs.List.{AllByRecursion}
use Rattle.ss_model.specs.declared.catalog.Catalog.{Catalog}
use Rattle.ss_model.specs.Database.{Database}
use Rattle.ss_shard.specs.Parts.{all_partitions}
use Rattle.ss_commitlog.specs.declared.rule.Item.{Item}
use Rattle.ss_commitlog.specs.Roles.{In}
use Rattle.ss_commitlog.specs.Tokens.{Known}
use Rattle.ss_receipts.specs.declared.durable.DurableError.{DurableError}
use Rattle.ss_receipts.specs.Checkpointing.{IsCheckpointed}
use Rattle.ss_hand.specs.Hands.{IsInHand}
use Rattle.ss_hand.specs.declared.hand.Hand.{Hand}
use Rattle.ss_lanes.specs.Between.{KeepsAnswers}
use Rattle.ss_lanes.specs.Lanes.{LaneView}
use Rattle.ss_engine.specs.Assured.{IsReceiptOr}

-- by how many entries may stand behind a checkpoint: fewer do, up to the lane's last listed one, behind the place that is answered, and
-- what waits for a receipt waits on; or why there is no checkpoint, as where a receipt was asked for
abbrev pub IsPlaceOr : Option ℕ → LaneView → LaneView → Result ℕ DurableError → Type 0
IsPlaceOr every old new (Ok begun) = (new.due ≡ old.due) × ((k : ℕ) → every ≡ Some k → new.due.above < begun + k)
IsPlaceOr every old new (Err refused) = IsReceiptOr old new (Err refused)

-- it asked for a checkpoint
pub record AsksForCheckpoint (first : ℕ) (every : Option ℕ) (old new : LaneView) (answer : Result ℕ DurableError) : Type 0 where
  pub keeps : KeepsAnswers first old new
  pub answer_is : IsPlaceOr every old new answer

-- all partitions are in hand, and their marks know one list
pub record AreAllInHand {I : Type 0} (catalog : Catalog) (n : ℕ) (db : Database) (hand : Hand I) : Type 0 where
  pub in_hand : IsInHand catalog n db (all_partitions n) hand
  pub list : List Item
  pub know_one : AllByRecursion (λ k. k.list ≡ list) hand.marks

-- an image was to be written of a list that goes on from what these marks knew, and they have then seen what became of the disk
pub record IsCheckpointedInHand (first : ℕ) (old new : List Known) (answer : Result ℕ DurableError) : Type 0 where
  pub end : ℕ
  pub behind : (k : Known) → In k old → first + length k.list ≤ end
  pub answer_is : (k : Known) → In k new → IsCheckpointed end k.faults answer

-- an image was to be written of a list that goes on from what a note knew, and the note has then seen no fewer faults than there were
pub record IsCheckpointedBehind (first : ℕ) (old new : Known) (answer : Result ℕ DurableError) : Type 0 where
  pub end : ℕ
  pub fault : ℕ
  pub behind : first + length old.list ≤ end
  pub answer_is : IsCheckpointed end fault answer
  pub seen : fault ≤ new.faults
