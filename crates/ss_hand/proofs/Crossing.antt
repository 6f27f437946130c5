-- A thread may hand what a bay has on to another.
use denote.RattleType.{RattleType}
use denote.Param.Send.{IsSend, sendable}
use Rattle.std.proofs.Crossing.{crosses}
use Rattle.ss_commitlog.proofs.Crossing.{note_send}
use Rattle.ss_model.specs.declared.life.Life.{Ghosts}
use Rattle.ss_shard.proofs.Crossing.{shard_send}
use Rattle.ss_hand.specs.contracts.partition.Partition as partition

module _ (I : RattleType) (life : Ghosts I.Denot) where
  pub partition_send : IsSend I → IsSend (partition.the_row I life)
  partition_send s = let a = shard_send in let n = note_send I life s in search (sendable, crosses) depth 60 fits 30000
