-- Threads may share the lock.
use denote.RattleType.{RattleType}
use denote.Param.Send.{IsSend, IsSync, sendable}
use Rattle.std.proofs.Crossing.{crosses}
use Rattle.ss_commitlog.proofs.Crossing.{note_send}
use Rattle.ss_disk.specs.declared.disk.Disk.{Ghosts as DiskGhosts}
use Rattle.ss_model.specs.declared.life.Life.{Ghosts as LifeGhosts}
use Rattle.ss_cmdlog.specs.contracts.log.CmdLog as log
use Rattle.ss_receipts.specs.contracts.keeper.Keeper as keeper
use Rattle.ss_receipts.specs.contracts.receipts.Receipts as receipts

module _ (I D : RattleType) (life : LifeGhosts I.Denot) (disk : DiskGhosts D.Denot) where
  log_send : IsSend D → IsSend (log.the_row D)
  log_send d = search (sendable, crosses) depth 60 fits 30000

  keeper_send : IsSend I → IsSend D → IsSend (keeper.the_row I D life disk)
  keeper_send s d = let n = note_send I life s in let l = log_send d in search (sendable, crosses) depth 60 fits 30000

  pub receipts_sync : IsSend I → IsSend D → IsSync (receipts.the_row I D life disk)
  receipts_sync s d = let k = keeper_send s d in search (sendable, crosses) depth 60 fits 30000
