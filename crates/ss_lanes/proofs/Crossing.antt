-- Threads hand jobs and replies on, and may share what these wait in, and the hub that has it.
use denote.Param.Send.{IsSend, IsSync, sendable}
use denote.Param.SendFields.{declared_sync}
use denote.RattleType.{RattleType}
use Rattle.std.proofs.Crossing.{crosses}
use Rattle.atomic_table.proofs.shared.Seat.TheSendSync as seat
use Rattle.ss_commitlog.proofs.Crossing.{log_sync, note_send}
use Rattle.ss_model.proofs.Crossing.{entry_send}
use Rattle.ss_model.specs.declared.life.Life.{Ghosts}
use Rattle.ss_lanes.specs.contracts.hub.Hub as hub
use Rattle.ss_lanes.specs.contracts.inbox.SharedInbox as inbox
use Rattle.ss_lanes.specs.contracts.job.Job as job
use Rattle.ss_lanes.specs.contracts.reply.Reply as reply
use Rattle.ss_lanes.specs.contracts.slot.ReplySlot as slot

module _ (I : RattleType) (life : Ghosts I.Denot) where
  job_send : IsSend I → IsSend (job.the_row I life)
  job_send s = let a = entry_send in search (sendable, crosses, seat.the_send) depth 60 fits 30000

  reply_send : IsSend I → IsSend (reply.the_row I life)
  reply_send s = let a = entry_send in let n = note_send I life s in search (sendable, crosses) depth 60 fits 30000

  slot_sync : IsSend I → IsSync I → IsSync (slot.the_row I life)
  slot_sync s y = let r = reply_send s in search (sendable, crosses) depth 60 fits 30000

  inbox_sync : IsSend I → IsSync I → IsSync (inbox.the_row I life)
  inbox_sync s y = let j = job_send s in search (sendable, crosses) depth 60 fits 30000

  pub hub_sync : IsSend I → IsSync I → IsSync (hub.the_row I life)
  hub_sync s y =
      let l = log_sync I life s y in
      let b = slot_sync s y in
      let i = inbox_sync s y in
      declared_sync (hub.the_type I life) (search (crosses, sendable) depth 40, (search (crosses, sendable) depth 40, (search (crosses, sendable) depth 40, (search (crosses, sendable) depth 40, tt))))
