-- A thread may hand tokens on to another, and threads may share a log.
use denote.RattleType.{RattleType}
use denote.Param.Send.{IsSend, IsSync, sendable}
use Rattle.std.proofs.Crossing.{crosses}
use Rattle.atomic_table.proofs.shared.Seat.TheSendSync as seat
use Rattle.atomic_table.proofs.shared.Shared.TheSendSync as table
use Rattle.atomic_table.proofs.send_lease.SendLease.TheSendSync as lease
use Rattle.ss_model.proofs.Crossing.{listed_send, listed_sync}
use Rattle.ss_model.specs.declared.life.Life.{Ghosts}
use Rattle.ss_stream.proofs.Crossing.{streams_send}
use Rattle.ss_commitlog.specs.contracts.desk.Desk as desk
use Rattle.ss_commitlog.specs.contracts.log.CommitLog as log
use Rattle.ss_commitlog.specs.contracts.token.LogToken as token

module _ (I : RattleType) (life : Ghosts I.Denot) where
  pub note_send : IsSend I → IsSend (token.the_row I life)
  note_send s = search (sendable, crosses, seat.the_send, table.the_send, table.the_sync) depth 60 fits 30000

  desk_send : IsSend I → IsSend (desk.the_row I life)
  desk_send s = let l = listed_send in let m = streams_send in search (sendable, crosses, seat.the_send, table.the_send, table.the_sync) depth 60 fits 30000

  pub log_sync : IsSend I → IsSync I → IsSync (log.the_row I life)
  log_sync s y =
      let d = desk_send s in let l = listed_send in let m = listed_sync in search (sendable, crosses, seat.the_send, table.the_send, table.the_sync, lease.the_send, lease.the_sync) depth 60 fits 30000
