-- A thread may hand what takes changes back on to another.
use denote.Param.Send.{IsSend, sendable}
use Rattle.std.proofs.Crossing.{crosses}
use Rattle.ss_value.proofs.Crossing.{value_send}
use Rattle.ss_undo.specs.contracts.undo.Undo as undo

pub undo_send : IsSend undo.the_row
undo_send = let v = value_send in search (sendable, crosses) depth 60 fits 30000
