-- A thread may hand a window on to another.
use denote.Param.Send.{IsSend, sendable}
use Rattle.std.proofs.Crossing.{crosses}
use Rattle.ss_value.proofs.Crossing.{value_send}
use Rattle.ss_window.specs.contracts.window.Window as window

pub window_send : IsSend window.the_row
window_send = let v = value_send in search (sendable, crosses) depth 60 fits 30000
