-- A thread may hand a table on to another.
use denote.Param.Send.{IsSend, sendable}
use Rattle.std.proofs.Crossing.{crosses}
use Rattle.ss_fragment.proofs.Crossing.{fragment_send}
use Rattle.ss_table.specs.contracts.table.Table as table

pub table_send : IsSend table.the_row
table_send = let f = fragment_send in search (sendable, crosses) depth 60 fits 30000
