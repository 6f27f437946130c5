-- A thread may hand the indexes of a table on to another.
use denote.Param.Send.{IsSend, sendable}
use Rattle.std.proofs.Crossing.{crosses}
use Rattle.ss_value.proofs.Crossing.{value_send}
use Rattle.ss_index.specs.contracts.table_indexes.Indexes as indexes

pub indexes_send : IsSend indexes.the_row
indexes_send = let v = value_send in search (sendable, crosses) depth 60 fits 30000
