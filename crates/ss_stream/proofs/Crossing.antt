-- A thread may hand streams on to another.
use denote.Param.Send.{IsSend, sendable}
use Rattle.std.proofs.Crossing.{crosses}
use Rattle.ss_value.proofs.Crossing.{value_send}
use Rattle.ss_stream.specs.contracts.streams.Streams as streams

pub streams_send : IsSend streams.the_row
streams_send = let v = value_send in search (sendable, crosses) depth 60 fits 30000
