-- What these types may cross threads by, for types that have them in them.
use denote.Param.Send.{IsSend, IsSync, sendable}
use Rattle.std.proofs.Crossing.{crosses}
use Rattle.ss_value.specs.contracts.value.Value as value

pub value_send : IsSend value.the_row
value_send = search (sendable, crosses) depth 60 fits 30000

pub value_sync : IsSync value.the_row
value_sync = search (sendable, crosses) depth 60 fits 30000
