-- A thread may hand rows by key on to another.
use denote.Param.Send.{IsSend, sendable}
use Rattle.std.proofs.Crossing.{crosses}
use Rattle.ss_value.proofs.Crossing.{value_send}
use Rattle.ss_fragment.specs.contracts.fragment.Fragment as fragment

pub fragment_send : IsSend fragment.the_row
fragment_send = let v = value_send in search (sendable, crosses) depth 60 fits 30000
