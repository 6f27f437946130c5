use Rattle.ss_flow.proofs.Following.{stream_follows}
use Rattle.ss_flow.proofs.laws.streams_follow.Goals as goal

pub returns : goal.returns
returns c = λ catalog db e a shape is s within. stream_follows catalog db shape e a is s within
