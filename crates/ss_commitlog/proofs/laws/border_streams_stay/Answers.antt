use Rattle.ss_commitlog.proofs.BorderStreams.{border_streams_stay}
use Rattle.ss_commitlog.proofs.laws.border_streams_stay.Goals as goal

pub returns : goal.returns
returns c = border_streams_stay
