use Rattle.ss_model_laws.proofs.Wakes.{ready_is_woken}
use Rattle.ss_model_laws.proofs.streams.ready_is_woken.Goals as goal

pub returns : goal.returns
returns c = λ catalog db e a shape is q idle ready. ready_is_woken catalog db shape e a is q idle ready
