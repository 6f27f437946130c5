use Rattle.ss_flow.proofs.Following.{batches_have_streams}
use Rattle.ss_flow.proofs.laws.batches_have_streams.Goals as goal

pub returns : goal.returns
returns c = λ catalog accepted db e a is. batches_have_streams catalog accepted db e a is
