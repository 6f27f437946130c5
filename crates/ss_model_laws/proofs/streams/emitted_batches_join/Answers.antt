use Rattle.ss_model_laws.proofs.Batches.{batches_join}
use Rattle.ss_model_laws.proofs.streams.emitted_batches_join.Goals as goal

pub returns : goal.returns
returns c = λ catalog db e a shape is. batches_join catalog db shape e a is
