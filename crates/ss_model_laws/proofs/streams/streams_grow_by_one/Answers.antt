use Rattle.ss_model_laws.proofs.Batches.{grows_by_one}
use Rattle.ss_model_laws.proofs.streams.streams_grow_by_one.Goals as goal

pub returns : goal.returns
returns c = λ catalog db e a is s. grows_by_one catalog db e a is s
