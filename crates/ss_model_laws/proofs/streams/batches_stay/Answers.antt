use Rattle.ss_model_laws.proofs.Batches.{stream_grows}
use Rattle.ss_model_laws.proofs.streams.batches_stay.Goals as goal

pub returns : goal.returns
returns c = λ catalog db list s. stream_grows catalog db list s
