use Rattle.ss_model_laws.proofs.Depth.{windows_are_enough}
use Rattle.ss_model_laws.proofs.runs.depth_is_enough.Goals as goal

pub returns : goal.returns
returns c = λ catalog accepted context is n depth within enough. windows_are_enough catalog accepted context is n depth within enough
