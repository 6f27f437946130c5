use Rattle.ss_model_laws.proofs.Homes.{uses_touched}
use Rattle.ss_model_laws.proofs.parts.uses_are_touched.Goals as goal

pub returns : goal.returns
returns c = λ catalog accepted n some q p is. uses_touched catalog accepted n some q p is
