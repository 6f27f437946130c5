use Rattle.ss_catalog_laws.proofs.Resolved.{resolved_typed}
use Rattle.ss_catalog_laws.proofs.resolved_is_typed.Goals as goal

pub returns : goal.returns
returns c = λ o catalog known limits resolves. resolved_typed o catalog known limits resolves
