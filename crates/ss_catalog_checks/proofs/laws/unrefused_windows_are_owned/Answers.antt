use Rattle.ss_catalog_checks.proofs.Owning.{windows_owned}
use Rattle.ss_catalog_checks.proofs.laws.unrefused_windows_are_owned.Goals as goal

pub returns : goal.returns
returns c = λ catalog numbers none w q e. windows_owned catalog numbers none w q e
