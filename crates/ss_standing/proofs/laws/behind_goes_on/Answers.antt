use Rattle.ss_standing.proofs.Fronts.{behind_goes_on}
use Rattle.ss_standing.proofs.laws.behind_goes_on.Goals as goal

pub returns : goal.returns
returns c = behind_goes_on
