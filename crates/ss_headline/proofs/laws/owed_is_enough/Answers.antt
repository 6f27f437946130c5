use Rattle.ss_headline.proofs.Owed.{owed_is_enough}
use Rattle.ss_headline.proofs.laws.owed_is_enough.Goals as goal

pub returns : goal.returns
returns c = owed_is_enough
