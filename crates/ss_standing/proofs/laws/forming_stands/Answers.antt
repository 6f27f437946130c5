use Rattle.ss_standing.proofs.Fronts.{forming_stands}
use Rattle.ss_standing.proofs.laws.forming_stands.Goals as goal

pub returns : goal.returns
returns c = λ catalog image accepted. forming_stands catalog image (c.whole_databases_stay.ensures catalog accepted).starts
