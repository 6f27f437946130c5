use Rattle.ss_nest_laws.proofs.NestedAccepted.{nested_accepted}
use Rattle.ss_nest_laws.proofs.accepted.nested_is_accepted.Goals as goal

pub returns : goal.returns
returns c = nested_accepted
