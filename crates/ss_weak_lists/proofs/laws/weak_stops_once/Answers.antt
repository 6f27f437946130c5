use Rattle.ss_weak_lists.proofs.Stops.{stops_once}
use Rattle.ss_weak_lists.proofs.laws.weak_stops_once.Goals as goal

pub returns : goal.returns
returns c = λ catalog db first entries. stops_once catalog db first entries
