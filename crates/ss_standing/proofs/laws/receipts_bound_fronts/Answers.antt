use Rattle.ss_standing.proofs.OneThing.{receipted_front}
use Rattle.ss_standing.proofs.laws.receipts_bound_fronts.Goals as goal

pub returns : goal.returns
returns c = receipted_front c.stands_for_one.ensures
