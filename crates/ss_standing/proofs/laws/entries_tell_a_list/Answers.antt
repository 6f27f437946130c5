use Rattle.ss_standing.proofs.OneThing.{entries_tell}
use Rattle.ss_standing.proofs.laws.entries_tell_a_list.Goals as goal

pub returns : goal.returns
returns c = entries_tell
