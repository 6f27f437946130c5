use Rattle.ss_standing.proofs.Fronts.{flush_leaves_front}
use Rattle.ss_standing.proofs.laws.flushes_leave_fronts.Goals as goal

pub returns : goal.returns
returns c = flush_leaves_front c.first_groups_hold_the_first_entries.ensures
