use Rattle.ss_fronts.proofs.Held.{held_fronts_stand}
use Rattle.ss_fronts.proofs.laws.held_fronts_stand.Goals as goal

pub returns : goal.returns
returns c = held_fronts_stand c.first_groups_hold_the_first_entries.ensures c.replays_go_on.ensures c.generations_go_on.ensures c.fronts_stand.ensures c.flushes_leave_fronts.ensures
