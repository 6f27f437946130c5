use Rattle.ss_standing.proofs.Keeping.{flush_keeps}
use Rattle.ss_standing.proofs.laws.flushes_keep.Goals as goal

pub returns : goal.returns
returns g c = λ catalog db first list held s start old new keeps replays run.
    flush_keeps c.replays_go_on.ensures c.generations_go_on.ensures g.D.Disk.kind.moment g.D.Disk.kind.images c.prefixes_go_on.ensures.over_flush catalog db first list held s start old new keeps replays run
    c.groups_hold_the_entries.ensures c.first_groups_hold_the_first_entries.ensures
