use Rattle.ss_fronts.proofs.Keeping.{flushes_keep_fronts}
use Rattle.ss_fronts.proofs.laws.flushes_keep_fronts.Goals as goal

pub returns : goal.returns
returns g c = flushes_keep_fronts g.D.Disk.kind.moment g.D.Disk.kind.images c.files_stand_for_one_thing.ensures.files c.kept_counts_stand_on.ensures c.first_groups_hold_the_first_entries.ensures
    c.held_fronts_stand.ensures
