use Rattle.std.proofs.Common.{◌<◌, ◌≤◌, arith}
use Rattle.ss_model.proofs.CallerLemmas.{home_below}
use Rattle.ss_partition.proofs.sets.touch_set.Goals as goal

pub one_partition-requires : goal.one_partition-requires
one_partition-requires c =
    let runs : c.border_home.result < c.args.parts = rw c.border_home.ensures (home_below c.args.parts _ c.requires.some) in
    let few : c.args.parts ≤ 8 = c.requires.few in
    omega arith
