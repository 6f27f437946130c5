use Rattle.std.proofs.Common.{length}
use Rattle.ss_shard.proofs.unions.+unite.Given as goal

abbrev pub decreases-unite : goal.decreases-unite
decreases-unite l = length l.others.now
