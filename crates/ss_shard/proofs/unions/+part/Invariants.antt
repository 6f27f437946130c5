use Rattle.std.proofs.Common.{length}
use Rattle.ss_shard.proofs.unions.+part.Given as goal

abbrev pub decreases-part : goal.decreases-part
decreases-part l = length l.shells.now
