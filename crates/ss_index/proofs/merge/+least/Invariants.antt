use Rattle.std.proofs.Common.{length}
use Rattle.ss_index.proofs.merge.+least.Given as goal

abbrev pub decreases-least : goal.decreases-least
decreases-least l = length l.heads.now
