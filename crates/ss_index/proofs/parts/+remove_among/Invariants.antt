use Rattle.std.proofs.Common.{length}
use Rattle.ss_index.proofs.parts.+remove_among.Given as goal

abbrev pub decreases-remove_among : goal.decreases-remove_among
decreases-remove_among l = length l.others.now
