use Rattle.std.proofs.Common.{length}
use Rattle.ss_index.proofs.parts.+insert_among.Given as goal

abbrev pub decreases-insert_among : goal.decreases-insert_among
decreases-insert_among l = length l.others.now
