use Rattle.std.proofs.Common.{length}
use Rattle.ss_table.proofs.table.parts.+least.Given as goal

abbrev pub decreases-least : goal.decreases-least
decreases-least l = length l.others.now
