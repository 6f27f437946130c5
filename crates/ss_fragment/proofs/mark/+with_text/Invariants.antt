use Rattle.std.proofs.Common.{length}
use Rattle.ss_fragment.proofs.mark.+with_text.Given as goal

abbrev pub decreases-with_text : goal.decreases-with_text
decreases-with_text l = length l.bytes.now
