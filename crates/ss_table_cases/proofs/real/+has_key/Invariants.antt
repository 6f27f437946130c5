use Rattle.std.proofs.Common.{length}
use Rattle.ss_table_cases.proofs.real.+has_key.Given as goal

abbrev pub decreases-has_key : goal.decreases-has_key
decreases-has_key l = length l.key.now
