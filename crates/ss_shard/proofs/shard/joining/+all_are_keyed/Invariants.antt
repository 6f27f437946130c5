use Rattle.std.proofs.Common.{length}
use Rattle.ss_shard.proofs.shard.joining.+all_are_keyed.Given as goal

abbrev pub decreases-all_are_keyed : goal.decreases-all_are_keyed
decreases-all_are_keyed l = length l.tables.now
