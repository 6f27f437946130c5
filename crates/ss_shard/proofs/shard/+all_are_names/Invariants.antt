use Rattle.std.proofs.Common.{length}
use Rattle.ss_shard.proofs.shard.+all_are_names.Given as goal

abbrev pub decreases-all_are_names : goal.decreases-all_are_names
decreases-all_are_names l = length l.sources.now
