use Rattle.std.proofs.Common.{length}
use Rattle.ss_shard.proofs.joins.tables.+release_tables.Given as goal

abbrev pub decreases-release_tables : goal.decreases-release_tables
decreases-release_tables l = length l.tables.now
