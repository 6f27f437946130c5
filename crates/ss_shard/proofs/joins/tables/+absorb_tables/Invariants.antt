use Rattle.std.proofs.Common.{length}
use Rattle.ss_shard.proofs.joins.tables.+absorb_tables.Given as goal

abbrev pub decreases-absorb_tables : goal.decreases-absorb_tables
decreases-absorb_tables l = length l.tables.now
