use Rattle.std.proofs.Common.{length}
use Rattle.ss_index.proofs.table_indexes.+release_all.Given as goal

abbrev pub decreases-release_all : goal.decreases-release_all
decreases-release_all l = length l.indexes.now
