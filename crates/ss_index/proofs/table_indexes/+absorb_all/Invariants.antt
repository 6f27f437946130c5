use Rattle.std.proofs.Common.{length}
use Rattle.ss_index.proofs.table_indexes.+absorb_all.Given as goal

abbrev pub decreases-absorb_all : goal.decreases-absorb_all
decreases-absorb_all l = length l.indexes.now
