use Rattle.std.proofs.Common.{length}
use Rattle.ss_index.proofs.table_indexes.+add_pairs.Given as goal

abbrev pub decreases-add_pairs : goal.decreases-add_pairs
decreases-add_pairs l = length l.indexes.now
