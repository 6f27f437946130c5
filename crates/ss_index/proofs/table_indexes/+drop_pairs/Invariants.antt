use Rattle.std.proofs.Common.{length}
use Rattle.ss_index.proofs.table_indexes.+drop_pairs.Given as goal

abbrev pub decreases-drop_pairs : goal.decreases-drop_pairs
decreases-drop_pairs l = length l.indexes.now
