use Rattle.ss_undo.proofs.Holding.{rows_are_there}
use Rattle.ss_undo.proofs.index_laws.rows_are_there.Goals as goal

pub returns : goal.returns
returns c = rows_are_there
