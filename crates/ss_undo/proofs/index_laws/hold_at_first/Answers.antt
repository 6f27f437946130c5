use Rattle.ss_undo.proofs.Holding.{hold_at_first}
use Rattle.ss_undo.proofs.index_laws.hold_at_first.Goals as goal

pub returns : goal.returns
returns c = hold_at_first
