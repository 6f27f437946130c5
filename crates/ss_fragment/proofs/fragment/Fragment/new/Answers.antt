use Rattle.ss_fragment.proofs.Cells.{live_empty}
use Rattle.ss_fragment.proofs.fragment.Fragment.new.Goals as goal

pub returns-clause-live : goal.returns-clause-live
returns-clause-live c = rw c.new-2.ensures live_empty
