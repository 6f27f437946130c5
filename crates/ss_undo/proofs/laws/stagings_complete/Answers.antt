use Rattle.ss_undo.proofs.Windows.{windows_go_back}
use Rattle.ss_undo.proofs.laws.stagings_complete.Goals as goal

pub returns : goal.returns
returns c = windows_go_back
