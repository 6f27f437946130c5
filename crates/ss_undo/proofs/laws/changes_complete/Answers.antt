use Rattle.ss_undo.proofs.Back.{goes_back}
use Rattle.ss_undo.proofs.Final.{settles}
use Rattle.ss_undo.proofs.laws.changes_complete.Goals as goal

pub returns : goal.returns
returns c = λ before now cs came. (goes_back before now cs came, settles before now cs came)
