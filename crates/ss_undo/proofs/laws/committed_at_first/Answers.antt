use Rattle.std.proofs.Common.{refl}
use Rattle.ss_undo.proofs.Final.{all_are_committed}
use Rattle.ss_undo.proofs.laws.committed_at_first.Goals as goal

pub returns : goal.returns
returns c = λ tables. (refl, all_are_committed tables)
