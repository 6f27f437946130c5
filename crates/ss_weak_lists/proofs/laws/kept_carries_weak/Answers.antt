use Rattle.ss_weak_lists.proofs.WeakLists.{kept_carries_weak}
use Rattle.ss_weak_lists.proofs.laws.kept_carries_weak.Goals as goal

pub returns : goal.returns
returns c = λ catalog x y k. kept_carries_weak catalog c.kept_carries.ensures x y k
