use Rattle.ss_weak_lists.proofs.Pushes.{same_pushes}
use Rattle.ss_weak_lists.proofs.laws.pushes_need_numbers.Goals as goal

pub returns : goal.returns
returns c = λ catalog x y one other same r k pushed. same_pushes catalog x y one other same r k pushed
