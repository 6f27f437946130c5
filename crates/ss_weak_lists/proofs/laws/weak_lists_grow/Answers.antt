use Rattle.ss_weak_lists.proofs.WeakLists.{weak_grows}
use Rattle.ss_weak_lists.proofs.laws.weak_lists_grow.Goals as goal

pub returns : goal.returns
returns c = λ catalog db entries list e steps h s. weak_grows catalog entries db list e steps h s
