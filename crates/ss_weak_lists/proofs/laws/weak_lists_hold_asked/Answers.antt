use Rattle.ss_weak_lists.proofs.WeakLists.{weak_holds}
use Rattle.ss_weak_lists.proofs.laws.weak_lists_hold_asked.Goals as goal

pub returns : goal.returns
returns c = λ catalog db entries list all h. weak_holds catalog entries db list all h
