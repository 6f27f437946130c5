use Rattle.ss_sched.proofs.Hints.{no_hints}
use Rattle.ss_sched.proofs.inbox.Inbox.new.Goals as goal

pub invariant_of-result : goal.invariant_of-result
invariant_of-result g c = (rw c.in_ok-hints.ensures.items no_hints, rw c.in_ok-hints.ensures.items c.no_marks.ensures, c.in_ok-hints.ensures.capacity)
