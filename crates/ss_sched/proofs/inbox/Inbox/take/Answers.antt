use Rattle.std.proofs.Common.{subst}
use Rattle.ss_sched.specs.Lanes.{AreHints, IsMarked}
use Rattle.ss_sched.proofs.Hints.{hints_behind, mark_less}
use Rattle.ss_sched.proofs.inbox.Inbox.take.Goals as goal

pub invariant_of-self : goal.invariant_of-self
invariant_of-self g c =
    let hints = subst AreHints c.in-Some.ensures.items c.self.invariant.0 in
    let marked = subst (λ hs. IsMarked hs c.self.inside.waits) c.in-Some.ensures.items c.self.invariant.1 in (
      hints_behind c.in-Some.procedure c.pop_front.new.self.items hints,
      rw c.from.ensures (mark_less c.in-Some.procedure c.pop_front.new.self.items c.self.inside.waits hints marked),
      rw c.pop_front.ensures.capacity c.self.invariant.2,
    )
