use Rattle.ss_party.proofs.Alone.{FoundBelow}
use Rattle.ss_party.proofs.taking.only_member.Given as goal

abbrev pub invariant-loop-p : goal.invariant-loop-p
invariant-loop-p l = FoundBelow l.set l.p l.found
