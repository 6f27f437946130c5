use Rattle.std.proofs.Common.{length, All}
use Rattle.ss_party.specs.Turns.{IsTaken}
use Rattle.ss_party_tests.proofs.tests.counters.raise_all.Given as goal

abbrev pub invariant-loop-counter : goal.invariant-loop-counter
invariant-loop-counter g l = All (λ one. IsTaken (λ counter. counter.bay) l.bays one.1.bay one) l.taken.items

abbrev pub decreases-loop-counter : goal.decreases-loop-counter
decreases-loop-counter g l = length l.taken.items
