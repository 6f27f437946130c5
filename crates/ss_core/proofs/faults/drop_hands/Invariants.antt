use Rattle.std.proofs.Common.{◌≡◌, ◌++◌, take, drop}
use Rattle.ss_core.specs.Counts.{empty_hands}
use Rattle.ss_core.proofs.faults.drop_hands.Given as goal

abbrev pub invariant-loop-part : goal.invariant-loop-part
invariant-loop-part l = l.hands ≡ empty_hands (take l.part l.fn.hands) ++ drop l.part l.fn.hands
