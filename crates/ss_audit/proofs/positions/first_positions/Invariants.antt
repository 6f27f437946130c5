use Rattle.std.proofs.Common.{drop}
use Rattle.ss_audit.specs.Positions.{Finds}
use Rattle.ss_audit.proofs.positions.first_positions.Given as goal

abbrev pub invariant-loop-at : goal.invariant-loop-at
invariant-loop-at l = Finds (drop l.at l.requests) l.first
