use Rattle.std.proofs.Common.{◌≡◌, ◌+◌, ◌-◌, ◌≤◌}
use Rattle.ss_lines.proofs.SoFar.{IsRead}
use Rattle.ss_lines.proofs.read.read_lines.Given as goal

abbrev pub invariant-loop-taken : goal.invariant-loop-taken
invariant-loop-taken g l = record {
  read : IsRead (g.S.Source.kind.left l.fn.source) (g.S.Source.kind.left l.source) l.splitter l.taken;
  few : l.taken ≤ 67108865;
  number : l.splitter.number ≤ l.taken + 1;
  still : g.S.Source.kind.faults l.source ≡ g.S.Source.kind.faults l.fn.source;
}

abbrev pub decreases-loop-taken : goal.decreases-loop-taken
decreases-loop-taken g l = 67108865 - l.taken
