use Rattle.std.proofs.Common.{◌≡◌, ◌++◌, drop}
use Rattle.ss_audit.specs.Positions.{placed_lines}
use Rattle.ss_audit.proofs.replies.placed_lines.Given as goal

abbrev pub invariant-loop-position : goal.invariant-loop-position
invariant-loop-position l = l.placed.items ++ placed_lines l.position (drop l.position l.entries) ≡ placed_lines 0 l.entries
