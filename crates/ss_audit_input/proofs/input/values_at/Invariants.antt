use Rattle.std.proofs.Common.{take}
use Rattle.std.specs.List.{AllByRecursion}
use Rattle.ss_audit_input.specs.Audits.{HasValue}
use Rattle.ss_audit_input.proofs.input.values_at.Given as goal

abbrev pub invariant-loop-line : goal.invariant-loop-line
invariant-loop-line l = AllByRecursion HasValue (take l.line-index l.lines)
