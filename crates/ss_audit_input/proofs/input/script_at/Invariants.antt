use Rattle.std.proofs.Common.{take}
use Rattle.ss_refusals.proofs.CallerLemmas.{SoFar}
use Rattle.ss_audit_input.proofs.input.script_at.Given as goal

abbrev pub invariant-loop-line : goal.invariant-loop-line
invariant-loop-line l = SoFar l.fn.catalog l.catalog (take l.line-index l.lines) l.requests
