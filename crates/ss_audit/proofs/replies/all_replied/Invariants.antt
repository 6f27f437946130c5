use Rattle.std.proofs.Common.{[], take, drop}
use Rattle.ss_audit_laws.specs.Checks.{called_replies}
use Rattle.ss_audit.proofs.Saying.{ComesTo}
use Rattle.ss_audit.proofs.replies.all_replied.Given as goal

abbrev pub invariant-loop-at : goal.invariant-loop-at
invariant-loop-at l =
    ComesTo l.end (called_replies l.entries (take l.at l.requests) (drop l.at l.requests)) l.rest (called_replies l.entries [] l.requests) l.replies
