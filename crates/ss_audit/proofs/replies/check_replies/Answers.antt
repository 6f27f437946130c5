use Rattle.std.proofs.Common.{List, ◌∙◌, subst}
use Rattle.ss_audit.specs.declared.positions.Placed.{Placed}
use Rattle.ss_audit.specs.Positions.{Finds}
use Rattle.ss_audit.proofs.replies.check_replies.Goals as goal

pub all_replied-requires-clause-found : goal.all_replied-requires-clause-found
all_replied-requires-clause-found c = subst (λ (ps : List Placed). Finds ps c.in_ok-first.first) (c.as_slice.ensures.value ∙ c.in_ok-lines.ensures) c.in_ok-first.ensures
