use Rattle.std.proofs.Common.{◌≡◌, ◌∙◌, ap, sym}
use Rattle.ss_model.specs.Nests.{moved_emit, moved_step}
use Rattle.ss_nest.specs.Members.{stands_in}
use Rattle.ss_nest.specs.Moves.{moved_by}
use Rattle.ss_nest.proofs.moved.moved_step.Goals as goal

pub returns-in_ok-query-in-Emit : goal.returns-in_ok-query-in-Emit
returns-in_ok-query-in-Emit c =
    let move = moved_by c.args.moves.now in
    let inner = c.args.inner.now in
    let is_inner : c.stands_in.result ≡ stands_in inner c.in-Emit.stream = c.stands_in.ensures ∙ ap (stands_in inner) c.from.ensures in
    c.moved_emit.ensures move ∙ (λ i. moved_emit move (is_inner i) c.in-Emit.stream (c.in_ok-query-in-Emit.ensures i)) ∙ ap (moved_step move inner) (sym c.in-Emit.is)
