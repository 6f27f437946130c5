use Rattle.std.proofs.Common.{ap}
use Rattle.std.proofs.lemmas.Option.{get_or_from_slice_get}
use Rattle.ss_audit.specs.declared.positions.Placed.{Placed}
use Rattle.ss_audit.proofs.replies.index_at.Goals as goal

pub returns : goal.returns
returns c = λ p there. ap (λ (q : Placed). q.index) (get_or_from_slice_get c.args.placed.now c.args.position p _ there)
