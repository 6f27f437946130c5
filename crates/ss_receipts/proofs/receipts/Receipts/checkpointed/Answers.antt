use Rattle.std.proofs.Common.{◌∙◌, ◌+◌, ℕ, length, sym, subst}
use Rattle.ss_receipts.specs.Checkpointing.{IsCheckpointed}
use Rattle.ss_receipts.proofs.receipts.Receipts.checkpointed.Goals as goal

pub returns-clause-seen : goal.returns-clause-seen
returns-clause-seen g c k l there too =
    let a = c.made_checkpoint.ensures.seen k there in
    let b = c.made_checkpoint.ensures.seen l too in
    (a.0 ∙ sym b.0, a.1 ∙ sym b.1)

pub returns-clause-answer : goal.returns-clause-answer
returns-clause-answer g c list at k there =
    subst (λ (n : ℕ). IsCheckpointed (g.I.Life.first + length list) n c.made_checkpoint.result) (sym (c.made_checkpoint.ensures.seen k there).1) (c.made_checkpoint.ensures.answer list at)
