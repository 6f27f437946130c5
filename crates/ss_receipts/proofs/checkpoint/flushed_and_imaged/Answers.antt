use Rattle.std.proofs.Common.{ℕ, List, sym, subst}
use Rattle.ss_model.specs.Replays.{after}
use Rattle.ss_commitlog.specs.declared.rule.Item.{Item}
use Rattle.ss_commitlog.specs.Meaning.{listed_of}
use Rattle.ss_receipts.specs.Checkpointing.{IsCheckpointed, IsOfDatabase}
use Rattle.ss_receipts.proofs.checkpoint.flushed_and_imaged.Goals as goal

pub imaged-requires-clause-stand : goal.imaged-requires-clause-stand
imaged-requires-clause-stand g c =
    subst (λ (l : List Item). IsOfDatabase g.I.Life.catalog (after g.I.Life.catalog g.I.Life.opening (listed_of l)) c.args.whole.now c.args.streams.now.streams) (sym c.flushed.ensures.list) c.requires.stand

pub returns-in-Ok-clause-answer : goal.returns-in-Ok-clause-answer
returns-in-Ok-clause-answer g c = subst (λ (n : ℕ). IsCheckpointed n c.imaged.new.keeper.note.faults c.imaged.result) c.in-Ok.ensures.all.1 c.imaged.ensures.answer
