use Rattle.std.proofs.Common.{List, subst}
use Rattle.ss_model.specs.declared.entry.Emitted.{Emitted}
use Rattle.ss_flow.proofs.Emitting.{IsEmitting, one_emitted}
use Rattle.ss_flow.proofs.flow.emit_batches.Goals as goal

pub loop-batch-preserved : goal.loop-batch-preserved
loop-batch-preserved c =
    let still = subst (λ (rest : List Emitted). IsEmitting c.args.batches rest c.args.streams.now c.loop-batch.streams) c.in-Some.ensures.steps.0 c.loop-batch.invariant in
    one_emitted c.args.batches c.next.new.self.rest.items c.in-Some.batch c.args.streams.now c.loop-batch.streams still c.emit.new.self c.in-Ok.ensures.joined c.emit.ensures.elsewhere
