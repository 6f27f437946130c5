use Rattle.ss_flow.proofs.Emitting.{IsEmitting}
use Rattle.ss_flow.proofs.flow.emit_batches.Given as goal

abbrev pub invariant-loop-batch : goal.invariant-loop-batch
invariant-loop-batch l = IsEmitting l.fn.batches l.batch-iterator.rest.items l.fn.streams l.streams
