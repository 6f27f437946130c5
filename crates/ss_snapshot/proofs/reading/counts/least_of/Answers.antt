use Rattle.std.proofs.Common.{refl}
use Rattle.ss_snapshot.proofs.LeastCounts.{least_next}
use Rattle.ss_snapshot.proofs.reading.counts.least_of.Goals as goal

pub loop-procedure-preserved : goal.loop-procedure-preserved
loop-procedure-preserved c =
    least_next c.args.catalog.now c.args.stream c.args.had c.args.counts.now c.loop-procedure.procedure c.loop-procedure.least c.least_with-least.result _
    c.loop-procedure.invariant c.loop-procedure-test.true refl c.least_with-least.ensures
