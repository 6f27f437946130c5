use Rattle.ss_model_computed.specs.State.{execution_of, context_of}
use Rattle.ss_model.proofs.CallerLemmas.{one_depth_less}
use Rattle.ss_model_computed.proofs.triggers.+cascade.Goals as goal

pub cascade-returns-clause-ok : goal.cascade-returns-clause-ok
cascade-returns-clause-ok t c =
    rw (one_depth_less c.args.depth (context_of c.args.context.now) c.args.window (execution_of c.args.execution.now) c.if-depth-eq0.false)
    (rw c.new-nothing.ensures at c.run_triggers.ensures.ok)

pub cascade-returns-clause-stops : goal.cascade-returns-clause-stops
cascade-returns-clause-stops t c =
    rw (one_depth_less c.args.depth (context_of c.args.context.now) c.args.window (execution_of c.args.execution.now) c.if-depth-eq0.false)
    (rw c.new-nothing.ensures at c.run_triggers.ensures.stops)
