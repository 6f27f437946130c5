use Rattle.std.proofs.lemmas.Result.{err_from_is_err_and}
use Rattle.ss_model_computed.specs.State.{contents_of, context_of, execution_of}
use Rattle.ss_model.proofs.CallerLemmas.{steps_stop, windows_stop, body_done}
use Rattle.ss_model_computed.proofs.bodies.runs.run_body.Goals as goal

pub returns-in_err-execute_steps-clause-stops : goal.returns-in_err-execute_steps-clause-stops
returns-in_err-execute_steps-clause-stops c =
    let p = err_from_is_err_and c.from_residual-in_err-execute_steps.result c.from_residual-in_err-execute_steps.ensures.1 in
    rw (p.1, p.2)
    (steps_stop (context_of c.args.context.now) c.args.body.now (contents_of c.args.contents) (execution_of c.in_ok-execution.execution) c.in_ok-execution.ensures
    c.in_err-execute_steps.field-0.0 (rw c.as_slice.ensures at c.in_err-execute_steps.ensures.stops))

pub returns-in_err-close_owned-clause-stops : goal.returns-in_err-close_owned-clause-stops
returns-in_err-close_owned-clause-stops c =
    let p = err_from_is_err_and c.from_residual-in_err-close_owned.result c.from_residual-in_err-close_owned.ensures.1 in
    rw (p.1, p.2)
    (windows_stop (context_of c.args.context.now) c.args.body.now (contents_of c.args.contents) (execution_of c.in_ok-execution.execution) c.in_ok-execution.ensures
    (execution_of c.execute_steps.new.execution) c.in_err-close_owned.field-0.0 (rw c.as_slice.ensures at c.in_ok-execute_steps.ensures.ok) c.in_err-close_owned.ensures.stops)

pub returns-clause-ok : goal.returns-clause-ok
returns-clause-ok c =
    body_done (context_of c.args.context.now) c.args.body.now (contents_of c.args.contents) (execution_of c.in_ok-execution.execution) c.in_ok-execution.ensures
    (execution_of c.execute_steps.new.execution) (execution_of c.close_owned.new.execution) (rw c.as_slice.ensures at c.in_ok-execute_steps.ensures.ok) c.in_ok-close_owned.ensures.ok
