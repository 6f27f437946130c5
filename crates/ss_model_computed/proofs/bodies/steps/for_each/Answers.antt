use Rattle.std.proofs.Common.{subst, ◌∙◌}
use Rattle.std.proofs.lemmas.Result.{err_from_is_err_and}
use Rattle.ss_model.specs.Results.{OrAbort, try_fold}
use Rattle.ss_model.specs.Statements.{Execution}
use Rattle.ss_model.specs.Bodies.{execute_inner}
use Rattle.ss_value.specs.Rows.{Row}
use Rattle.ss_model.specs.Stops.{StopsAs}
use Rattle.ss_model_computed.specs.State.{context_of, execution_of}
use Rattle.ss_model.proofs.CallerLemmas.{fold_goes_on, fold_stops}
use Rattle.ss_model_computed.proofs.bodies.steps.for_each.Goals as goal

pub returns-in_err-execute_inners-clause-stops : goal.returns-in_err-execute_inners-clause-stops
returns-in_err-execute_inners-clause-stops c =
    let p = err_from_is_err_and c.from_residual.result c.from_residual.ensures.1 in
    let one = λ (row : Row). try_fold (execute_inner (context_of c.args.context.now) row) c.args.body.now in
    rw (p.1, p.2)
    (subst (λ (r : OrAbort Execution). StopsAs r c.in_err-execute_inners.field-0.0) c.loop-row.invariant
    (fold_stops one c.args.rows.now c.loop-row.row-index c.row-item.result (execution_of c.loop-row.execution) c.in_err-execute_inners.field-0.0 c.loop-row-test.true c.row-item.is c.in_err-execute_inners.ensures.stops))

pub loop-row-preserved : goal.loop-row-preserved
loop-row-preserved c =
    let one = λ (row : Row). try_fold (execute_inner (context_of c.args.context.now) row) c.args.body.now in
    fold_goes_on one c.args.rows.now c.loop-row.row-index c.row-item.result (execution_of c.loop-row.execution) (execution_of c.execute_inners.new.execution) c.loop-row-test.true c.row-item.is c.in_ok-execute_inners.ensures.ok
    ∙ c.loop-row.invariant
