use Rattle.std.proofs.Common.{subst, ◌∙◌}
use Rattle.std.proofs.lemmas.Result.{err_from_is_err_and}
use Rattle.ss_value.specs.Rows.{Row}
use Rattle.ss_model.specs.Results.{OrAbort, try_fold}
use Rattle.ss_model.specs.Statements.{Execution}
use Rattle.ss_model.specs.Bodies.{execute_inner}
use Rattle.ss_model.specs.Stops.{StopsAs}
use Rattle.ss_plan.proofs.CallerLemmas.{changed_on}
use Rattle.ss_proc.specs.Executions.{context_of, execution_of}
use Rattle.ss_model.proofs.CallerLemmas.{fold_goes_on, fold_stops}
use Rattle.ss_proc.proofs.steps.for_each.Goals as goal

pub returns-in_err-run_inners : goal.returns-in_err-run_inners
returns-in_err-run_inners c =
    let p = err_from_is_err_and c.from_residual.result c.from_residual.ensures.1 in
    let one = λ (row : Row). try_fold (execute_inner (context_of c.args.given.now) row) c.args.body.now in
    rw (p.1, p.2)
    (record {
      ok = tt;
      stops =
          subst (λ (r : OrAbort Execution). StopsAs r c.in_err-run_inners.field-0.0) c.loop-row.invariant.folds
          (fold_stops one c.args.rows.now c.loop-row.row-index c.row-item.result (execution_of c.loop-row.shard c.loop-row.work) c.in_err-run_inners.field-0.0 c.loop-row-test.true c.row-item.is c.in_err-run_inners.ensures.stops);
      changed = changed_on c.args.shard.now c.loop-row.shard c.run_inners.new.shard c.loop-row.invariant.changed c.run_inners.ensures.changed;
    })

pub loop-row-preserved : goal.loop-row-preserved
loop-row-preserved c =
    let one = λ (row : Row). try_fold (execute_inner (context_of c.args.given.now) row) c.args.body.now in record {
      folds =
          fold_goes_on one c.args.rows.now c.loop-row.row-index c.row-item.result (execution_of c.loop-row.shard c.loop-row.work) (execution_of c.run_inners.new.shard c.run_inners.new.work) c.loop-row-test.true c.row-item.is c.in_ok-run_inners.ensures.ok
          ∙ c.loop-row.invariant.folds;
      changed = changed_on c.args.shard.now c.loop-row.shard c.run_inners.new.shard c.loop-row.invariant.changed c.run_inners.ensures.changed;
    }
