use Rattle.std.proofs.Common.{◌≡◌, drop}
use Rattle.std.specs.List.{AllByRecursion}
use Rattle.ss_model.specs.Results.{try_fold}
use Rattle.ss_model.specs.Bodies.{execute_step}
use Rattle.ss_shard.specs.Shards.{Changed}
use Rattle.ss_proc.specs.Executions.{context_of, execution_of, StepRuns}
use Rattle.ss_proc.proofs.so_far.run_steps.Given as goal

abbrev pub invariant-loop-step : goal.invariant-loop-step
invariant-loop-step l = record {
  folds : try_fold (execute_step (context_of l.given)) (drop l.step-index l.steps) (execution_of l.shard l.work) ≡ try_fold (execute_step (context_of l.given)) l.steps (execution_of l.fn.shard l.fn.work);
  changed : Changed l.fn.shard l.shard;
  fits : AllByRecursion (StepRuns l.given.catalog.now) (drop l.step-index l.steps);
}
