use Rattle.std.proofs.Common.{◌≡◌, drop}
use Rattle.std.specs.List.{AllByRecursion}
use Rattle.ss_model.specs.Results.{try_fold}
use Rattle.ss_model.specs.Bodies.{execute_inner}
use Rattle.ss_shard.specs.Shards.{Changed}
use Rattle.ss_proc.specs.Executions.{context_of, execution_of, InnerRuns}
use Rattle.ss_proc.proofs.steps.run_inners.Given as goal

abbrev pub invariant-loop-inner : goal.invariant-loop-inner
invariant-loop-inner l = record {
  folds : try_fold (execute_inner (context_of l.given) l.current) (drop l.inner-index l.body) (execution_of l.shard l.work) ≡ try_fold (execute_inner (context_of l.given) l.current) l.body (execution_of l.fn.shard l.fn.work);
  changed : Changed l.fn.shard l.shard;
  fits : AllByRecursion (InnerRuns l.given.catalog.now) (drop l.inner-index l.body);
}
