use Rattle.std.proofs.Common.{◌≡◌, drop}
use Rattle.ss_model.specs.Results.{try_fold}
use Rattle.ss_model.specs.Bodies.{execute_inner}
use Rattle.ss_shard.specs.Shards.{Changed}
use Rattle.ss_proc.specs.Executions.{context_of, execution_of}
use Rattle.ss_proc.proofs.steps.for_each.Given as goal

abbrev pub invariant-loop-row : goal.invariant-loop-row
invariant-loop-row l = record {
  folds : try_fold (λ row. try_fold (execute_inner (context_of l.given) row) l.body) (drop l.row-index l.rows) (execution_of l.shard l.work) ≡ try_fold (λ row. try_fold (execute_inner (context_of l.given) row) l.body) l.rows (execution_of l.fn.shard l.fn.work);
  changed : Changed l.fn.shard l.shard;
}
