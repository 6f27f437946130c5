-- A step on the batches so far.
use Rattle.std.proofs.Common.{◌≡◌, ◌∙◌, ℕ, true, List, [], map, get_or, Ok, ap}
use Rattle.std.specs.List.{list_all}
use Rattle.ss_value.specs.Rows.{Rows}
use Rattle.ss_sql_trees.specs.declared.typed.Query.{Query}
use Rattle.ss_model.specs.declared.catalog.Step.{Step}
use Rattle.ss_model.specs.declared.catalog.Step.TheVariants.{Local}
use Rattle.ss_model.specs.Results.{OrAbort, ◌>>=◌, and_behind}
use Rattle.ss_model.specs.Scopes.{trigger_in_scope}
use Rattle.ss_model.specs.Statements.{Execution}
use Rattle.ss_model.specs.Bodies.{emit_rows, execute_step, step_on}
use Rattle.ss_model.specs.declared.run_error.RunError.{RunError}
use Rattle.ss_model.specs.Stops.{StopsAs}
use Rattle.ss_model.proofs.CallerLemmas.{stops_before}
use Rattle.ss_shard.specs.ShardValue.{ShardValue}
use Rattle.ss_proc.specs.declared.work.Given.{Given}
use Rattle.ss_proc.specs.declared.work.Work.{Work}
use Rattle.ss_proc.specs.Executions.{context_of, context_seen, execution_of}
use Rattle.ss_proc.specs.Meanings.{rows_seen}
use Rattle.ss_proc.proofs.Unseen.{emit_unseen}

-- without inner streams they are those that are given
pub on_given : (g : Given) → g.inner.now ≡ [] → (step : Step) (w : Execution) → execute_step (context_of g) step w ≡ step_on (context_of g) step w
on_given g none step w = ap (λ (inner : List ℕ). step_on (record (context_of g) { batches = and_behind g.batches.now (map (λ s. get_or w.emitted s []) inner) }) step w) none

-- rows that are added: the query sees these batches, and the triggers none
module _ (g : Given) (s : ℕ) (q : Query) (shard : ShardValue) (work : Work) where
  pub rows_added : list_all (trigger_in_scope g.catalog.now) (g.catalog.now).triggers ≡ true → (rows : Rows) → rows_seen g work.emitted q shard ≡ Ok rows
      → execute_step (context_of g) (Local s q) (execution_of shard work) ≡ emit_rows (context_of g) s rows (execution_of shard work)
  rows_added scope rows is =
      ap (λ (found : OrAbort Rows). found >>= λ rows. emit_rows (context_seen g work.emitted) s rows (execution_of shard work)) is
      ∙ emit_unseen (context_of g) (and_behind g.batches.now (map (λ s. get_or work.emitted s []) g.inner.now)) scope s rows (execution_of shard work)

  pub query_stops : (stop : RunError) → StopsAs (rows_seen g work.emitted q shard) stop → StopsAs (execute_step (context_of g) (Local s q) (execution_of shard work)) stop
  query_stops stop h = stops_before (rows_seen g work.emitted q shard) (λ rows. emit_rows (context_seen g work.emitted) s rows (execution_of shard work)) stop h
