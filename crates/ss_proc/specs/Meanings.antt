-- What the parts of an execution mean to the model, by what it is given and how far it is.
use Rattle.std.specs.Prelude.{◌≡◌, ℕ, List, [], Ok, Result, OnOk, IfErr}
use Rattle.std.specs.List.{filter}
use Rattle.ss_value.specs.Rows.{Row, Rows}
use Rattle.ss_sql_trees.specs.declared.typed.Query.{Query}
use Rattle.ss_sql_trees.specs.declared.typed.Statement.{Statement}
use Rattle.ss_model.specs.declared.catalog.Step.{Step}
use Rattle.ss_model.specs.Results.{OrAbort}
use Rattle.ss_model.specs.Statements.{Execution, context_query, statement_effect, run_triggers, cascade_to_depth}
use Rattle.ss_model.specs.Bodies.{run_body}
use Rattle.ss_model.specs.Database.{body_result}
use Rattle.ss_model.specs.declared.run_error.RunError.{RunError}
use Rattle.ss_model.specs.Stops.{StopsAs}
use Rattle.ss_shard.specs.ShardValue.{ShardValue}
use Rattle.ss_shard.specs.Contents.{contents_of}
use Rattle.ss_shard.specs.Shards.{Changed}
use Rattle.ss_plan.specs.Statements.{effect_of}
use Rattle.ss_plan.specs.declared.statement.Wrote.{Wrote}
use Rattle.ss_proc.specs.Waiting.{waits_for}
use Rattle.ss_proc.specs.declared.firings.TriggerEvent.{TriggerEvent}
use Rattle.ss_proc.specs.Executions.{context_of, context_seen, execution_of}
use Rattle.ss_proc.specs.declared.work.Given.{Given}
use Rattle.ss_proc.specs.declared.work.Work.{Work}
use Rattle.ss_proc.specs.declared.bodies.BodyResult.{BodyResult}

-- a part of an execution brings a shard and its work to these
abbrev pub Brings : (Execution → OrAbort Execution) → ShardValue → Work → ShardValue → Work → Type 0
Brings step old work new further = step (execution_of old work) ≡ Ok (execution_of new further)

-- a part of an execution stops as the model's does
abbrev pub StepStops : (Execution → OrAbort Execution) → ShardValue → Work → RunError → Type 0
StepStops step shard work = StopsAs (step (execution_of shard work))

-- a part of an execution does what the model's does, done or stopped, and notes what it changes
pub record Does (step : Execution → OrAbort Execution) (result : Result (Unit {0}) RunError) (old : ShardValue) (work : Work) (new : ShardValue) (further : Work) : Type 0 where
  pub ok : OnOk result (Brings step old work new further)
  pub stops : IfErr result (StepStops step old work)
  pub changed : Changed old new

-- ---- statements and queries

-- a statement made this
abbrev pub EffectMade : Given → Rows → Row → Statement → ShardValue → ShardValue → Wrote → Type 0
EffectMade g inserted params statement old new wrote = statement_effect (context_of g) inserted params statement (contents_of old) ≡ Ok (effect_of wrote (contents_of new))

-- a statement stops as the model's does
abbrev pub EffectStops : Given → Rows → Row → Statement → ShardValue → RunError → Type 0
EffectStops g inserted params statement shard = StopsAs (statement_effect (context_of g) inserted params statement (contents_of shard))

-- the rows of a query of a body
abbrev pub rows_of_query : Given → Row → Query → ShardValue → OrAbort Rows
rows_of_query g params query shard = context_query (context_of g) [] params query (contents_of shard)

-- the rows of a query of a body, on the arguments, where these batches were emitted so far
abbrev pub rows_seen : Given → List Rows → Query → ShardValue → OrAbort Rows
rows_seen g emitted query shard = context_query (context_seen g emitted) [] g.args.now query (contents_of shard)

-- ---- windows and triggers, where those of windows may nest to a depth

-- the triggers that an event sets off
abbrev pub fire_to_depth : ℕ → Given → TriggerEvent → Rows → Execution → OrAbort Execution
fire_to_depth depth g event inserted w = run_triggers (context_of g) (cascade_to_depth depth (context_of g)) inserted (filter (λ t. waits_for event t.on) (context_of g).catalog.triggers) w

-- ---- bodies

-- a whole body was done on a shard
abbrev pub BodyDone : Given → List Step → ShardValue → ShardValue → Work → Type 0
BodyDone g body old new work = run_body (context_of g) body (contents_of old) ≡ Ok (execution_of new work)

-- a whole body came to this, done or aborted
abbrev pub BodyLeaves : Given → List Step → ShardValue → ShardValue → BodyResult → Type 0
BodyLeaves g body old new left =
    body_result g.catalog.now (contents_of old) (run_body (context_of g) body (contents_of old)) ≡ record { contents = contents_of new; outcome = left.outcome; emitted = left.emitted }
