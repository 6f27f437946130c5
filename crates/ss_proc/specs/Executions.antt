-- What an execution is given, how far it is, and what it leaves.
use Rattle.std.specs.Prelude.{◌≡◌, ◌≤◌, ℕ, Bool, true, false, List, [], ◌++◌, map, get_or, replicate, length, slice_get, Some, Ok}
use Rattle.std.specs.List.{AllByRecursion, list_all}
use Rattle.std.specs.Option.{option_map}
use Rattle.ss_value.specs.Rows.{Rows, column_value}
use Rattle.ss_model.specs.declared.catalog.Catalog.{Catalog}
use Rattle.ss_model.specs.declared.catalog.Inner.{Inner}
use Rattle.ss_model.specs.declared.catalog.Inner.TheVariants.{Sql as InnerSql, AbortIf as InnerAbortIf}
use Rattle.ss_model.specs.declared.catalog.Step.{Step}
use Rattle.ss_model.specs.declared.catalog.Step.TheVariants.{Sql, AbortIf, ForEach, Emit, Local, Return}
use Rattle.ss_model.specs.declared.entry.Reason.TheVariants.{ReplyFull}
use Rattle.ss_model.specs.declared.catalog.Procedure.{Procedure}
use Rattle.ss_model.specs.Accepted.{Accepted}
use Rattle.ss_model.specs.Database.{Database, present}
use Rattle.ss_model.specs.Results.{OrAbort, abort_when, and_behind}
use Rattle.ss_model.specs.Scopes.{trigger_in_scope}
use Rattle.ss_model.specs.Statements.{Context, Execution}
use Rattle.ss_model.specs.Bodies.{exceeds_row_limit}
use Rattle.ss_shard.specs.ShardValue.{ShardValue}
use Rattle.ss_shard.specs.Contents.{contents_of}
use Rattle.ss_shard.specs.Shards.{IsOf}
use Rattle.ss_plan.specs.Statements.{FitsTables, SplitByKeys}
use Rattle.ss_proc.specs.declared.work.Given.{Given}
use Rattle.ss_proc.specs.declared.work.Work.{Work}

-- what an execution is given, to the model
abbrev pub context_of : Given → Context
context_of g = record {
  catalog = g.catalog.now;
  procedure = g.procedure;
  args = g.args.now;
  batches = g.batches.now;
  inner = g.inner.now;
  split_value = option_map (λ a. column_value g.args.now a) g.arg;
}

-- what a step is given where these were emitted so far, to the model: it sees the inner batches behind those that are given
abbrev pub context_seen : Given → List Rows → Context
context_seen g emitted = record (context_of g) { batches = and_behind g.batches.now (map (λ s. get_or emitted s []) g.inner.now) }

-- whether a step adds rows to the batch of a stream
abbrev pub adds_rows : Step → Bool
adds_rows (Emit s q) = true
adds_rows (Local s q) = true
adds_rows _ = false

-- how far an execution is, to the model: tables and windows as the shard has them, and the rest as the work has it
abbrev pub execution_of : ShardValue → Work → Execution
execution_of shard work = record {
  contents = contents_of shard;
  open_units = work.open_units;
  emitted = work.emitted;
  reply = work.reply;
}

-- no row yet in a unit, a batch or the reply
abbrev pub empty_work : Catalog → Work
empty_work catalog = record {
  open_units = replicate (length catalog.windows) [];
  emitted = replicate (length catalog.streams) [];
  reply = [];
}

-- ---- what may run

-- each statement of each trigger of a catalogue fits the tables
abbrev pub TriggersFit : Catalog → Type 0
TriggersFit catalog = AllByRecursion (λ t. AllByRecursion (FitsTables catalog) t.statements) catalog.triggers

-- executions may run: tables are split by columns of their keys, and there are at most 64 triggers, which fit and see no batch
pub record MayRun (catalog : Catalog) : Type 0 where
  pub keyed : SplitByKeys catalog
  pub triggers : TriggersFit catalog
  pub scope : list_all (trigger_in_scope catalog) catalog.triggers ≡ true
  pub few : length catalog.triggers ≤ 64

-- they may run on a shard: it is one of the catalogue
pub record MayRunOn (catalog : Catalog) (shard : ShardValue) : Type 0 where
  pub of_catalog : IsOf catalog shard
  pub runs : MayRun catalog

-- a step of a `for_each` may run: its statement, if it has one, fits the tables
abbrev pub InnerRuns : Catalog → Inner → Type 0
InnerRuns catalog (InnerSql s) = FitsTables catalog s
InnerRuns catalog (InnerAbortIf c code) = Unit {0}

-- a step of a body may run: its statements fit the tables
abbrev pub StepRuns : Catalog → Step → Type 0
StepRuns catalog (Sql s) = FitsTables catalog s
StepRuns catalog (AbortIf c code) = Unit {0}
StepRuns catalog (ForEach input body) = AllByRecursion (InnerRuns catalog) body
StepRuns catalog (Emit s q) = Unit {0}
StepRuns catalog (Local s q) = Unit {0}
StepRuns catalog (Return q) = Unit {0}

-- the reply with rows behind it, or the abort where these are more than it may have
abbrev pub longer_reply : Rows → Rows → OrAbort Rows
longer_reply reply rows = abort_when (exceeds_row_limit reply rows) ReplyFull (Ok (reply ++ rows))

-- the steps of a procedure may run, with its own body and with the one that it has in any database
pub record ProcedureRuns (catalog : Catalog) (q : ℕ) (p : Procedure) : Type 0 where
  pub own : AllByRecursion (StepRuns catalog) p.body
  pub installed : (db : Database) → AllByRecursion (StepRuns catalog) (present catalog db q p).body

-- law: executions of an accepted catalogue may run
abbrev pub BodiesRun : Type 0
BodiesRun =
    (catalog : Catalog) → Accepted catalog → MayRun catalog × ((q : ℕ) (p : Procedure) → slice_get catalog.procedures q ≡ Some p → ProcedureRuns catalog q p)
