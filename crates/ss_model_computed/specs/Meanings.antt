-- What the parts of an execution mean, in terms of the program's contents, executions and contexts.
use Rattle.std.specs.Prelude.{◌≡◌, ℕ, List, [], Option, Ok}
use Rattle.std.specs.List.{filter}
use Rattle.ss_value.specs.declared.value.Value.{Value}
use Rattle.ss_value.specs.Rows.{Row, Rows}
use Rattle.ss_sql_trees.specs.declared.typed.Query.{Query}
use Rattle.ss_sql_trees.specs.declared.typed.SourceId.{SourceId}
use Rattle.ss_sql_trees.specs.declared.typed.Statement.{Statement}
use Rattle.ss_sql_trees.specs.declared.typed.Target.{Target}
use Rattle.ss_model.specs.declared.catalog.Catalog.{Catalog}
use Rattle.ss_model.specs.declared.catalog.On.{On}
use Rattle.ss_model.specs.declared.catalog.Step.{Step}
use Rattle.ss_model.specs.Results.{OrAbort}
use Rattle.ss_model.specs.Contents.{Table, Contents, source_rows, visible_table}
use Rattle.ss_model.specs.Statements.{Execution, context_query, insert_into, statement_effect, run_triggers, cascade_to_depth}
use Rattle.ss_model.specs.Bodies.{run_body}
use Rattle.ss_model.specs.Database.{body_result}
use Rattle.ss_model.specs.declared.run_error.RunError.{RunError}
use Rattle.ss_model.specs.Stops.{StopsAs}
use Rattle.ss_model_computed.specs.State.{contents_of, execution_of, context_of}
use Rattle.ss_model_computed.specs.Effects.{effect_of}
use Rattle.ss_model_computed.specs.Firing.{waits_for}
use Rattle.ss_model_computed.specs.Runs.{body_result_of}
use Rattle.ss_model_computed.specs.declared.contents.Contents.{Contents as HeldContents}
use Rattle.ss_model_computed.specs.declared.contents.Execution.{Execution as HeldExecution}
use Rattle.ss_model_computed.specs.declared.contents.Context.{Context as HeldContext}
use Rattle.ss_model_computed.specs.declared.effects.Effect.{Effect}
use Rattle.ss_model_computed.specs.declared.bodies.runs.BodyResult.{BodyResult as HeldResult}

-- a part of an execution takes it from the old state to the new one
abbrev pub Brings : (Execution → OrAbort Execution) → HeldExecution → HeldExecution → Type 0
Brings step old new = step (execution_of old) ≡ Ok (execution_of new)

-- a part of an execution stops so on the old state
abbrev pub StepStops : (Execution → OrAbort Execution) → HeldExecution → RunError → Type 0
StepStops step old stop = StopsAs (step (execution_of old)) stop

-- a change of contents turns the old ones into the new ones
abbrev pub TurnsInto : (Contents → OrAbort Contents) → HeldContents → HeldContents → Type 0
TurnsInto change old new = change (contents_of old) ≡ Ok (contents_of new)

-- ---- what an execution sees

-- a table as the execution sees it
abbrev pub table_seen : HeldContext → HeldContents → ℕ → Table
table_seen c s t = visible_table (context_of c).catalog (context_of c).split_value (contents_of s) t

-- the rows of a source as the execution sees them, with these rows just inserted
abbrev pub source_seen : HeldContext → Rows → HeldContents → SourceId → Rows
source_seen c inserted s source = source_rows (context_of c).catalog (context_of c).split_value (context_of c).batches inserted (contents_of s) source

-- the rows of a query of a body, whose parameters are the arguments
abbrev pub body_query : HeldContext → Query → HeldExecution → OrAbort Rows
body_query c query w = context_query (context_of c) [] c.args.now query (contents_of w.contents)

-- ---- what a statement makes

-- an INSERT of these rows makes this effect, and turns the old contents into the new ones
abbrev pub InsertMakes : HeldContext → Target → Rows → HeldContents → HeldContents → Effect → Type 0
InsertMakes c target rows old new effect = insert_into (context_of c) target rows (contents_of old) ≡ Ok (effect_of effect (contents_of new))

-- a statement makes this effect, and turns the old contents into the new ones
abbrev pub StatementMakes : HeldContext → Rows → Row → Statement → HeldContents → HeldContents → Effect → Type 0
StatementMakes c inserted params statement old new effect = statement_effect (context_of c) inserted params statement (contents_of old) ≡ Ok (effect_of effect (contents_of new))

-- a statement stops so on the old contents
abbrev pub StatementStops : HeldContext → Rows → Row → Statement → HeldContents → RunError → Type 0
StatementStops c inserted params statement old stop = StopsAs (statement_effect (context_of c) inserted params statement (contents_of old)) stop

-- ---- windows and triggers, where the triggers of windows nest to this depth

-- runs the triggers that wait for this stream or window
abbrev pub fire_to_depth : ℕ → HeldContext → Rows → On → Execution → OrAbort Execution
fire_to_depth depth c inserted on w = run_triggers (context_of c) (cascade_to_depth depth (context_of c)) inserted (filter (λ t. waits_for on t.on) (context_of c).catalog.triggers) w

-- ---- bodies

-- the run of a body, with these inner streams, on these contents leaves this result
abbrev pub BodyLeaves : Catalog → ℕ → List Step → Row → List Rows → List ℕ → Option Value → HeldContents → HeldResult → Type 0
BodyLeaves catalog number body args batches inner split s r =
    body_result catalog (contents_of s) (run_body (record { catalog = catalog; procedure = number; args = args; batches = batches; inner = inner; split_value = split }) body (contents_of s)) ≡ body_result_of r
