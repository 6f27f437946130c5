-- What runs inside a context: windows and statements with the triggers of windows nested to a depth, and the steps of bodies.
use Rattle.std.specs.Prelude.{ℕ, List, [], get_or}
use Rattle.std.specs.List.{filter}
use Rattle.ss_value.specs.Rows.{Row, Rows}
use Rattle.ss_sql_trees.specs.declared.typed.Statement.{Statement}
use Rattle.ss_model.specs.declared.catalog.Inner.{Inner}
use Rattle.ss_model.specs.Results.{OrAbort, try_fold}
use Rattle.ss_model.specs.Statements.{Context, Execution, execute_statement, stage_row, close_unit, run_triggers, cascade_to_depth, trigger_cascade, is_on_stream}
use Rattle.ss_model.specs.Bodies.{execute_inner, owned_batch_windows, close_window}

-- ---- windows and statements, where the triggers of windows nest to this depth

-- closes a unit of a window
abbrev pub close_to_depth : ℕ → Context → ℕ → Rows → Execution → OrAbort Execution
close_to_depth depth context window unit w = close_unit context.catalog (cascade_to_depth depth context) window unit w

-- stages a row in a window
abbrev pub stage_to_depth : ℕ → Context → ℕ → Row → Execution → OrAbort Execution
stage_to_depth depth context window row w = stage_row context.catalog (cascade_to_depth depth context) window row w

-- stages rows in a window, one after another
abbrev pub stage_all_to_depth : ℕ → Context → ℕ → Rows → Execution → OrAbort Execution
stage_all_to_depth depth context window rows w = try_fold (stage_row context.catalog (cascade_to_depth depth context) window) rows w

-- runs a statement
abbrev pub run_to_depth : ℕ → Context → Rows → Row → Statement → Execution → OrAbort Execution
run_to_depth depth context inserted params statement w = execute_statement context (cascade_to_depth depth context) inserted params statement w

-- runs the statements of a trigger, which has no parameters
abbrev pub run_all_to_depth : ℕ → Context → Rows → List Statement → Execution → OrAbort Execution
run_all_to_depth depth context inserted statements w = try_fold (execute_statement context (cascade_to_depth depth context) inserted []) statements w

-- ---- the same, where they nest as deep as the windows are many

-- closes a unit of a window
abbrev pub close_and_fire : Context → ℕ → Rows → Execution → OrAbort Execution
close_and_fire context window unit w = close_unit context.catalog (trigger_cascade context) window unit w

-- runs a statement
abbrev pub run_and_fire : Context → Rows → Row → Statement → Execution → OrAbort Execution
run_and_fire context inserted params statement w = execute_statement context (trigger_cascade context) inserted params statement w

-- runs the triggers of a stream on these rows
abbrev pub fire_stream : Context → Rows → ℕ → Execution → OrAbort Execution
fire_stream context rows stream w = run_triggers context (trigger_cascade context) rows (filter (λ t. is_on_stream stream t.on) (context.catalog).triggers) w

-- ---- bodies

-- the steps of a `for_each` on one row
abbrev pub inner_steps : Context → Row → List Inner → Execution → OrAbort Execution
inner_steps context row body w = try_fold (execute_inner context row) body w

-- the steps of a `for_each` on each of these rows
abbrev pub steps_of_rows : Context → List Inner → Rows → Execution → OrAbort Execution
steps_of_rows context body rows w = try_fold (λ row. try_fold (execute_inner context row) body) rows w

-- the same on the rows of the batch of an input, of which there are none where there is no such input
abbrev pub steps_of_input : Context → List Inner → ℕ → Execution → OrAbort Execution
steps_of_input context body input w = steps_of_rows context body (get_or context.batches input []) w

-- closes the windows of batches that the context's procedure owns, in written order
abbrev pub close_owned : Context → Execution → OrAbort Execution
close_owned context w = try_fold (close_window context) (owned_batch_windows context.catalog context.procedure) w
