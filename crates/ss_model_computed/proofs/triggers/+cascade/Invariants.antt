use Rattle.std.proofs.Common.{◌≡◌, ◌+◌, ◌*◌, [], drop}
use Rattle.std.specs.List.{filter}
use Rattle.ss_model.specs.Results.{try_fold}
use Rattle.ss_model.specs.Statements.{execute_statement, stage_row, run_triggers, cascade_to_depth}
use Rattle.ss_model_computed.specs.State.{execution_of, context_of}
use Rattle.ss_model_computed.specs.Firing.{waits_for}
use Rattle.ss_model_computed.proofs.triggers.+cascade.Given as goal

abbrev pub decreases-cascade : goal.decreases-cascade
decreases-cascade l = l.depth * 8

abbrev pub decreases-close_to_depth : goal.decreases-close_to_depth
decreases-close_to_depth l = l.depth * 8 + 1

abbrev pub decreases-stage_row : goal.decreases-stage_row
decreases-stage_row l = l.depth * 8 + 2

abbrev pub decreases-stage_rows : goal.decreases-stage_rows
decreases-stage_rows l = l.depth * 8 + 3

abbrev pub decreases-execute_to_depth : goal.decreases-execute_to_depth
decreases-execute_to_depth l = l.depth * 8 + 4

abbrev pub decreases-run_statements : goal.decreases-run_statements
decreases-run_statements l = l.depth * 8 + 5

abbrev pub decreases-run_triggers : goal.decreases-run_triggers
decreases-run_triggers l = l.depth * 8 + 6

abbrev pub invariant-stage_rows-loop-row : goal.invariant-stage_rows-loop-row
invariant-stage_rows-loop-row l = let stage = stage_row (context_of l.context).catalog (cascade_to_depth l.depth (context_of l.context)) l.window in
    try_fold stage (drop l.row-index l.rows) (execution_of l.execution) ≡ try_fold stage l.rows (execution_of l.fn.execution)

abbrev pub invariant-run_statements-loop-statement : goal.invariant-run_statements-loop-statement
invariant-run_statements-loop-statement l =
    let run = execute_statement (context_of l.context) (cascade_to_depth l.depth (context_of l.context)) l.inserted [] in record {
      folds : try_fold run (drop l.statement-index l.statements) (execution_of l.execution) ≡ try_fold run l.statements (execution_of l.fn.execution);
      nothing : l.nothing-inside.items.items ≡ [];
    }

abbrev pub invariant-run_triggers-loop-trigger : goal.invariant-run_triggers-loop-trigger
invariant-run_triggers-loop-trigger l =
    let run = run_triggers (context_of l.context) (cascade_to_depth l.depth (context_of l.context)) l.inserted in
    run (filter (λ t. waits_for l.on t.on) (drop l.trigger-index l.trigger-items)) (execution_of l.execution)
    ≡ run (filter (λ t. waits_for l.on t.on) l.trigger-items) (execution_of l.fn.execution)
