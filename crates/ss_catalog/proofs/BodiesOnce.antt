-- A body is read as one list of steps at most, or has one first fault at most, and not both.
use Rattle.std.proofs.Common.{◌+◌, ℕ, List, Some, None}
use Rattle.std.specs.Prelude.{Ok}
use Rattle.ss_value.specs.declared.schema.Column.{Column}
use Rattle.ss_sql_trees.specs.declared.typed.Condition.{Condition}
use Rattle.ss_sql_trees.specs.declared.typed.Statement.{Statement}
use Rattle.ss_model.specs.declared.catalog.Inner.TheVariants.{Sql as InnerSql, AbortIf as InnerAbortIf}
use Rattle.ss_model.specs.declared.catalog.Step.TheVariants.{Sql, AbortIf, ForEach, Emit, Return}
use Rattle.ss_catalog_outline.specs.declared.types.InnerOutline.{InnerOutline}
use Rattle.ss_catalog_outline.specs.declared.types.InnerOutline.TheVariants.{Sql as SqlInside, AbortIf as AbortIfInside}
use Rattle.ss_catalog_outline.specs.declared.types.StepOutline.{StepOutline}
use Rattle.ss_catalog_outline.specs.declared.types.StepOutline.TheVariants as outline
use Rattle.ss_catalog_outline.specs.declared.types.ProcedureOutline.{ProcedureOutline}
use Rattle.ss_catalog_outline.specs.declared.types.TriggerOutline.{TriggerOutline}
use Rattle.ss_catalog_outline.specs.declared.types.Outline.{Outline}
use Rattle.ss_catalog_outline.specs.Limits.{step_count}
use Rattle.ss_catalog_resolve.specs.Numbers.{number_in}
use Rattle.ss_catalog_resolve.specs.Numbered.{sections_of, on_of}
use Rattle.ss_catalog_resolve.specs.Scopes.{trigger_scope}
use Rattle.ss_catalog_resolve.specs.Steps.{table_number, table_columns, stream_number, columns_of_stream, given_fault, unless_fault, insert_of, whole_table, step_scope, InnerReads, StepReads}
use Rattle.ss_catalog_resolve.specs.Bodies.{procedure_with, ProcedureReads, StatementReads, trigger_with, TriggerReads}
use Rattle.ss_catalog.proofs.OneAnswer.{HasOneAnswer, result_once, text_once, list_once, body_once, in_order_once}
use Rattle.ss_catalog.proofs.Texts.{SqlLaws, statement_once, condition_once, query_once}

module _ (laws : SqlLaws) (o : Outline) where
  -- ---- procedures

  module _ (p : ProcedureOutline) where
    inner_once : (params : List Column) (n : ℕ) (i : InnerOutline) → HasOneAnswer (InnerReads o p params n i)
    inner_once params n (SqlInside text) = text_once n InnerSql _ (statement_once laws (step_scope o p params None) text)
    inner_once params n (AbortIfInside test code) = text_once n (λ (c : Condition). InnerAbortIf c code) _ (condition_once laws (step_scope o p params None) test)

    step_once : (n : ℕ) (s : StepOutline) → HasOneAnswer (StepReads o p n s)
    step_once n (outline.Insert table values) = result_once (unless_fault n (given_fault p.args (table_columns o table) values) (insert_of o p table values))
    step_once n (outline.ReturnAll table) = result_once (Ok (Return (whole_table (table_number o table) (table_columns o table))))
    step_once n (outline.Sql text) = text_once n Sql _ (statement_once laws (step_scope o p p.args None) text)
    step_once n (outline.AbortIf test code) = text_once n (λ (c : Condition). AbortIf c code) _ (condition_once laws (step_scope o p p.args None) test)
    step_once n (outline.ForEach stream body) =
        let columns = columns_of_stream o stream in
        list_once (ForEach (number_in p.inputs stream)) _ (in_order_once (λ (i : InnerOutline). 1) (InnerReads o p columns) (inner_once columns) (n + 1) body)
    step_once n (outline.Emit stream query) = text_once n (Emit (stream_number o stream)) _ (query_once laws (step_scope o p p.args (Some (columns_of_stream o stream))) query)
    step_once n (outline.Return query) = text_once n Return _ (query_once laws (step_scope o p p.args None) query)

  pub procedure_once : (n : ℕ) (p : ProcedureOutline) → HasOneAnswer (ProcedureReads o n p)
  procedure_once n p = body_once p.name (procedure_with o p) _ (in_order_once step_count (StepReads o p) (step_once p) 0 p.body)

  -- ---- triggers

  trigger_statement_once : (t : TriggerOutline) (n : ℕ) (text : List ℕ) → HasOneAnswer (StatementReads o t n text)
  trigger_statement_once t n text = text_once n (λ (s : Statement). s) _ (statement_once laws (trigger_scope (sections_of o) (on_of o t.on)) text)

  pub trigger_once : (n : ℕ) (t : TriggerOutline) → HasOneAnswer (TriggerReads o n t)
  trigger_once n t = body_once t.name (trigger_with o t) _ (in_order_once (λ (text : List ℕ). 1) (StatementReads o t) (trigger_statement_once t) 0 t.statements)
