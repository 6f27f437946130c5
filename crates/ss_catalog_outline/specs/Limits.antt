-- Counts over their limits.
use Rattle.std.specs.Prelude.{ℕ, ◌+◌, Bool, cond, ◌||◌, nat_lt, length, Option, Some, None}
use Rattle.std.specs.List.{list_any, sum_by}
use Rattle.ss_catalog_outline.specs.declared.types.TableOutline.{TableOutline}
use Rattle.ss_catalog_outline.specs.declared.types.StreamOutline.{StreamOutline}
use Rattle.ss_catalog_outline.specs.declared.types.WindowOutline.{WindowOutline}
use Rattle.ss_catalog_outline.specs.declared.types.TriggerOutline.{TriggerOutline}
use Rattle.ss_catalog_outline.specs.declared.types.StepOutline.{StepOutline}
use Rattle.ss_catalog_outline.specs.declared.types.StepOutline.TheVariants.{Insert, ReturnAll, Sql, AbortIf, ForEach, Emit, Return}
use Rattle.ss_catalog_outline.specs.declared.types.ProcedureOutline.{ProcedureOutline}
use Rattle.ss_catalog_outline.specs.declared.types.Outline.{Outline}
use Rattle.ss_catalog_outline.specs.declared.limits.Counted.{Counted}
use Rattle.ss_catalog_outline.specs.declared.limits.Counted.TheVariants.{Tables, Streams, Windows, Triggers, Procedures, Columns, Inputs, Statements, Steps}

-- how many steps are inside a step
abbrev pub inner_count : StepOutline → ℕ
inner_count (ForEach stream body) = length body
inner_count (Insert table values) = 0
inner_count (ReturnAll table) = 0
inner_count (Sql text) = 0
inner_count (AbortIf test code) = 0
inner_count (Emit stream query) = 0
inner_count (Return query) = 0

-- a step counts one, and those inside it one each
abbrev pub step_count : StepOutline → ℕ
step_count s = 1 + inner_count s

-- some list of columns or arguments is longer than this
abbrev pub has_columns_over : ℕ → Outline → Bool
has_columns_over most o =
    list_any (λ (d : TableOutline). nat_lt most (length d.columns)) o.tables
    || list_any (λ (d : StreamOutline). nat_lt most (length d.columns)) o.streams
    || list_any (λ (d : WindowOutline). nat_lt most (length d.columns)) o.windows
    || list_any (λ (p : ProcedureOutline). nat_lt most (length p.args)) o.procedures

abbrev pub has_inputs_over : ℕ → Outline → Bool
has_inputs_over most o = list_any (λ (p : ProcedureOutline). nat_lt most (length p.inputs)) o.procedures

abbrev pub has_statements_over : ℕ → Outline → Bool
has_statements_over most o = list_any (λ (t : TriggerOutline). nat_lt most (length t.statements)) o.triggers

abbrev pub has_steps_over : ℕ → Outline → Bool
has_steps_over most o = list_any (λ (p : ProcedureOutline). nat_lt most (sum_by step_count p.body)) o.procedures

-- what the first count over its limit counts
abbrev pub over_limit : Outline → Option Counted
over_limit o =
    cond (nat_lt 64 (length o.tables)) (Some Tables)
    (cond (nat_lt 32 (length o.streams)) (Some Streams)
    (cond (nat_lt 32 (length o.windows)) (Some Windows)
    (cond (nat_lt 64 (length o.triggers)) (Some Triggers)
    (cond (nat_lt 64 (length o.procedures)) (Some Procedures)
    (cond (has_columns_over 16 o) (Some Columns)
    (cond (has_inputs_over 8 o) (Some Inputs)
    (cond (has_statements_over 8 o) (Some Statements)
    (cond (has_steps_over 32 o) (Some Steps)
    None))))))))

-- more than the numbers of a typed tree can name: 65,536 of a kind, or 256 columns
abbrev pub is_too_many_to_number : Outline → Bool
is_too_many_to_number o =
    nat_lt 65536 (length o.tables) || nat_lt 65536 (length o.streams) || nat_lt 65536 (length o.windows)
    || nat_lt 65536 (length o.triggers) || nat_lt 65536 (length o.procedures) || has_columns_over 256 o
