-- What holds of an outline whose counts are within their limits.
use Rattle.std.proofs.Common.{◌≡◌, ℕ, List, [], ◌∷◌, length, true, false, None}
use Rattle.std.specs.Prelude.{nat_le, nat_lt}
use Rattle.std.specs.List.{AllByRecursion, list_any, sum_by}
use Rattle.std.proofs.lemmas.Bool.{or_parts, ltb-false, le-leb}
use Rattle.ss_lemmas.proofs.Results.{neither_some}
use Rattle.ss_catalog_outline.specs.declared.types.TableOutline.{TableOutline}
use Rattle.ss_catalog_outline.specs.declared.types.StreamOutline.{StreamOutline}
use Rattle.ss_catalog_outline.specs.declared.types.WindowOutline.{WindowOutline}
use Rattle.ss_catalog_outline.specs.declared.types.TriggerOutline.{TriggerOutline}
use Rattle.ss_catalog_outline.specs.declared.types.ProcedureOutline.{ProcedureOutline}
use Rattle.ss_catalog_outline.specs.declared.types.Outline.{Outline}
use Rattle.ss_catalog_outline.specs.declared.limits.Counted.TheVariants.{Tables, Streams, Windows, Triggers, Procedures, Columns, Inputs, Statements, Steps}
use Rattle.ss_catalog_outline.specs.Limits.{step_count, has_columns_over, has_inputs_over, has_statements_over, has_steps_over, over_limit}
use Rattle.ss_lemmas.proofs.EachOf.{all_with, none_passes}

-- a number that is not over its limit
abbrev pub IsUpTo : ℕ → ℕ → Type 0
IsUpTo most n = nat_le n most ≡ true

up_to : (most n : ℕ) → nat_lt most n ≡ false → IsUpTo most n
up_to most n h = le-leb n most (ltb-false most n h)

-- so is what is counted of each
each_up_to : {A : Type 0} (count : A → ℕ) (most : ℕ) (xs : List A) → list_any (λ x. nat_lt most (count x)) xs ≡ false → AllByRecursion (λ x. IsUpTo most (count x)) xs
each_up_to count most xs h = all_with (λ x. nat_lt most (count x) ≡ false) (λ x. IsUpTo most (count x)) (λ x. up_to most (count x)) xs (none_passes (λ x. nat_lt most (count x)) xs h)

pub record ProcedureWithin (p : ProcedureOutline) : Type 0 where
  pub args : IsUpTo 16 (length p.args)
  pub inputs : IsUpTo 8 (length p.inputs)
  pub steps : IsUpTo 32 (sum_by step_count p.body)

procedures_within : (ps : List ProcedureOutline) → list_any (λ (p : ProcedureOutline). nat_lt 16 (length p.args)) ps ≡ false → list_any (λ (p : ProcedureOutline). nat_lt 8 (length p.inputs)) ps ≡ false →
    list_any (λ (p : ProcedureOutline). nat_lt 32 (sum_by step_count p.body)) ps ≡ false → AllByRecursion ProcedureWithin ps
procedures_within [] a i s = tt
procedures_within (p ∷ ps) a i s =
    let args = or_parts (nat_lt 16 (length p.args)) _ a in
    let inputs = or_parts (nat_lt 8 (length p.inputs)) _ i in
    let steps = or_parts (nat_lt 32 (sum_by step_count p.body)) _ s in
    (record { args = up_to 16 _ args.0; inputs = up_to 8 _ inputs.0; steps = up_to 32 _ steps.0 }, procedures_within ps args.1 inputs.1 steps.1)

pub record OutlineWithin (o : Outline) : Type 0 where
  pub tables : IsUpTo 64 (length o.tables)
  pub streams : IsUpTo 32 (length o.streams)
  pub windows : IsUpTo 32 (length o.windows)
  pub triggers : IsUpTo 64 (length o.triggers)
  pub procedures : IsUpTo 64 (length o.procedures)
  pub table_columns : AllByRecursion (λ (t : TableOutline). IsUpTo 16 (length t.columns)) o.tables
  pub stream_columns : AllByRecursion (λ (s : StreamOutline). IsUpTo 16 (length s.columns)) o.streams
  pub window_columns : AllByRecursion (λ (w : WindowOutline). IsUpTo 16 (length w.columns)) o.windows
  pub statements : AllByRecursion (λ (t : TriggerOutline). IsUpTo 8 (length t.statements)) o.triggers
  pub in_procedures : AllByRecursion ProcedureWithin o.procedures

pub outline_within : (o : Outline) → over_limit o ≡ None → OutlineWithin o
outline_within o e =
    let tables = neither_some (nat_lt 64 (length o.tables)) Tables _ e in
    let streams = neither_some (nat_lt 32 (length o.streams)) Streams _ tables.1 in
    let windows = neither_some (nat_lt 32 (length o.windows)) Windows _ streams.1 in
    let triggers = neither_some (nat_lt 64 (length o.triggers)) Triggers _ windows.1 in
    let procedures = neither_some (nat_lt 64 (length o.procedures)) Procedures _ triggers.1 in
    let columns = neither_some (has_columns_over 16 o) Columns _ procedures.1 in
    let inputs = neither_some (has_inputs_over 8 o) Inputs _ columns.1 in
    let statements = neither_some (has_statements_over 8 o) Statements _ inputs.1 in
    let steps = neither_some (has_steps_over 32 o) Steps _ statements.1 in
    let in_args = or_parts _ (list_any (λ (p : ProcedureOutline). nat_lt 16 (length p.args)) o.procedures) columns.0 in
    let in_windows = or_parts _ (list_any (λ (w : WindowOutline). nat_lt 16 (length w.columns)) o.windows) in_args.0 in
    let in_streams = or_parts (list_any (λ (t : TableOutline). nat_lt 16 (length t.columns)) o.tables) (list_any (λ (s : StreamOutline). nat_lt 16 (length s.columns)) o.streams) in_windows.0 in
    record {
      tables = up_to 64 _ tables.0;
      streams = up_to 32 _ streams.0;
      windows = up_to 32 _ windows.0;
      triggers = up_to 64 _ triggers.0;
      procedures = up_to 64 _ procedures.0;
      table_columns = each_up_to (λ (t : TableOutline). length t.columns) 16 o.tables in_streams.0;
      stream_columns = each_up_to (λ (s : StreamOutline). length s.columns) 16 o.streams in_streams.1;
      window_columns = each_up_to (λ (w : WindowOutline). length w.columns) 16 o.windows in_windows.1;
      statements = each_up_to (λ (t : TriggerOutline). length t.statements) 8 o.triggers statements.0;
      in_procedures = procedures_within o.procedures in_args.1 inputs.0 steps.0;
    }
