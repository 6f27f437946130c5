-- What the steps of a body say.
use Rattle.std.specs.Prelude.{◌≡◌, ◌+◌, ◌==◌, ℕ, Bool, true, false, cond, List, [], map, length, slice_get, zip, unwrap_or, option_map, Option, Some, None, Result, Ok, Err}
use Rattle.std.specs.List.{list_all, range_with_len}
use Rattle.ss_value.specs.declared.schema.ColType.{ColType}
use Rattle.ss_value.specs.declared.schema.ColType.TheVariants.{Int, Text}
use Rattle.ss_value.specs.declared.schema.Column.{Column}
use Rattle.ss_value.specs.Fit.{fits_kind}
use Rattle.ss_sql_trees.specs.declared.typed.Expr.{Expr}
use Rattle.ss_sql_trees.specs.declared.typed.Expr.TheVariants.{Lit, Param, Col}
use Rattle.ss_sql_trees.specs.declared.typed.SelectItem.{SelectItem}
use Rattle.ss_sql_trees.specs.declared.typed.SelectItem.TheVariants.{Plain}
use Rattle.ss_sql_trees.specs.declared.typed.Query.{Query}
use Rattle.ss_sql_trees.specs.declared.typed.SourceId.TheVariants.{Table as FromTable}
use Rattle.ss_sql_trees.specs.declared.typed.Target.TheVariants.{Table as IntoTable}
use Rattle.ss_sql_trees.specs.declared.typed.Statement.TheVariants.{InsertValues}
use Rattle.ss_sql_type.specs.declared.scope.Scope.{Scope}
use Rattle.ss_model.specs.declared.catalog.Inner.{Inner}
use Rattle.ss_model.specs.declared.catalog.Inner.TheVariants.{Sql as InnerSql, AbortIf as InnerAbortIf}
use Rattle.ss_model.specs.declared.catalog.Step.{Step}
use Rattle.ss_model.specs.declared.catalog.Step.TheVariants.{Sql, AbortIf, ForEach, Emit, Return}
use Rattle.ss_catalog_outline.specs.declared.types.GivenOutline.{GivenOutline}
use Rattle.ss_catalog_outline.specs.declared.types.GivenOutline.TheVariants.{Value as GivenValue, Arg as GivenArg}
use Rattle.ss_catalog_outline.specs.declared.types.InnerOutline.{InnerOutline}
use Rattle.ss_catalog_outline.specs.declared.types.InnerOutline.TheVariants.{Sql as SqlInside, AbortIf as AbortIfInside}
use Rattle.ss_catalog_outline.specs.declared.types.StepOutline.{StepOutline}
use Rattle.ss_catalog_outline.specs.declared.types.StepOutline.TheVariants as outline
use Rattle.ss_catalog_outline.specs.declared.types.ProcedureOutline.{ProcedureOutline}
use Rattle.ss_catalog_outline.specs.declared.types.Outline.{Outline}
use Rattle.ss_catalog_resolve.specs.Numbers.{number_in, column_number}
use Rattle.ss_catalog_resolve.specs.Numbered.{sections_of, table_names, stream_names, inputs_of}
use Rattle.ss_catalog_resolve.specs.declared.fault.SqlFault.{SqlFault}
use Rattle.ss_catalog_resolve.specs.declared.fault.BodyFault.{BodyFault}
use Rattle.ss_catalog_resolve.specs.declared.fault.SqlRefusal.{SqlRefusal}
use Rattle.ss_catalog_resolve.specs.declared.fault.SqlRefusal.TheVariants as refused
use Rattle.ss_catalog_resolve.specs.Texts.{fault_at, StatementSays, ConditionSays, QuerySays}
use Rattle.ss_catalog_resolve.specs.Scopes.{stream_columns, procedure_scope}
use Rattle.ss_catalog_resolve.specs.InOrder.{InOrder}

-- ---- values of an `insert` step

-- whether two types are the same
abbrev pub is_same_kind : ColType → ColType → Bool
is_same_kind Int Int = true
is_same_kind Int Text = false
is_same_kind Text Int = false
is_same_kind Text Text = true

-- a column is there, and of this type
abbrev pub is_of_kind : ColType → Option Column → Bool
is_of_kind kind None = false
is_of_kind kind (Some c) = is_same_kind kind c.kind

module _ (args : List Column) where
  -- the expression of a value, or of an argument by its number
  abbrev pub given_expr : GivenOutline → Expr
  given_expr (GivenValue v) = Lit v
  given_expr (GivenArg name) = Param (column_number args name)

  -- a value or an argument is of this type
  abbrev pub is_given_kind : ColType → GivenOutline → Bool
  is_given_kind kind (GivenValue v) = fits_kind kind v
  is_given_kind kind (GivenArg name) = is_of_kind kind (slice_get args (column_number args name))

  -- the fault in values for these columns: S8 where their numbers differ, and else S6 where a type does, both at offset 0
  abbrev pub given_fault : List Column → List GivenOutline → Option SqlFault
  given_fault columns values =
      cond (length values == length columns)
      (cond (list_all (λ x. is_given_kind x.0.kind x.1) (zip columns values)) None (Some (fault_at 6 0)))
      (Some (fault_at 8 0))

-- ---- `return_all`

-- the item of this column of the only source
abbrev pub column_item : ℕ → SelectItem
column_item c = Plain (Col 0 c)

-- the query of all columns of a table in their order, without further clauses
abbrev pub whole_table : ℕ → List Column → Query
whole_table t columns = record {
  items = map column_item (range_with_len 0 (length columns));
  from = FromTable t;
  joined = None;
  test = None;
  groups = [];
  order = [];
  limit = None;
}

-- ---- steps by number

-- a fault of the step of this number
abbrev pub body_fault : ℕ → SqlFault → BodyFault
body_fault n fault = record { number = n; fault = fault }

-- the refusal of a text, as one of the step of this number
abbrev pub refusal_at : ℕ → SqlRefusal SqlFault → SqlRefusal BodyFault
refusal_at n refused.NoMemory = refused.NoMemory
refusal_at n (refused.Fault fault) = refused.Fault (body_fault n fault)

-- a step at this number, made of what a text says
module _ {A B : Type 0} (n : ℕ) (step : A → B) (Says : Result A SqlFault → Type 0) where
  abbrev pub OfText : Result B BodyFault → Type 0
  OfText (Ok b) = (a : A) × (b ≡ step a) × Says (Ok a)
  OfText (Err e) = (fault : SqlFault) × (e ≡ body_fault n fault) × Says (Err fault)

-- this result where there is no fault, and else the fault
abbrev pub unless_fault : {B : Type 0} → ℕ → Option SqlFault → B → Result B BodyFault
unless_fault n None b = Ok b
unless_fault n (Some fault) b = Err (body_fault n fault)

-- a step made of a list that is read in order
module _ {A B E : Type 0} (step : List A → B) (Reads : Result (List A) E → Type 0) where
  abbrev pub OfList : Result B E → Type 0
  OfList (Ok b) = (xs : List A) × (b ≡ step xs) × Reads (Ok xs)
  OfList (Err e) = Reads (Err e)

-- ---- tables and streams of an outline

module _ (o : Outline) where
  -- the number of a table, and the columns of the table that has it
  abbrev pub table_number : List ℕ → ℕ
  table_number = number_in (table_names o)

  abbrev pub table_columns : List ℕ → List Column
  table_columns name = unwrap_or (option_map (λ d. d.columns) (slice_get o.tables (table_number name))) []

  -- the number of a stream, and the columns of the stream that has it
  abbrev pub stream_number : List ℕ → ℕ
  stream_number = number_in (stream_names o)

  abbrev pub columns_of_stream : List ℕ → List Column
  columns_of_stream name = stream_columns (sections_of o) (stream_number name)

-- ---- steps of a procedure of an outline

module _ (o : Outline) (p : ProcedureOutline) where
  -- the scope of its SQL with these parameters, and with the columns that a query's rows go to
  abbrev pub step_scope : List Column → Option (List Column) → Scope
  step_scope = procedure_scope (sections_of o) (inputs_of o p)

  -- the INSERT of values into a table
  abbrev pub insert_of : List ℕ → List GivenOutline → Step
  insert_of table values = Sql (InsertValues (IntoTable (table_number o table)) (map (given_expr p.args) values))

  -- an `insert` step, or the fault in its values
  abbrev pub InsertReads : ℕ → List ℕ → List GivenOutline → Result Step BodyFault → Type 0
  InsertReads n table values r = r ≡ unless_fault n (given_fault p.args (table_columns o table) values) (insert_of table values)

  -- a step inside a `for_each`, whose parameters are the columns of the stream
  abbrev pub InnerReads : List Column → ℕ → InnerOutline → Result Inner BodyFault → Type 0
  InnerReads params n (SqlInside text) = OfText n InnerSql (StatementSays (step_scope params None) text)
  InnerReads params n (AbortIfInside test code) = OfText n (λ c. InnerAbortIf c code) (ConditionSays (step_scope params None) test)

  -- a step; a `for_each` comes before its inner steps
  abbrev pub StepReads : ℕ → StepOutline → Result Step BodyFault → Type 0
  StepReads n (outline.Insert table values) = InsertReads n table values
  StepReads n (outline.ReturnAll table) = λ r. r ≡ Ok (Return (whole_table (table_number o table) (table_columns o table)))
  StepReads n (outline.Sql text) = OfText n Sql (StatementSays (step_scope p.args None) text)
  StepReads n (outline.AbortIf test code) = OfText n (λ c. AbortIf c code) (ConditionSays (step_scope p.args None) test)
  StepReads n (outline.ForEach stream body) =
      OfList (ForEach (number_in p.inputs stream)) (InOrder (λ i. 1) (InnerReads (columns_of_stream o stream)) (n + 1) body)
  StepReads n (outline.Emit stream query) =
      OfText n (Emit (stream_number o stream)) (QuerySays (step_scope p.args (Some (columns_of_stream o stream))) query)
  StepReads n (outline.Return query) = OfText n Return (QuerySays (step_scope p.args None) query)
