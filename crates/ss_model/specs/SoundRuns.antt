-- What typing guarantees of queries and of runs: rows that fit give rows that fit.
use Rattle.std.specs.Prelude.{◌≡◌, ℕ, true, List, [], get_or, length, slice_get, Option, Some, None}
use Rattle.std.specs.List.{AllByRecursion}
use Rattle.ss_value.specs.declared.schema.Column.{Column}
use Rattle.ss_value.specs.Fit.{fits_schema}
use Rattle.ss_value.specs.Rows.{Row, Rows}
use Rattle.ss_sql_trees.specs.declared.typed.Joined.{Joined}
use Rattle.ss_sql_trees.specs.declared.typed.Query.{Query}
use Rattle.ss_sql_trees.specs.declared.typed.SourceId.{SourceId}
use Rattle.ss_sql_trees.specs.WellTyped.{Schemas, types_fit, query_types, query_typed}
use Rattle.ss_model.specs.declared.catalog.Catalog.{Catalog}
use Rattle.ss_model.specs.declared.catalog.Procedure.{Procedure}
use Rattle.ss_model.specs.Results.{WhenOk}
use Rattle.ss_model.specs.Queries.{join_source, query_rows}
use Rattle.ss_model.specs.Contents.{Contents}
use Rattle.ss_model.specs.Database.{BodyResult, run_procedure, stream_schema}
use Rattle.ss_model.specs.Typing.{input_schema}
use Rattle.ss_model.specs.Accepted.{Accepted}
use Rattle.ss_model.specs.WholeDatabase.{WholeContents, batch_fits}

-- each row fits these columns
abbrev pub FitAll : List Column → Rows → Type 0
FitAll columns = AllByRecursion (λ row. fits_schema columns row ≡ true)

-- the rows of a JOIN's source fit
abbrev pub JoinFits : Schemas → Option (Joined × Rows) → Type 0
JoinFits s None = Unit {0}
JoinFits s (Some (j, inner)) = FitAll (s.sources j.source) inner

-- law: a well typed query over rows and parameters that fit gives rows that fit, or aborts; they fit any columns that its types do
abbrev pub QueriesAreSound : Type 0
QueriesAreSound =
    (s : Schemas) (rows : SourceId → Rows) (params : Row) (q : Query) (into : List Column) →
    fits_schema s.params params ≡ true → FitAll (s.sources q.from) (rows q.from) →
    JoinFits s (join_source rows q.joined) → query_typed s q ≡ true → types_fit (query_types s q) into ≡ true → WhenOk (FitAll into) (query_rows rows params q)

-- a run leaves whole contents, and batches that fit
pub record WholeResult (catalog : Catalog) (r : BodyResult) : Type 0 where
  pub contents : WholeContents catalog r.contents
  pub emitted : (s : ℕ) → batch_fits (stream_schema catalog s) (get_or r.emitted s []) ≡ true

-- law: a run of an accepted catalogue's procedure on whole contents, with arguments and batches that fit, leaves whole contents
-- and batches that fit, done or aborted
abbrev pub RunsStayWhole : Type 0
RunsStayWhole =
    (catalog : Catalog) → Accepted catalog → (q : ℕ) (p : Procedure) (args : Row) (batches : List Rows) (s : Contents) →
    slice_get catalog.procedures q ≡ Some p →
    fits_schema p.args args ≡ true → length batches ≡ length p.inputs → ((i : ℕ) → FitAll (input_schema catalog p.inputs [] i) (get_or batches i [])) → WholeContents catalog s →
    WholeResult catalog (run_procedure catalog q p args batches s)
