-- The plan for a WHERE, and what a plan finds among the rows that an execution sees.
use Rattle.std.specs.Prelude.{◌≡◌, ℕ, Bool, List, cond, map, position, Option, Some, None, slice_get}
use Rattle.std.specs.FinMap as finite
use Rattle.ss_value.specs.Rows.{Row, Rows}
use Rattle.ss_sql_trees.specs.declared.typed.Expr.{Expr}
use Rattle.ss_sql_trees.specs.declared.typed.Query.{Query}
use Rattle.ss_sql_trees.specs.declared.typed.SourceId.{SourceId}
use Rattle.ss_sql_trees.specs.declared.typed.SourceId.TheVariants.{Table as FromTable}
use Rattle.ss_model.specs.declared.catalog.TableDef.{TableDef}
use Rattle.ss_model.specs.declared.catalog.Catalog.{Catalog}
use Rattle.ss_model.specs.Contents.{key_columns}
use Rattle.ss_model.specs.Results.{OrAbort}
use Rattle.ss_model.specs.Queries.{query_rows}
use Rattle.ss_table.specs.TableValue.{TableValue, LiveRows}
use Rattle.ss_index.specs.Pairs.{IndexValue as Index}
use Rattle.ss_index.specs.Indexes.{HasPair}
use Rattle.ss_rows.specs.Sources.{Positioned, rows_in}
use Rattle.ss_rows.specs.declared.frame.Frame.{Frame}
use Rattle.ss_plan.specs.Found.{rows_found}
use Rattle.ss_plan.specs.Keys.{names_key, with_key, Finds}
use Rattle.ss_plan.specs.Ranges.{narrows}
use Rattle.ss_plan.specs.Seen.{row_is_seen, positioned_in, table_positions, value_behind}
use Rattle.ss_plan.specs.Statements.{split_of}
use Rattle.ss_plan.specs.declared.found.FoundRows.{FoundRows}
use Rattle.ss_plan.specs.declared.plan.Plan.{Plan}
use Rattle.ss_plan.specs.declared.plan.Plan.TheVariants.{Scan, Key, Range}
use Rattle.ss_plan.specs.declared.visible_rows.ShardRows.{ShardRows}

-- a range of this index, if there is one, and else a scan
abbrev pub range_or_scan : Option ℕ → Plan
range_or_scan None = Scan
range_or_scan (Some i) = Range i

-- by the key, if the front of WHERE names it; else by a range of the first index that narrows the search, and else by a scan
abbrev pub plan_for : TableDef → Option Expr → Plan
plan_for def test = cond (names_key def.key test) Key (range_or_scan (position (narrows def.schema test) def.indexes))

-- the rows of a source that an execution sees
abbrev pub seen_in : ShardRows → SourceId → Positioned
seen_in from source = positioned_in from.catalog.now (value_behind from.split) (from.inputs).batches.now (from.inputs).inserted.now from.shard.now source

-- those of them that have this key, in a table
abbrev pub seen_with : ShardRows → ℕ → Row → Positioned
seen_with from t key = with_key (key_columns (slice_get from.catalog.now.tables t)) key (seen_in from (FromTable t))

-- whether an execution sees a row of a table
abbrev pub is_seen_by : ShardRows → ℕ → Row → Bool
is_seen_by from t row = row_is_seen from.catalog.now (value_behind from.split) t row

-- the rows of a table that an execution with a frame sees
abbrev pub seen_through : Catalog → Frame → List TableValue → ℕ → Positioned
seen_through catalog frame tables t = table_positions catalog (split_of frame) tables t

-- the rows that were found are enough of those that are seen: none of the others passes WHERE, and WHERE aborts on none of them
abbrev pub RowsAreEnough : ShardRows → SourceId → Row → Option Expr → FoundRows → Type 0
RowsAreEnough from source params test found = Finds params test (seen_in from source) (rows_found found)

-- an index has the pair of each of these live rows
abbrev pub HasRows : LiveRows → Index → Type 0
HasRows live index = (key : Row) (slot : ℕ) (row : Row) → finite.get live key ≡ Some (slot, row) → HasPair row slot index

-- these are the slots of rows that are enough
abbrev pub SlotsAreEnough : Positioned → Row → Option Expr → List ℕ → Type 0
SlotsAreEnough seen params test slots = (found : Positioned) × Finds params test seen found × (slots ≡ map (λ p. p.0) found)

-- the rows of a query over what an execution sees
abbrev pub query_of_seen : ShardRows → Row → Query → OrAbort Rows
query_of_seen from params query = query_rows (λ s. rows_in (seen_in from s)) params query
