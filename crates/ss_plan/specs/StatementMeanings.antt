-- What statements and their parts come to on a shard, whatever number their procedure has. `..Done` and `..Gives` say what comes with
-- Ok, and `..Stop` and `..Stops` that an abort is the model's.
use Rattle.std.specs.Prelude.{◌≡◌, ℕ, List, map, Option, Ok}
use Rattle.ss_value.specs.declared.value.Value.{Value}
use Rattle.ss_value.specs.Rows.{Row, Rows}
use Rattle.ss_sql_trees.specs.declared.typed.Expr.{Expr}
use Rattle.ss_sql_trees.specs.declared.typed.Query.{Query}
use Rattle.ss_sql_trees.specs.declared.typed.SetTo.{SetTo}
use Rattle.ss_sql_trees.specs.declared.typed.Statement.{Statement}
use Rattle.ss_sql_trees.specs.declared.typed.Target.{Target}
use Rattle.ss_model.specs.declared.catalog.Catalog.{Catalog}
use Rattle.ss_model.specs.Results.{OrAbort, try_fold, try_map}
use Rattle.ss_model.specs.Contents.{visible_table, put_entries, remove_entries}
use Rattle.ss_model.specs.Statements.{context_query, insert_row, insert_into, matching_entries, update_rows, updated_row, delete_rows, statement_effect}
use Rattle.ss_model.specs.declared.run_error.RunError.{RunError}
use Rattle.ss_model.specs.Stops.{StopsAs}
use Rattle.ss_table.specs.TableValue.{TableValue}
use Rattle.ss_rows.specs.declared.frame.Frame.{Frame}
use Rattle.ss_rows.specs.Frames.{params_of}
use Rattle.ss_shard.specs.ShardValue.{ShardValue}
use Rattle.ss_shard.specs.Contents.{contents_of, without_slot}
use Rattle.ss_shard.specs.Rows.{StandsIn, RowPut}
use Rattle.ss_shard.specs.Shards.{HasTables}
use Rattle.ss_plan.specs.Chosen.{Chosen, AreSlots}
use Rattle.ss_plan.specs.Setting.{updated_entry}
use Rattle.ss_plan.specs.Statements.{context_for, inserted_rows, effect_of, values_effect, query_effect, Matches}
use Rattle.ss_plan.specs.Seen.{value_behind}
use Rattle.ss_plan.specs.declared.inputs.Inputs.{Inputs}
use Rattle.ss_plan.specs.declared.visible_rows.ShardRows.{ShardRows}
use Rattle.ss_plan.specs.declared.statement.Wrote.{Wrote}

-- ---- queries

-- the rows of a query are the model's
abbrev pub QueryGives : Catalog → Frame → Inputs → Query → ShardValue → Rows → Type 0
QueryGives catalog frame inputs query shard rows = (procedure : ℕ) → context_query (context_for catalog procedure frame inputs) (inserted_rows inputs) (params_of frame) query (contents_of shard) ≡ Ok rows

-- a query stops as the model's does
abbrev pub QueryStops : Catalog → Frame → Inputs → Query → ShardValue → RunError → Type 0
QueryStops catalog frame inputs query shard stop = (procedure : ℕ) → StopsAs (context_query (context_for catalog procedure frame inputs) (inserted_rows inputs) (params_of frame) query (contents_of shard)) stop

-- ---- rows of one table

-- the entries that a statement sees and that pass WHERE
abbrev pub entries_matching : Catalog → Option Value → ShardValue → ℕ → Row → Option Expr → OrAbort (List (Row × Row))
entries_matching catalog split shard t params test = matching_entries params test (visible_table catalog split (contents_of shard) t)

-- the same, of an execution that sees these rows
abbrev pub seen_matching : ShardRows → ℕ → Row → Option Expr → OrAbort (List (Row × Row))
seen_matching from t params test = entries_matching from.catalog.now (value_behind from.split) from.shard.now t params test

-- these are the slots of those entries
abbrev pub MatchesSeen : ShardRows → ℕ → Row → Option Expr → List ℕ → Type 0
MatchesSeen from t params test slots = Matches from.catalog.now (value_behind from.split) from.shard.now t params test slots

-- rows were inserted, as the model does it under any catalogue of these tables
abbrev pub RowsInserted : ShardValue → ShardValue → ℕ → Rows → Type 0
RowsInserted old new t rows = (catalog : Catalog) → HasTables catalog old.tables → try_fold (insert_row catalog t) rows (contents_of old) ≡ Ok (contents_of new)

-- an insert of rows stops as the model's does
abbrev pub InsertsStop : ShardValue → ℕ → Rows → RunError → Type 0
InsertsStop old t rows stop = (catalog : Catalog) → HasTables catalog old.tables → StopsAs (try_fold (insert_row catalog t) rows (contents_of old)) stop

-- the rows in these slots were taken out
abbrev pub SlotsTaken : ShardValue → ShardValue → ℕ → List ℕ → Type 0
SlotsTaken old new t slots = (es : List Chosen) → AreSlots old.tables t es slots → contents_of new ≡ remove_entries (contents_of old) t (map without_slot es)

-- the row in a slot was replaced by what the SETs make of it
abbrev pub SlotUpdated : List TableValue → List TableValue → ℕ → Row → List SetTo → ℕ → Type 0
SlotUpdated old now t params sets slot = (key row : Row) → StandsIn old t key slot row → (new : Row) × (updated_row params sets row ≡ Ok new) × RowPut old now t key slot new

-- the rows in all these slots were replaced so, as the model replaces the entries
abbrev pub SlotsUpdated : ShardValue → ShardValue → ℕ → Row → List SetTo → List ℕ → Type 0
SlotsUpdated old now t params sets slots =
    (es : List Chosen) → AreSlots old.tables t es slots → (new : List (Row × Row)) × (try_map (updated_entry params sets) (map without_slot es) ≡ Ok new) × (contents_of now ≡ put_entries (contents_of old) t new)

-- the SETs on the rows in these slots stop as the model's do
abbrev pub UpdatesStop : List TableValue → ℕ → Row → List SetTo → List ℕ → RunError → Type 0
UpdatesStop old t params sets slots stop = (es : List Chosen) → AreSlots old t es slots → StopsAs (try_map (updated_entry params sets) (map without_slot es)) stop

-- ---- statements

-- rows were put into a target as the model puts them
abbrev pub PutInto : ShardValue → ShardValue → Target → Rows → Wrote → Type 0
PutInto old new target rows wrote =
    (catalog : Catalog) (procedure : ℕ) (frame : Frame) (inputs : Inputs) → HasTables catalog old.tables → insert_into (context_for catalog procedure frame inputs) target rows (contents_of old) ≡ Ok (effect_of wrote (contents_of new))

-- an insert into a target stops as the model's does
abbrev pub PutStops : ShardValue → Target → Rows → RunError → Type 0
PutStops old target rows stop = (catalog : Catalog) (procedure : ℕ) (frame : Frame) (inputs : Inputs) → HasTables catalog old.tables → StopsAs (insert_into (context_for catalog procedure frame inputs) target rows (contents_of old)) stop

-- an UPDATE was done as the model does it
abbrev pub UpdateDone : Catalog → Frame → Inputs → ℕ → List SetTo → Option Expr → ShardValue → ShardValue → Type 0
UpdateDone catalog frame inputs t sets test old new = (procedure : ℕ) → update_rows (context_for catalog procedure frame inputs) (params_of frame) t sets test (contents_of old) ≡ Ok (contents_of new)

-- an UPDATE stops as the model's does
abbrev pub UpdateStops : Catalog → Frame → Inputs → ℕ → List SetTo → Option Expr → ShardValue → RunError → Type 0
UpdateStops catalog frame inputs t sets test old stop = (procedure : ℕ) → StopsAs (update_rows (context_for catalog procedure frame inputs) (params_of frame) t sets test (contents_of old)) stop

-- a DELETE was done as the model does it
abbrev pub DeleteDone : Catalog → Frame → Inputs → ℕ → Option Expr → ShardValue → ShardValue → Type 0
DeleteDone catalog frame inputs t test old new = (procedure : ℕ) → delete_rows (context_for catalog procedure frame inputs) (params_of frame) t test (contents_of old) ≡ Ok (contents_of new)

-- a DELETE stops as the model's does
abbrev pub DeleteStops : Catalog → Frame → Inputs → ℕ → Option Expr → ShardValue → RunError → Type 0
DeleteStops catalog frame inputs t test old stop = (procedure : ℕ) → StopsAs (delete_rows (context_for catalog procedure frame inputs) (params_of frame) t test (contents_of old)) stop

-- an INSERT with VALUES was done as the model does it under any catalogue of these tables
abbrev pub ValuesDone : Frame → Target → List Expr → ShardValue → ShardValue → Wrote → Type 0
ValuesDone frame target values old new wrote =
    (catalog : Catalog) (procedure : ℕ) (inputs : Inputs) → HasTables catalog old.tables → values_effect (context_for catalog procedure frame inputs) (inserted_rows inputs) (params_of frame) target values (contents_of old) ≡ Ok (effect_of wrote (contents_of new))

-- an INSERT with VALUES stops as the model's does
abbrev pub ValuesStop : Frame → Target → List Expr → ShardValue → RunError → Type 0
ValuesStop frame target values old stop = (catalog : Catalog) (procedure : ℕ) (inputs : Inputs) → HasTables catalog old.tables → StopsAs (values_effect (context_for catalog procedure frame inputs) (inserted_rows inputs) (params_of frame) target values (contents_of old)) stop

-- an INSERT with a query was done as the model does it
abbrev pub InsertQueryDone : Catalog → Frame → Inputs → Target → Query → ShardValue → ShardValue → Wrote → Type 0
InsertQueryDone catalog frame inputs target query old new wrote = (procedure : ℕ) → query_effect (context_for catalog procedure frame inputs) (inserted_rows inputs) (params_of frame) target query (contents_of old) ≡ Ok (effect_of wrote (contents_of new))

-- an INSERT with a query stops as the model's does
abbrev pub InsertQueryStops : Catalog → Frame → Inputs → Target → Query → ShardValue → RunError → Type 0
InsertQueryStops catalog frame inputs target query old stop = (procedure : ℕ) → StopsAs (query_effect (context_for catalog procedure frame inputs) (inserted_rows inputs) (params_of frame) target query (contents_of old)) stop

-- a statement was done as the model does it
abbrev pub StatementDone : Catalog → Frame → Inputs → Statement → ShardValue → ShardValue → Wrote → Type 0
StatementDone catalog frame inputs statement old new wrote = (procedure : ℕ) → statement_effect (context_for catalog procedure frame inputs) (inserted_rows inputs) (params_of frame) statement (contents_of old) ≡ Ok (effect_of wrote (contents_of new))

-- a statement stops as the model's does
abbrev pub StatementStops : Catalog → Frame → Inputs → Statement → ShardValue → RunError → Type 0
StatementStops catalog frame inputs statement old stop = (procedure : ℕ) → StopsAs (statement_effect (context_for catalog procedure frame inputs) (inserted_rows inputs) (params_of frame) statement (contents_of old)) stop
