-- What a change of a shard comes to.
use Rattle.std.specs.Prelude.{◌≡◌, ℕ, Bool, List, Ok}
use Rattle.ss_value.specs.Rows.{Row, Rows}
use Rattle.ss_model.specs.declared.catalog.Catalog.{Catalog}
use Rattle.ss_model.specs.Statements.{insert_row}
use Rattle.ss_model.specs.declared.run_error.RunError.{RunError}
use Rattle.ss_model.specs.Stops.{StopsAs}
use Rattle.ss_table.specs.TableValue.{TableValue}
use Rattle.ss_shard.specs.Contents.{contents_of}
use Rattle.ss_shard.specs.Rows.{StandsIn, RowPut, RowTaken}
use Rattle.ss_shard.specs.Shards.{HasTables, HasWindows}
use Rattle.ss_shard.specs.Windows.{unit_added}
use Rattle.ss_shard.specs.ShardValue.{ShardValue}

-- a row was inserted, as the model does it under any catalogue of these tables
abbrev pub RowInserted : ShardValue → ShardValue → ℕ → Row → Type 0
RowInserted old new t row = (catalog : Catalog) → HasTables catalog old.tables → insert_row catalog t row (contents_of old) ≡ Ok (contents_of new)

-- the insert of a row stops as the model's does, under any catalogue of these tables
abbrev pub InsertStops : ShardValue → ℕ → Row → RunError → Type 0
InsertStops old t row stop = (catalog : Catalog) → HasTables catalog old.tables → StopsAs (insert_row catalog t row (contents_of old)) stop

-- the row in a slot was taken out
abbrev pub SlotTaken : List TableValue → List TableValue → ℕ → ℕ → Type 0
SlotTaken old new t slot = (key : Row) (row : Row) → StandsIn old t key slot row → RowTaken old new t key

-- a row was put into a slot, in place of the one that was there
abbrev pub SlotPut : List TableValue → List TableValue → ℕ → ℕ → Row → Type 0
SlotPut old new t slot row = (key : Row) (before : Row) → StandsIn old t key slot before → RowPut old new t key slot row

-- a unit was staged, as the model adds one under any catalogue of these windows; `moved` says whether the end of what is shown has moved
abbrev pub UnitStaged : ShardValue → ShardValue → ℕ → Rows → Bool → Type 0
UnitStaged old new n unit moved = (catalog : Catalog) → HasWindows catalog old.windows → unit_added catalog n unit (contents_of old) ≡ Ok (moved, contents_of new)

-- the staging of a unit stops as the model's does, under any catalogue of these windows
abbrev pub StagingStops : ShardValue → ℕ → Rows → RunError → Type 0
StagingStops old n unit stop = (catalog : Catalog) → HasWindows catalog old.windows → StopsAs (unit_added catalog n unit (contents_of old)) stop
