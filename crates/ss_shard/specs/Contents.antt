-- What the tables and windows of a shard are to the model.
use Rattle.std.specs.Prelude.{ℕ, List, map, Option, Some, None}
use Rattle.std.specs.FinMap as finite
use Rattle.ss_value.specs.Rows.{Row}
use Rattle.ss_model.specs.declared.catalog.Placement.{Placement}
use Rattle.ss_model.specs.declared.catalog.Placement.TheVariants.{Part, By}
use Rattle.ss_model.specs.Contents.{Table, Window, Contents}
use Rattle.ss_table.specs.TableValue.{TableValue, LiveRows}
use Rattle.ss_window.specs.WindowValue.{WindowValue, all_units}
use Rattle.ss_shard.specs.ShardValue.{ShardValue}

-- a live row with its key, without its slot
abbrev pub without_slot : Row × (ℕ × Row) → Row × Row
without_slot e = (e.0, e.1.1)

-- the rows of a table by key
unfoldable pub rows_by_key : LiveRows → Table
rows_by_key live = finite.from_sorted (map without_slot (finite.entries live))

-- the rows of each table
abbrev pub tables_of : List TableValue → List Table
tables_of tables = map (λ h. rows_by_key h.live) tables

-- the units of each window: those that it holds, behind as many blank ones as it has dropped
abbrev pub windows_of : List WindowValue → List Window
windows_of windows = map all_units windows

-- these tables and windows
abbrev pub contents_with : List TableValue → List WindowValue → Contents
contents_with tables windows = record { tables = tables_of tables; windows = windows_of windows }

-- the tables and windows of a shard. It stands for every contents with the same tables, and with windows of as many
-- units of which the same ones can still be seen (`Holds`); this is one of them
abbrev pub contents_of : ShardValue → Contents
contents_of shard = contents_with shard.tables shard.windows

-- the most rows that a table of this placement may have: a split one has no limit
abbrev pub row_limit : Placement → Option ℕ
row_limit (Part p) = Some 1000000
row_limit (By c) = None
