-- What holds of the shards of a catalogue.
use Rattle.std.specs.Prelude.{◌≡◌, ℕ, List, [], map, length, Option, None}
use Rattle.std.specs.List.{AllByRecursion}
use Rattle.ss_value.specs.declared.Unit.{Unit as UnitKind}
use Rattle.ss_model.specs.declared.catalog.TableDef.{TableDef}
use Rattle.ss_model.specs.declared.catalog.WindowDef.{WindowDef}
use Rattle.ss_model.specs.declared.catalog.Catalog.{Catalog}
use Rattle.ss_table.specs.TableValue.{TableValue}
use Rattle.ss_table.specs.Keyed.{AreKeyed}
use Rattle.ss_window.specs.WindowValue.{WindowValue, WindowInvariant}
use Rattle.ss_undo.specs.ResultsFrom.{ResultsFrom, AreCommitted}
use Rattle.ss_undo.specs.Windows.{WindowsResultFrom, AreCommittedWindows}
use Rattle.ss_shard.specs.Bodies.{HasBodies, IsComing}
use Rattle.ss_shard.specs.Contents.{row_limit}
use Rattle.ss_shard.specs.ShardValue.{ShardValue}
use Rattle.ss_shard.specs.Sources.{SameNumbers}

-- the key and the limit of a table
abbrev pub shape_of : TableValue → List ℕ × Option ℕ
shape_of h = (h.key, h.limit)

-- the same, as a table's definition has it
abbrev pub shape_for : TableDef → List ℕ × Option ℕ
shape_for d = (d.key, row_limit d.placement)

-- the keys and limits of all tables
abbrev pub shapes_of : List TableValue → List (List ℕ × Option ℕ)
shapes_of tables = map shape_of tables

-- each row of each table stands at its key
abbrev pub AllKeyed : List TableValue → Type 0
AllKeyed tables = AllByRecursion AreKeyed tables

-- the tables are those of the catalogue, by their keys and limits, and each row stands at its key
pub record HasTables (catalog : Catalog) (tables : List TableValue) : Type 0 where
  pub shapes : shapes_of tables ≡ map shape_for catalog.tables
  pub keyed : AllKeyed tables

-- each table has the indexes that the catalogue lists, by their columns
abbrev pub HasIndexes : Catalog → ShardValue → Type 0
HasIndexes catalog shard = shard.columns ≡ map (λ (d : TableDef). d.indexes) catalog.tables

-- what a window counts, its size and its slide
abbrev pub frame_of : WindowValue → UnitKind × (ℕ × ℕ)
frame_of h = (h.unit, (h.size, h.slide))

-- the same, as a window's definition has it
abbrev pub frame_for : WindowDef → UnitKind × (ℕ × ℕ)
frame_for d = (d.unit, (d.size, d.slide))

-- the same of all windows
abbrev pub frames_of : List WindowValue → List (UnitKind × (ℕ × ℕ))
frames_of windows = map frame_of windows

-- each window has what every window of the program has (`WindowInvariant`)
abbrev pub AllInvariant : List WindowValue → Type 0
AllInvariant windows = AllByRecursion WindowInvariant windows

-- the windows are those of the catalogue, by what they count, their sizes and slides
pub record HasWindows (catalog : Catalog) (windows : List WindowValue) : Type 0 where
  pub frames : frames_of windows ≡ map frame_for catalog.windows
  pub held : AllInvariant windows

-- the tables, indexes, windows, counts, next numbers and bodies are those of the catalogue
pub record IsOf (catalog : Catalog) (shard : ShardValue) : Type 0 where
  pub tables : HasTables catalog shard.tables
  pub indexes : HasIndexes catalog shard
  pub windows : HasWindows catalog shard.windows
  pub cursors : length shard.cursors ≡ length catalog.procedures
  pub sources : length shard.sources ≡ length catalog.streams
  pub bodies : HasBodies catalog shard.bodies
  pub coming : IsComing catalog shard.coming

-- a rollback of `shard` ends at `before`, in which no slot is dead, no unit is staged and no body is to come
pub record CanRollBack (before shard : ShardValue) : Type 0 where
  pub number : shard.number ≡ before.number
  pub columns : shard.columns ≡ before.columns
  pub cursors : shard.cursors ≡ before.cursors
  pub sources : SameNumbers before.sources shard.sources
  pub bodies : shard.bodies ≡ before.bodies
  pub none_coming : before.coming ≡ None
  pub final : AreCommitted before.tables
  pub came : ResultsFrom before.tables shard.changes shard.tables
  pub committed : AreCommittedWindows before.windows
  pub staged : WindowsResultFrom before.windows shard.changes shard.windows

-- what a change of rows and windows leaves as it is: the partition, the counts and next numbers, the bodies, the tables' keys,
-- limits and indexes, what the windows count, their sizes and slides, and where a rollback ends
pub record Changed (old new : ShardValue) : Type 0 where
  pub number : new.number ≡ old.number
  pub cursors : new.cursors ≡ old.cursors
  pub sources : new.sources ≡ old.sources
  pub bodies : (new.bodies ≡ old.bodies) × (new.coming ≡ old.coming)
  pub shapes : shapes_of new.tables ≡ shapes_of old.tables
  pub keyed : AllKeyed old.tables → AllKeyed new.tables
  pub columns : new.columns ≡ old.columns
  pub frames : frames_of new.windows ≡ frames_of old.windows
  pub held : AllInvariant old.windows → AllInvariant new.windows
  pub back : (before : ShardValue) → CanRollBack before old → CanRollBack before new

-- two shards with the same rows, units, counts, next numbers and bodies, and indexes on the same columns
pub record Same (old new : ShardValue) : Type 0 where
  pub number : new.number ≡ old.number
  pub tables : new.tables ≡ old.tables
  pub columns : new.columns ≡ old.columns
  pub windows : new.windows ≡ old.windows
  pub cursors : new.cursors ≡ old.cursors
  pub sources : SameNumbers old.sources new.sources
  pub bodies : (new.bodies ≡ old.bodies) × (new.coming ≡ old.coming)

-- a shard of a catalogue between executions: no slot is dead, no unit is staged, no body is to come, and there is nothing to take back
pub record IsCommitted (catalog : Catalog) (shard : ShardValue) : Type 0 where
  pub of_catalog : IsOf catalog shard
  pub final : AreCommitted shard.tables
  pub committed : AreCommittedWindows shard.windows
  pub empty : shard.changes ≡ []
  pub none_coming : shard.coming ≡ None
