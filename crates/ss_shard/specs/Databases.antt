-- A database that one shard holds.
use Rattle.std.specs.Prelude.{◌≡◌, ◌≤◌, ℕ, ◌%◌, List, [], ◌∷◌, map, length, replicate, None}
use Rattle.std.specs.FinMap as finite
use Rattle.ss_model.specs.declared.catalog.Placement.{Placement}
use Rattle.ss_model.specs.declared.catalog.Placement.TheVariants.{Part, By}
use Rattle.ss_model.specs.declared.catalog.TableDef.{TableDef}
use Rattle.ss_model.specs.declared.catalog.WindowDef.{WindowDef}
use Rattle.ss_model.specs.declared.catalog.Catalog.{Catalog}
use Rattle.ss_model.specs.Contents.{key_position}
use Rattle.ss_model.specs.Database.{Database as Model, empty_database}
use Rattle.ss_model.specs.WholeDatabase.{WholeDatabase}
use Rattle.ss_table.specs.declared.route.Route.{Route}
use Rattle.ss_table.specs.declared.route.Route.TheVariants.{Placed, Split}
use Rattle.ss_table.specs.TableValue.{TableValue}
use Rattle.ss_table.specs.Joins.{shell_of}
use Rattle.ss_index.specs.Pairs.{IndexValue as Index}
use Rattle.ss_undo.specs.Indexed.{Group}
use Rattle.ss_window.specs.WindowValue.{WindowValue, empty_window}
use Rattle.ss_stream.specs.OfDatabase.{AreStreamsOf}
use Rattle.ss_shard.specs.ShardValue.{ShardValue}
use Rattle.ss_shard.specs.Shards.{HasIndexes, IsCommitted}
use Rattle.ss_shard.specs.Windows.{HoldsDatabase}
use Rattle.ss_shard.specs.declared.database.Database.{Database}
use Rattle.ss_shard.specs.Contents.{row_limit}

-- how the rows of a table of this key and placement are dealt to so many parts
abbrev pub route_at : ℕ → List ℕ → Placement → Route
route_at n key (Part y) = Placed (y % n)
route_at n key (By c) = Split (key_position c key) n

-- the table of a definition, without a row, of one part of so many
abbrev pub empty_table : ℕ → ℕ → TableDef → TableValue
empty_table n part d = record {
  key = d.key;
  limit = row_limit d.placement;
  live = finite.empty;
  dead = finite.empty;
  route = route_at n d.key d.placement;
  parts = part ∷ [];
}

-- the tables of a catalogue before the first execution
abbrev pub empty_tables : ℕ → ℕ → List TableDef → List TableValue
empty_tables n part defs = map (empty_table n part) defs

-- what is left of these tables where their rows, and their keys with them, are lent
abbrev pub shell_tables : ℕ → ℕ → List TableDef → List TableValue
shell_tables n part defs = map (λ d. shell_of (empty_table n part d)) defs

-- an index without a pair, of one part, on these columns
abbrev pub empty_index : ℕ → List ℕ → Index
empty_index part columns = record { columns = columns; pairs = finite.empty; parts = part ∷ [] }

-- indexes without a pair, each on its columns
abbrev pub empty_group : ℕ → List (List ℕ) → Group
empty_group part listed = map (empty_index part) listed

-- the indexes of a catalogue's tables before the first execution
abbrev pub empty_indexes : ℕ → List TableDef → List Group
empty_indexes part defs = map (λ (d : TableDef). empty_group part d.indexes) defs

-- the windows of a catalogue before the first execution
abbrev pub empty_windows : List WindowDef → List WindowValue
empty_windows defs = map (λ d. empty_window d.unit d.size d.slide) defs

-- a shard has these tables, indexes on the columns that the catalogue lists, nothing to take back, and else only blanks: no unit
-- in a window, no batch taken, no next number, and each procedure has its own body
pub record HasBlanksBeside (catalog : Catalog) (part : ℕ) (made : List TableValue) (shard : ShardValue) : Type 0 where
  pub number : shard.number ≡ part
  pub tables : shard.tables ≡ made
  pub changes : shard.changes ≡ []
  pub indexes : HasIndexes catalog shard
  pub windows : shard.windows ≡ empty_windows catalog.windows
  pub cursors : shard.cursors ≡ replicate (length catalog.procedures) 0
  pub sources : shard.sources ≡ replicate (length catalog.streams) finite.empty
  pub bodies : shard.bodies ≡ replicate (length catalog.procedures) 0
  pub none_coming : shard.coming ≡ None

-- a window shows at least one unit, and moves on by no more than it shows
abbrev pub WindowIsSound : WindowDef → Type 0
WindowIsSound d = (1 ≤ d.slide) × (d.slide ≤ d.size)

-- the program's database stands for one of the model: its shard for the tables, windows, counts and next numbers, and its
-- streams have of each stream the batches that some procedure has still to take
pub record StandsFor (catalog : Catalog) (database : Database) (db : Model) : Type 0 where
  pub shard : HoldsDatabase catalog database.whole db
  pub streams : AreStreamsOf catalog db database.streams.streams

-- a database between executions: its shard has the number 0 and nothing to take back, and it stands for a whole database
pub record IsWhole (catalog : Catalog) (database : Database) : Type 0 where
  pub committed : IsCommitted catalog database.whole
  pub number : database.whole.number ≡ 0
  pub stands : (db : Model) × StandsFor catalog database db × WholeDatabase catalog db

-- if the empty database of the catalogue is whole, this database is
abbrev pub OpensWhole : Catalog → Database → Type 0
OpensWhole catalog database = WholeDatabase catalog (empty_database catalog) → IsWhole catalog database
