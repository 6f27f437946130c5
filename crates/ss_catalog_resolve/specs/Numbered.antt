-- The parts of a catalogue that name others, with numbers for names.
use Rattle.std.specs.Prelude.{ℕ, List, map, cond}
use Rattle.ss_value.specs.declared.schema.Column.{Column}
use Rattle.ss_model.specs.declared.catalog.On.{On}
use Rattle.ss_model.specs.declared.catalog.On.TheVariants.{Stream as OnStream, Window as OnWindow}
use Rattle.ss_model.specs.declared.catalog.Placement.{Placement}
use Rattle.ss_model.specs.declared.catalog.Placement.TheVariants.{Part as PlacedAt, By}
use Rattle.ss_model.specs.declared.catalog.Touch.{Touch}
use Rattle.ss_model.specs.declared.catalog.Touch.TheVariants.{Part, Arg, Multi, All}
use Rattle.ss_model.specs.declared.catalog.TableDef.{TableDef}
use Rattle.ss_model.specs.declared.catalog.StreamDef.{StreamDef}
use Rattle.ss_model.specs.declared.catalog.WindowDef.{WindowDef}
use Rattle.ss_catalog_outline.specs.declared.types.PlacementOutline.{PlacementOutline}
use Rattle.ss_catalog_outline.specs.declared.types.PlacementOutline.TheVariants.{Part as PlacedAtOutline, By as ByOutline}
use Rattle.ss_catalog_outline.specs.declared.types.TouchOutline.{TouchOutline}
use Rattle.ss_catalog_outline.specs.declared.types.TouchOutline.TheVariants.{Part as PartOutline, Arg as ArgOutline, Multi as MultiOutline, All as AllOutline}
use Rattle.ss_catalog_outline.specs.declared.types.TableOutline.{TableOutline}
use Rattle.ss_catalog_outline.specs.declared.types.StreamOutline.{StreamOutline}
use Rattle.ss_catalog_outline.specs.declared.types.WindowOutline.{WindowOutline}
use Rattle.ss_catalog_outline.specs.declared.types.ProcedureOutline.{ProcedureOutline}
use Rattle.ss_catalog_outline.specs.declared.types.Outline.{Outline}
use Rattle.ss_names.specs.Names.{is_among, column_name}
use Rattle.ss_catalog_outline.specs.Names.{table_name, stream_name, window_name, procedure_name}
use Rattle.ss_catalog_resolve.specs.declared.definitions.Sections.{Sections}
use Rattle.ss_catalog_resolve.specs.Numbers.{number_in, column_number, column_numbers}

-- ---- tables, streams and windows

-- the placement of a table with columns of these names
abbrev pub placement_in : List (List ℕ) → PlacementOutline → Placement
placement_in columns (PlacedAtOutline part) = PlacedAt part
placement_in columns (ByOutline name) = By (number_in columns name)

-- the placement of a table with these columns
abbrev pub placement_of : List Column → PlacementOutline → Placement
placement_of columns = placement_in (map column_name columns)

-- a table
abbrev pub table_of : TableOutline → TableDef
table_of d = record {
  name = d.name;
  schema = d.columns;
  key = column_numbers d.columns d.key;
  placement = placement_of d.columns d.placement;
  indexes = map (column_numbers d.columns) d.indexes;
}

-- a stream
abbrev pub stream_of : StreamOutline → StreamDef
stream_of d = record { name = d.name; schema = d.columns }

-- a window, whose owner is one of the procedures of these names
abbrev pub window_of : List (List ℕ) → WindowOutline → WindowDef
window_of procedures d = record { name = d.name; schema = d.columns; owner = number_in procedures d.owner; unit = d.unit; size = d.size; slide = d.slide }

-- all that SQL may name
abbrev pub sections_of : Outline → Sections
sections_of o = record {
  tables = map table_of o.tables;
  streams = map stream_of o.streams;
  windows = map (window_of (map procedure_name o.procedures)) o.windows;
}

-- ---- triggers and procedures, but for their SQL

-- the tables, the streams and the windows by name
abbrev pub table_names : Outline → List (List ℕ)
table_names o = map table_name o.tables

abbrev pub stream_names : Outline → List (List ℕ)
stream_names o = map stream_name o.streams

abbrev pub window_names : Outline → List (List ℕ)
window_names o = map window_name o.windows

-- what has this name: one of these streams, or else one of these windows
abbrev pub on_in : List (List ℕ) → List (List ℕ) → List ℕ → On
on_in streams windows name = cond (is_among streams name) (OnStream (number_in streams name)) (OnWindow (number_in windows name))

-- what a trigger waits for
abbrev pub on_of : Outline → List ℕ → On
on_of o = on_in (stream_names o) (window_names o)

-- the touch set of a procedure with these arguments
abbrev pub touch_of : List Column → TouchOutline → Touch
touch_of args (PartOutline part) = Part part
touch_of args (ArgOutline name) = Arg (column_number args name)
touch_of args (MultiOutline parts) = Multi parts
touch_of args AllOutline = All

-- the streams that a procedure takes
abbrev pub inputs_of : Outline → ProcedureOutline → List ℕ
inputs_of o p = map (number_in (stream_names o)) p.inputs
