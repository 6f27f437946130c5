-- The names in scope of the SQL of a catalogue.
use Rattle.std.specs.Prelude.{ℕ, List, [], ◌∷◌, ◌++◌, Option, None, slice_get, unwrap_or, option_map, codes}
use Rattle.ss_value.specs.declared.schema.Column.{Column}
use Rattle.ss_sql_trees.specs.declared.typed.SourceId.TheVariants.{Table as FromTable, Window as FromWindow, Batch as FromBatch, Inserted}
use Rattle.ss_sql_type.specs.declared.scope.Named.{Named}
use Rattle.ss_sql_type.specs.declared.scope.Scope.{Scope}
use Rattle.ss_model.specs.declared.catalog.On.{On}
use Rattle.ss_model.specs.declared.catalog.On.TheVariants.{Stream as OnStream, Window as OnWindow}
use Rattle.ss_model.specs.declared.catalog.TableDef.{TableDef}
use Rattle.ss_model.specs.declared.catalog.WindowDef.{WindowDef}
use Rattle.ss_model.specs.Results.{map_indexed}
use Rattle.ss_catalog_resolve.specs.declared.definitions.Sections.{Sections}

-- a table and a window, as sources of these numbers
abbrev pub named_table : ℕ → TableDef → Named
named_table n d = record { name = d.name; source = FromTable n; schema = d.schema; key = d.key }

abbrev pub named_window : ℕ → WindowDef → Named
named_window n d = record { name = d.name; source = FromWindow n; schema = d.schema; key = [] }

module _ (sections : Sections) where
  -- tables and windows, which all SQL may read and write
  abbrev pub shared_names : List Named
  shared_names = map_indexed named_table sections.tables ++ map_indexed named_window sections.windows

  -- the scope in which nothing else may be named
  abbrev pub shared_scope : Scope
  shared_scope = record { sources = shared_names; targets = shared_names; params = []; out = None }

  -- the name and the columns of a stream
  abbrev pub stream_name : ℕ → List ℕ
  stream_name s = unwrap_or (option_map (λ d. d.name) (slice_get sections.streams s)) []

  abbrev pub stream_columns : ℕ → List Column
  stream_columns s = unwrap_or (option_map (λ d. d.schema) (slice_get sections.streams s)) []

  -- the batch of a stream, as the input of a procedure at this position
  abbrev pub named_batch : ℕ → ℕ → Named
  named_batch i s = record { name = stream_name s; source = FromBatch i; schema = stream_columns s; key = [] }

  -- the scope of a procedure that takes these streams, whose batches its SQL may read
  abbrev pub procedure_scope : List ℕ → List Column → Option (List Column) → Scope
  procedure_scope inputs params out = record { sources = shared_names ++ map_indexed named_batch inputs; targets = shared_names; params = params; out = out }

  -- the source `inserted`, which only a trigger that waits for a stream has
  abbrev pub named_inserted : On → List Named
  named_inserted (OnStream s) = record { name = codes "inserted"; source = Inserted; schema = stream_columns s; key = [] } ∷ []
  named_inserted (OnWindow w) = []

  -- the scope of a trigger, which may read the rows that were emitted to its stream
  abbrev pub trigger_scope : On → Scope
  trigger_scope on = record { sources = shared_names ++ named_inserted on; targets = shared_names; params = []; out = None }
