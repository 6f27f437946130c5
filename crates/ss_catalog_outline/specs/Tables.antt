-- Tables, streams, windows and triggers as JSON.
use Rattle.std.specs.Prelude.{ℕ, List, [], ◌∷◌, cond, Option, Some, None, Ok, Err, codes, option_and_then, ⊤}
use Rattle.std.specs.Str.{bytes_eq}
use Rattle.serde_json.specs.Data.{Data, Items, no_items, item}
use Rattle.serde_json.specs.Find.{as_array, as_str}
use Rattle.ss_value.specs.declared.Unit.{Unit as UnitKind}
use Rattle.ss_value.specs.declared.Unit.TheVariants.{Rows, Batches}
use Rattle.ss_value.specs.declared.schema.ColType.{ColType}
use Rattle.ss_value.specs.declared.schema.ColType.TheVariants.{Int, Text}
use Rattle.ss_value.specs.declared.schema.Column.{Column}
use Rattle.ss_catalog_json.specs.declared.json_readers.ItemCount.TheVariants.{Any, AtLeastOne}
use Rattle.ss_catalog_outline.specs.declared.types.PlacementOutline.{PlacementOutline}
use Rattle.ss_catalog_outline.specs.declared.types.PlacementOutline.TheVariants.{Part, By}
use Rattle.ss_catalog_outline.specs.declared.types.TableOutline.{TableOutline}
use Rattle.ss_catalog_outline.specs.declared.types.StreamOutline.{StreamOutline}
use Rattle.ss_catalog_outline.specs.declared.types.WindowOutline.{WindowOutline}
use Rattle.ss_catalog_outline.specs.declared.types.TriggerOutline.{TriggerOutline}
use Rattle.ss_catalog_json.specs.Readings.{OrFault, Reading, ◌>>=◌, inside, item_step, or_here, read_word, read_name, read_between, read_array_of, has_key, object_of, read_key, read_key_or}

-- ---- columns

-- int or text
abbrev pub kind_of : List ℕ → Option ColType
kind_of word = cond (bytes_eq word (codes "int")) (Some Int) (cond (bytes_eq word (codes "text")) (Some Text) None)

-- a column's type
abbrev pub read_kind : Reading ColType
read_kind d = or_here (option_and_then kind_of (as_str d))

-- the pair of a column's name and its type
abbrev pub read_pair : Items → OrFault Column
read_pair no_items = Err []
read_pair (item name no_items) = Err []
read_pair (item name (item kind no_items)) =
    inside (item_step 0) (read_name name) >>= λ n. inside (item_step 1) (read_kind kind) >>= λ k. Ok (record { name = n; kind = k })
read_pair (item name (item kind (item other ds))) = Err []

-- a column
abbrev pub read_column : Reading Column
read_column d = or_here (as_array d) >>= read_pair

-- at least one column
abbrev pub read_columns : Reading (List Column)
read_columns = read_array_of AtLeastOne read_column

-- at least one text: names of columns, or statements
abbrev pub read_words : Reading (List (List ℕ))
read_words = read_array_of AtLeastOne read_word

-- ---- tables

-- a part from 0 to 7
abbrev pub read_part : Reading ℕ
read_part = read_between 0 7

-- on a part where the key `part` is there, and else by a column
abbrev pub read_placement : Reading PlacementOutline
read_placement d =
    cond (has_key (codes "part") d)
    (read_key (codes "part") read_part d >>= λ p. Ok (Part p))
    (read_key (codes "by") read_word d >>= λ c. Ok (By c))

-- the keys of a table on a part, and of one by a column
abbrev pub part_keys : List (List ℕ)
part_keys = codes "name" ∷ codes "columns" ∷ codes "key" ∷ codes "part" ∷ codes "indexes" ∷ []

abbrev pub by_keys : List (List ℕ)
by_keys = codes "name" ∷ codes "columns" ∷ codes "key" ∷ codes "by" ∷ codes "indexes" ∷ []

-- an object with no keys but those of a table
abbrev pub table_object : Data → OrFault ⊤
table_object d = cond (has_key (codes "part") d) (object_of part_keys d) (object_of by_keys d)

-- a table
abbrev pub read_table : Reading TableOutline
read_table d =
    table_object d >>= λ _.
    read_key (codes "name") read_name d >>= λ name.
    read_key (codes "columns") read_columns d >>= λ columns.
    read_key (codes "key") read_words d >>= λ key.
    read_placement d >>= λ placement.
    read_key_or (codes "indexes") (read_array_of Any read_words) [] d >>= λ indexes.
    Ok (record { name = name; columns = columns; key = key; placement = placement; indexes = indexes })

-- ---- streams

abbrev pub stream_keys : List (List ℕ)
stream_keys = codes "name" ∷ codes "columns" ∷ []

-- a stream
abbrev pub read_stream : Reading StreamOutline
read_stream d =
    object_of stream_keys d >>= λ _.
    read_key (codes "name") read_name d >>= λ name.
    read_key (codes "columns") read_columns d >>= λ columns.
    Ok (record { name = name; columns = columns })

-- ---- windows

-- rows or batches
abbrev pub unit_of : List ℕ → Option UnitKind
unit_of word = cond (bytes_eq word (codes "rows")) (Some Rows) (cond (bytes_eq word (codes "batches")) (Some Batches) None)

-- a window's unit
abbrev pub read_unit : Reading UnitKind
read_unit d = or_here (option_and_then unit_of (as_str d))

abbrev pub window_keys : List (List ℕ)
window_keys = codes "name" ∷ codes "columns" ∷ codes "owner" ∷ codes "unit" ∷ codes "size" ∷ codes "slide" ∷ []

-- a window: it shows 1 to 65,536 units, and slides by no more than it shows
abbrev pub read_window : Reading WindowOutline
read_window d =
    object_of window_keys d >>= λ _.
    read_key (codes "name") read_name d >>= λ name.
    read_key (codes "columns") read_columns d >>= λ columns.
    read_key (codes "owner") read_word d >>= λ owner.
    read_key (codes "unit") read_unit d >>= λ unit.
    read_key (codes "size") (read_between 1 65536) d >>= λ size.
    read_key (codes "slide") (read_between 1 size) d >>= λ slide.
    Ok (record { name = name; columns = columns; owner = owner; unit = unit; size = size; slide = slide })

-- ---- triggers

abbrev pub trigger_keys : List (List ℕ)
trigger_keys = codes "name" ∷ codes "on" ∷ codes "sql" ∷ []

-- a trigger
abbrev pub read_trigger : Reading TriggerOutline
read_trigger d =
    object_of trigger_keys d >>= λ _.
    read_key (codes "name") read_name d >>= λ name.
    read_key (codes "on") read_word d >>= λ on.
    read_key (codes "sql") read_words d >>= λ statements.
    Ok (record { name = name; on = on; statements = statements })
