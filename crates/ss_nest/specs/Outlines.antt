-- The nests of a catalogue as JSON.
use Rattle.std.specs.Prelude.{ℕ, List, [], ◌∷◌, Bool, false, ◌&&◌, nat_le, Option, Some, None, Ok, codes}
use Rattle.serde_json.specs.Data.{Data, Items}
use Rattle.serde_json.specs.Events.{items_len}
use Rattle.serde_json.specs.Find.{as_array}
use Rattle.ss_catalog_json.specs.declared.json_readers.ItemCount.TheVariants.{Any}
use Rattle.ss_catalog_json.specs.Readings.{Reading, ◌>>=◌, only_where, read_word, read_name, read_array_of, object_of, read_key, read_key_or}
use Rattle.ss_nest.specs.declared.outline.NestOutline.{NestOutline}
use Rattle.ss_nest.specs.Without.{without}

-- the key of the section
abbrev pub nests_key : List ℕ
nests_key = codes "nests"

-- the value of the catalogue without nests
abbrev pub plain_value : Data → Data
plain_value = without nests_key

-- an array of two to eight items
abbrev pub is_several : Option Items → Bool
is_several None = false
is_several (Some ds) = nat_le 2 (items_len ds) && nat_le (items_len ds) 8

-- the procedures of a nest: two to eight texts, in order
abbrev pub read_members : Reading (List (List ℕ))
read_members d = only_where (is_several (as_array d)) (read_array_of Any read_word d)

-- a nest
abbrev pub read_nest : Reading NestOutline
read_nest d =
    object_of (codes "name" ∷ codes "procedures" ∷ []) d >>= λ _.
    read_key (codes "name") read_name d >>= λ name.
    read_key (codes "procedures") read_members d >>= λ procedures.
    Ok (record { name = name; procedures = procedures })

-- the nests of a catalogue's value, or the way from the whole value to their first fault; none where the section is missing
abbrev pub read_nests : Reading (List NestOutline)
read_nests = read_key_or nests_key (read_array_of Any read_nest) []
