-- A catalogue as JSON.
use Rattle.std.specs.Prelude.{ℕ, List, [], ◌∷◌, Ok, codes}
use Rattle.ss_catalog_json.specs.declared.json_readers.ItemCount.TheVariants.{Any}
use Rattle.ss_catalog_outline.specs.declared.types.Outline.{Outline}
use Rattle.ss_catalog_json.specs.Readings.{Reading, ◌>>=◌, read_array_of, object_of, read_key_or}
use Rattle.ss_catalog_outline.specs.Tables.{read_table, read_stream, read_window, read_trigger}
use Rattle.ss_catalog_outline.specs.Procedures.{read_procedure}

abbrev pub section_keys : List (List ℕ)
section_keys = codes "tables" ∷ codes "streams" ∷ codes "windows" ∷ codes "triggers" ∷ codes "procedures" ∷ []

-- a section, which is empty where its key is missing
abbrev pub read_section : {A : Type 0} → List ℕ → Reading A → Reading (List A)
read_section key read d = read_key_or key (read_array_of Any read) [] d

-- the outline of a catalogue, or the way from the whole value to its first fault
abbrev pub read_outline : Reading Outline
read_outline d =
    object_of section_keys d >>= λ _.
    read_section (codes "tables") read_table d >>= λ tables.
    read_section (codes "streams") read_stream d >>= λ streams.
    read_section (codes "windows") read_window d >>= λ windows.
    read_section (codes "triggers") read_trigger d >>= λ triggers.
    read_section (codes "procedures") read_procedure d >>= λ procedures.
    Ok (record { tables = tables; streams = streams; windows = windows; triggers = triggers; procedures = procedures })
