-- How what is wrong with nests as they are written is told.
use Rattle.std.specs.Prelude.{◌≡◌, ◌++◌, ℕ, List, Result, Ok, Err, codes}
use Rattle.serde_json.specs.Data.{Data}
use Rattle.ss_catalog_json.specs.declared.read_error.ReadError.{ReadError}
use Rattle.ss_catalog_json.specs.declared.read_error.ReadError.TheVariants.{Fault}
use Rattle.ss_catalog_json.specs.Readings.{FaultsAs}
use Rattle.ss_nest.specs.declared.error.NestError.{NestError}
use Rattle.ss_nest.specs.declared.error.NestError.TheVariants.{NoMemory, Shape, Unknown}
use Rattle.ss_nest.specs.declared.outline.NestOutline.{NestOutline}
use Rattle.ss_nest.specs.Outlines.{read_nests}

-- what was read of the nests of a value
abbrev pub IsReadOf : Data → Result (List NestOutline) ReadError → Type 0
IsReadOf d (Ok os) = read_nests d ≡ Ok os
IsReadOf d (Err e) = FaultsAs (read_nests d) e

-- the error tells the path to the fault that was met, or is `NoMemory`, which may always come
abbrev pub ShapeAs : Result (List NestOutline) ReadError → NestError → Type 0
ShapeAs read NoMemory = Unit {0}
ShapeAs read (Shape path) = (way : List ℕ) × (read ≡ Err (Fault way)) × (path ≡ codes "$" ++ way)
ShapeAs read e = ⊥

-- the error tells the name that is meant, or is `NoMemory`, which may always come
abbrev pub UnknownAs : {A : Type 0} → Result A (List ℕ) → NestError → Type 0
UnknownAs meaning NoMemory = Unit {0}
UnknownAs meaning (Unknown name) = meaning ≡ Err name
UnknownAs meaning e = ⊥
