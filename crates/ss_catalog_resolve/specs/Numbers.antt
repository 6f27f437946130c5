-- Numbers of names.
use Rattle.std.specs.Prelude.{ℕ, List, map, position, unwrap_or}
use Rattle.std.specs.Str.{bytes_eq}
use Rattle.ss_value.specs.declared.schema.Column.{Column}
use Rattle.ss_names.specs.Names.{column_name}

-- the first position of a name in a list, and 0 where it is not there
abbrev pub number_in : List (List ℕ) → List ℕ → ℕ
number_in names name = unwrap_or (position (bytes_eq name) names) 0

-- the position of the column of this name
abbrev pub column_number : List Column → List ℕ → ℕ
column_number columns = number_in (map column_name columns)

-- the positions of the columns of these names
abbrev pub column_numbers : List Column → List (List ℕ) → List ℕ
column_numbers columns = map (column_number columns)
