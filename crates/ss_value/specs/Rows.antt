-- Rows of values.
use Rattle.std.specs.Prelude.{ℕ, List, map, get_or, pos}
use Rattle.ss_value.specs.declared.value.Value.{Value}
use Rattle.ss_value.specs.declared.value.Value.TheVariants.{Int}

abbrev pub Row : Type 0
Row = List Value

abbrev pub Rows : Type 0
Rows = List Row

-- the value of a row in a column, and 0 past the row's end
abbrev pub column_value : Row → ℕ → Value
column_value row column = get_or row column (Int (pos 0))

-- the values of a row in these columns
abbrev pub column_values : List ℕ → Row → Row
column_values columns row = map (column_value row) columns
