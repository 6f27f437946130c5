-- The range of an index in which the rows stand that may pass a WHERE.
use Rattle.std.specs.Prelude.{ℕ, ◌||◌, ◌&&◌, Bool, true, false, cond, List, [], ◌∷◌, Option, Some, None, slice_get}
use Rattle.ss_value.specs.declared.value.Value.{Value}
use Rattle.ss_value.specs.declared.schema.Column.{Column}
use Rattle.ss_value.specs.declared.schema.ColType.{ColType}
use Rattle.ss_value.specs.declared.schema.ColType.TheVariants as kind
use Rattle.ss_value.specs.Rows.{Row}
use Rattle.ss_sql_trees.specs.declared.typed.Expr.{Expr}
use Rattle.ss_plan.specs.Fronts.{run_of}
use Rattle.ss_plan.specs.Bounds.{first_bound, bound_value}
use Rattle.ss_plan.specs.Keys.{is_there}
use Rattle.ss_plan.specs.declared.bounds.RangeEnd.{RangeEnd}
use Rattle.ss_plan.specs.declared.bounds.RangeEnd.TheVariants.{Both, Low, High}

-- whether a type is Int
abbrev pub is_int_kind : ColType → Bool
is_int_kind kind.Int = true
is_int_kind kind.Text = false

-- whether a column is there and is an Int
abbrev pub is_int_column : Option Column → Bool
is_int_column None = false
is_int_column (Some c) = is_int_kind c.kind

-- whether the column of a number is an Int
abbrev pub is_int : List Column → ℕ → Bool
is_int columns c = is_int_column (slice_get columns c)

-- whether the front of a WHERE bounds a column at an end
abbrev pub has_bound : RangeEnd → Option Expr → ℕ → Bool
has_bound end test c = is_there (first_bound end c (run_of test))

-- whether an index narrows the search: its first column has a bound by `=`, or is an Int with any bound
abbrev pub narrows : List Column → Option Expr → List ℕ → Bool
narrows columns test [] = false
narrows columns test (c ∷ cs) = has_bound Both test c || (is_int columns c && (has_bound Low test c || has_bound High test c))

-- the bound of a column at an end, where the column is an Int
abbrev pub int_bound : RangeEnd → List Column → Row → Option Expr → ℕ → Option Value
int_bound end columns params test c = cond (is_int columns c) (bound_value end params test c) None

-- a value that `=` gives, and behind it the rest of the end; else the bound of an order, which is the last of an end; else nothing
abbrev pub ends_with : Option Value → Option Value → Row → Row
ends_with (Some v) bound rest = v ∷ rest
ends_with None (Some b) rest = b ∷ []
ends_with None None rest = []

-- an end of the range: the values of as many leading columns as `=` gives, and then the bound of the next one, if it is an Int with one
abbrev pub range_end : RangeEnd → List Column → Row → Option Expr → List ℕ → Row
range_end end columns params test [] = []
range_end end columns params test (c ∷ cs) =
    ends_with (bound_value Both params test c) (int_bound end columns params test c) (range_end end columns params test cs)
