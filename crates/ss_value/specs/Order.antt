-- The order of values and of rows.
use Rattle.std.specs.Prelude.{Bool}
use Rattle.std.specs.Ordering.{nat_cmp, int_cmp, eq_by_cmp}
use Rattle.std.specs.declared.cmp.Ordering.{Ordering}
use Rattle.std.specs.declared.cmp.Ordering.TheVariants.{Less, Greater}
use Rattle.std.specs.Cmp.Lexicographic.{slice_cmp}
use Rattle.ss_value.specs.declared.value.Value.{Value}
use Rattle.ss_value.specs.declared.value.Value.TheVariants.{Int, Text}
use Rattle.ss_value.specs.Rows.{Row}

-- Ints by size, Texts by bytes, an Int before a Text
abbrev pub value_cmp : Value → Value → Ordering
value_cmp (Int m) (Int n) = int_cmp m n
value_cmp (Int m) (Text t) = Less
value_cmp (Text s) (Int n) = Greater
value_cmp (Text s) (Text t) = slice_cmp nat_cmp s t

abbrev pub values_equal : Value → Value → Bool
values_equal = eq_by_cmp value_cmp

-- rows by the first value in which they differ, a proper prefix of a row before the row
abbrev pub row_cmp : Row → Row → Ordering
row_cmp = slice_cmp value_cmp
