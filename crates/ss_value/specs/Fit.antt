-- Which rows fit which columns.
use Rattle.std.specs.Prelude.{List, Bool, true, false, ◌&&◌, ◌==◌, length}
use Rattle.std.specs.List.{list_all, zip}
use Rattle.ss_value.specs.declared.value.Value.{Value}
use Rattle.ss_value.specs.declared.value.Value.TheVariants as value
use Rattle.ss_value.specs.declared.schema.ColType.{ColType}
use Rattle.ss_value.specs.declared.schema.ColType.TheVariants as kind
use Rattle.ss_value.specs.declared.schema.Column.{Column}

abbrev pub fits_kind : ColType → Value → Bool
fits_kind kind.Int (value.Int n) = true
fits_kind kind.Int (value.Text t) = false
fits_kind kind.Text (value.Int n) = false
fits_kind kind.Text (value.Text t) = true

-- whether a value is of a type
-- whether a row has one value of the right type for each column, and no other
abbrev pub fits_schema : List Column → List Value → Bool
fits_schema cs vs = (length cs == length vs) && list_all (λ p. fits_kind p.0.kind p.1) (zip cs vs)
