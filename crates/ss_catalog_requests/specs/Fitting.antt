-- Which values fit columns.
use Rattle.std.specs.Prelude.{List, Option, Some, None}
use Rattle.std.specs.List.{list_all}
use Rattle.ss_value.specs.declared.schema.Column.{Column}
use Rattle.ss_value.specs.Rows.{Row, Rows}
use Rattle.ss_value.specs.Fit.{fits_schema}
use Rattle.ss_model.specs.Database.{only_when}

-- the row, where it is there and fits these columns
abbrev pub fitting_row : List Column → Option Row → Option Row
fitting_row schema None = None
fitting_row schema (Some row) = only_when (fits_schema schema row) (Some row)

-- the rows, where they are there and each fits these columns
abbrev pub fitting_rows : List Column → Option Rows → Option Rows
fitting_rows schema None = None
fitting_rows schema (Some rows) = only_when (list_all (fits_schema schema) rows) (Some rows)
