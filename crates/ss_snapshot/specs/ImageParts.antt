-- Parts of an image, as loops read them.
use Rattle.std.specs.Prelude.{ℕ, nat_le, List, Option, Some}
use Rattle.std.specs.List.{fold}
use Rattle.ss_value.specs.declared.schema.Column.{Column}
use Rattle.ss_value.specs.declared.Unit.{Unit as UnitKind}
use Rattle.ss_value.specs.Rows.{Row, Rows, column_values}
use Rattle.ss_model.specs.declared.catalog.TableDef.{TableDef}
use Rattle.ss_standing.specs.ImageForm.{is_unit, row_above, row_of, rows_of}
use Rattle.ss_standing.specs.Readers.{Reader, many}

-- so many rows that fit the columns
abbrev pub many_rows : List Column → ℕ → Reader Rows
many_rows schema n = many (λ s row. s) (λ (s : Unit {0}). row_of schema) n tt

-- so many rows of a table, each with its key behind the one before it, behind a last key if there is one
abbrev pub rows_above : TableDef → ℕ → Option Row → Reader Rows
rows_above d = many (λ last row. Some (column_values d.key row)) (row_above d)

-- the last of these rows, or the one before them if there is one
abbrev pub last_row : Option Row → Rows → Option Row
last_row before rows = fold (λ last row. Some row) before rows

-- so many units
abbrev pub many_units : UnitKind → List Column → ℕ → Reader (List Rows)
many_units kind schema n = many (λ s unit. s) (λ (s : Unit {0}). rows_of 8 (is_unit kind) schema) n tt

-- so many batches
abbrev pub many_batches : List Column → ℕ → Reader (List Rows)
many_batches schema n = many (λ s batch. s) (λ (s : Unit {0}). rows_of 2 (λ n. nat_le n 1024) schema) n tt
