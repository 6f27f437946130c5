-- Rows that are lent and not copied.
use Rattle.std.specs.Prelude.{List, map}
use Rattle.std.specs.Borrow.{Bor}
use Rattle.ss_value.specs.Rows.{Row, Rows}

-- the rows behind these loans
abbrev pub rows_behind : List (Bor Row) → Rows
rows_behind rows = map (λ r. r.now) rows
