-- Lists of rows by number, of which only the first stand in memory.
use Rattle.std.specs.Prelude.{ℕ, ◌-◌, List, [], ◌++◌, replicate, length}
use Rattle.ss_value.specs.Rows.{Rows}

-- so many lists: these, and behind them empty ones
abbrev pub filled_up : ℕ → List Rows → List Rows
filled_up count begun = begun ++ replicate (count - length begun) []
