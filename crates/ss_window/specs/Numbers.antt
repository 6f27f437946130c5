-- The rows of units by number. Numbers go on from one unit to the next, and stay when the first units leave.
use Rattle.std.specs.Prelude.{◌≡◌, ℕ, ◌+◌, ◌≤◌, List, ◌∷◌, length, take, Some, slice_get}
use Rattle.ss_value.specs.Rows.{Rows}
use Rattle.ss_window.specs.WindowValue.{rows_in}

-- how many rows the units before a position have
abbrev pub rows_before : ℕ → List Rows → ℕ
rows_before position units = length (rows_in (take position units))

-- what is recorded is right: `first`, and the numbers where the first units end, are the numbers with which the first positions start
pub record AreStarts (first : ℕ) (unit_ends : List ℕ) (units : List Rows) : Type 0 where
  pub known : length unit_ends ≤ length units
  pub right : (position start : ℕ) → slice_get (first ∷ unit_ends) position ≡ Some start → start ≡ first + rows_before position units

-- the rows of units have the numbers from `first` up to `next`, and where the first units end is recorded
pub record AreNumbered (first next : ℕ) (unit_ends : List ℕ) (units : List Rows) : Type 0 where
  pub last : next ≡ first + length (rows_in units)
  pub starts : AreStarts first unit_ends units
