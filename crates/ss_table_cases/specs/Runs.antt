-- Tables between changes.
use Rattle.std.specs.Prelude.{◌≡◌, ℕ, List, [], slice_get, IsSome, IsSomeAnd}
use Rattle.std.specs.List.{AllByRecursion}
use Rattle.ss_value.specs.Rows.{Row}
use Rattle.ss_table.specs.TableValue.{TableValue, key_of, row_at}
use Rattle.ss_undo.specs.declared.change.Change.{Change}
use Rattle.ss_undo.specs.ResultsFrom.{ResultsFrom, AreCommitted}
use Rattle.ss_undo.specs.Windows.{WindowsResultFrom}
use Rattle.ss_window.specs.WindowValue.{WindowValue}

-- each of these tables has this key
abbrev pub AreKeyed : List ℕ → List TableValue → Type 0
AreKeyed key tables = AllByRecursion (λ h. h.key ≡ key) tables

-- tables of one key, no window, and all changes since they were last committed or rolled back
pub record Runs (key : List ℕ) (tables : List TableValue) (windows : List WindowValue) (changes : List Change) : Type 0 where
  pub before : List TableValue
  pub final : AreCommitted before
  pub came : ResultsFrom before changes tables
  -- no change is of a window
  pub no_window : windows ≡ []
  pub staged : WindowsResultFrom [] changes []
  -- they had this key and have it
  pub was_keyed : AreKeyed key before
  pub keyed : AreKeyed key tables

-- a slot of one of the tables is live
abbrev pub IsLive : List TableValue → ℕ → ℕ → Type 0
IsLive tables at slot = IsSomeAnd (slice_get tables at) (λ h. IsSome (row_at h.live slot))

-- a slot of one of the tables is live, and its row has the key of this one
abbrev pub CanReplace : List TableValue → ℕ → ℕ → Row → Type 0
CanReplace tables at slot row = IsSomeAnd (slice_get tables at) (λ h. IsSomeAnd (row_at h.live slot) (λ old. key_of h.key row ≡ key_of h.key old))
