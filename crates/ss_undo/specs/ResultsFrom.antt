-- Tables that result from others by noted changes. A unit that is staged changes no table.
use Rattle.std.specs.Prelude.{◌≡◌, ℕ, List, [], ◌∷◌, map, Some, slice_get, slice_set}
use Rattle.std.specs.List.{AllByRecursion}
use Rattle.std.specs.FinMap as finite
use Rattle.ss_table.specs.TableValue.{TableValue}
use Rattle.ss_table.specs.Steps.{WasInserted, WasDeleted, WasReplaced}
use Rattle.ss_undo.specs.declared.change.Change.{Change}
use Rattle.ss_undo.specs.declared.change.Change.TheVariants.{Inserted, Deleted, Replaced, Amended, Staged}

-- one of the tables changed, in this way
pub record At (before now : List TableValue) (table : ℕ) (P : TableValue → TableValue → Type 0) : Type 0 where
  pub old : TableValue
  pub new : TableValue
  pub here : slice_get before table ≡ Some old
  pub step : P old new
  pub is : now ≡ slice_set before table new

-- the tables now result from those before by one change
abbrev pub Step : List TableValue → Change → List TableValue → Type 0
Step before (Inserted table slot) now = At before now table (λ old new. WasInserted old new slot)
Step before (Deleted table slot) now = At before now table (λ old new. WasDeleted old new slot)
Step before (Replaced table slot row) now = At before now table (λ old new. WasReplaced old new slot row)
Step before (Amended table slot row) now = At before now table (λ old new. WasReplaced old new slot row)
Step before (Staged window) now = now ≡ before

-- the tables now result from those before by these changes, in this order
abbrev pub ResultsFrom : List TableValue → List Change → List TableValue → Type 0
ResultsFrom before [] now = now ≡ before
ResultsFrom before (c ∷ cs) now = (mid : List TableValue) × Step before c mid × ResultsFrom mid cs now

-- a table without its dead rows
abbrev pub without_dead : TableValue → TableValue
without_dead h = record h { dead = finite.empty }

-- tables without their dead rows
abbrev pub all_committed : List TableValue → List TableValue
all_committed tables = map without_dead tables

-- no slot of these tables is dead
abbrev pub AreCommitted : List TableValue → Type 0
AreCommitted tables = AllByRecursion (λ h. h.dead ≡ finite.empty) tables
