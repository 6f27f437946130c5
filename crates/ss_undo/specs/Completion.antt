-- What rolls a change back, and what makes it final.
use Rattle.std.specs.Prelude.{◌≡◌, ℕ, List, Option, Some, None, slice_get, slice_set, IsSome, IsSomeAnd}
use Rattle.std.specs.FinMap as finite
use Rattle.ss_table.specs.TableValue.{TableValue, key_of, row_at, remove_fresh, unmark, replace, purge}
use Rattle.ss_undo.specs.declared.change.Change.{Change}
use Rattle.ss_undo.specs.declared.change.Change.TheVariants.{Inserted, Deleted, Replaced, Amended, Staged}

-- a list with the item at a position changed, and as it was where there is none
abbrev pub with_one : {A : Type 0} → List A → ℕ → (A → A) → Option A → List A
with_one items at f None = items
with_one items at f (Some x) = slice_set items at (f x)

-- tables with a change rolled back
abbrev pub rollback_change : List TableValue → Change → List TableValue
rollback_change tables (Inserted table slot) = with_one tables table (λ h. remove_fresh h slot) (slice_get tables table)
rollback_change tables (Deleted table slot) = with_one tables table (λ h. unmark h slot) (slice_get tables table)
rollback_change tables (Replaced table slot row) = with_one tables table (λ h. replace h slot row) (slice_get tables table)
rollback_change tables (Amended table slot row) = with_one tables table (λ h. replace h slot row) (slice_get tables table)
rollback_change tables (Staged window) = tables

-- a change can be rolled back: an inserted row's slot is live; a deleted row's slot is dead, and no live row has its key; and a replaced
-- or amended row's slot is live, with a row of its key
abbrev pub CanRollBack : List TableValue → Change → Type 0
CanRollBack tables (Inserted table slot) = IsSomeAnd (slice_get tables table) (λ h. IsSome (row_at h.live slot))
CanRollBack tables (Deleted table slot) = IsSomeAnd (slice_get tables table) (λ h. IsSomeAnd (finite.get h.dead slot) (λ row. finite.get h.live (key_of h.key row) ≡ None))
CanRollBack tables (Replaced table slot row) = IsSomeAnd (slice_get tables table) (λ h. IsSomeAnd (row_at h.live slot) (λ now. key_of h.key row ≡ key_of h.key now))
CanRollBack tables (Amended table slot row) = IsSomeAnd (slice_get tables table) (λ h. IsSomeAnd (row_at h.live slot) (λ now. key_of h.key row ≡ key_of h.key now))
CanRollBack tables (Staged window) = Unit {0}

-- tables with a change made final: a deleted row's slot is freed
abbrev pub commit_change : List TableValue → Change → List TableValue
commit_change tables (Inserted table slot) = tables
commit_change tables (Deleted table slot) = with_one tables table (λ h. purge h slot) (slice_get tables table)
commit_change tables (Replaced table slot row) = tables
commit_change tables (Amended table slot row) = tables
commit_change tables (Staged window) = tables

-- a change can be made final: a deleted row's slot is dead, and a replaced row's table is there
abbrev pub CanCommit : List TableValue → Change → Type 0
CanCommit tables (Inserted table slot) = Unit {0}
CanCommit tables (Deleted table slot) = IsSomeAnd (slice_get tables table) (λ h. IsSome (finite.get h.dead slot))
CanCommit tables (Replaced table slot row) = IsSome (slice_get tables table)
CanCommit tables (Amended table slot row) = Unit {0}
CanCommit tables (Staged window) = Unit {0}
