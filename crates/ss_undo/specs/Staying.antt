-- Rows that were put in place of others and have their pairs, so that no index was touched.
use Rattle.std.specs.Prelude.{◌≡◌, ℕ, List, [], ◌∷◌, slice_get, IfSome}
use Rattle.std.specs.List.{AllByRecursion}
use Rattle.ss_value.specs.Rows.{Row, column_values}
use Rattle.ss_table.specs.TableValue.{TableValue as Table, row_at}
use Rattle.ss_undo.specs.declared.change.Change.{Change}
use Rattle.ss_undo.specs.declared.change.Change.TheVariants.{Inserted, Deleted, Replaced, Amended, Staged}
use Rattle.ss_undo.specs.Completion.{rollback_change}

-- two rows have the same values in the columns of each of these indexes, and so in one slot the same pairs
abbrev pub HaveSamePairs : Row → Row → List (List ℕ) → Type 0
HaveSamePairs a b columns = AllByRecursion (λ cs. column_values cs a ≡ column_values cs b) columns

-- a row has the same pairs as the one that stands in a slot of a table, by the columns of each table's indexes
abbrev pub HasPairsOf : List (List (List ℕ)) → List Table → ℕ → ℕ → Row → Type 0
HasPairsOf columns tables t slot row = IfSome (slice_get tables t) (λ h. IfSome (row_at h.live slot) (λ standing. IfSome (slice_get columns t) (HaveSamePairs row standing)))

-- an amended row has the same pairs as the one that stands in its slot
abbrev pub HasStayed : List (List (List ℕ)) → List Table → Change → Type 0
HasStayed columns tables (Inserted table slot) = Unit {0}
HasStayed columns tables (Deleted table slot) = Unit {0}
HasStayed columns tables (Replaced table slot row) = Unit {0}
HasStayed columns tables (Amended table slot row) = HasPairsOf columns tables table slot row
HasStayed columns tables (Staged window) = Unit {0}

-- tables with these changes rolled back, the last one first
abbrev pub all_rolled_back : List Table → List Change → List Table
all_rolled_back tables [] = tables
all_rolled_back tables (c ∷ cs) = rollback_change (all_rolled_back tables cs) c

-- so it is of each of these changes, once those behind it are rolled back
abbrev pub HaveStayed : List (List (List ℕ)) → List Table → List Change → Type 0
HaveStayed columns tables [] = Unit {0}
HaveStayed columns tables (c ∷ cs) = HasStayed columns (all_rolled_back tables cs) c × HaveStayed columns tables cs
