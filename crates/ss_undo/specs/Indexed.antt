-- The indexes of several tables, and what they hold while changes are noted.
use Rattle.std.specs.Prelude.{◌≡◌, ℕ, ◌==◌, cond, List, [], ◌∷◌, ◌++◌, map, Some, slice_get}
use Rattle.ss_value.specs.Rows.{Row}
use Rattle.ss_table.specs.TableValue.{TableValue as Table}
use Rattle.ss_index.specs.Pairs.{IndexValue}
use Rattle.ss_index.specs.Indexes.{with_rows, without_rows}
use Rattle.ss_undo.specs.Holding.{Noted, HoldAll}
use Rattle.ss_undo.specs.declared.change.Change.{Change}
use Rattle.ss_undo.specs.declared.change.Change.TheVariants.{Inserted, Deleted, Replaced, Amended, Staged}
use Rattle.ss_undo.specs.Completion.{with_one}

-- the indexes of one table
abbrev pub Group : Type 0
Group = List IndexValue

-- the old row of a table that the note of a change has, with its slot, if it has one whose pairs are beside those of the row that was put
-- in place of it: an amended row's are the same ones
abbrev pub noted_row : ℕ → Change → Noted
noted_row t (Inserted table slot) = []
noted_row t (Deleted table slot) = []
noted_row t (Replaced table slot row) = cond (table == t) ((row, slot) ∷ []) []
noted_row t (Amended table slot row) = []
noted_row t (Staged window) = []

-- the old rows of a table that the notes have, other than amended ones
abbrev pub noted_rows : ℕ → List Change → Noted
noted_rows t [] = []
noted_rows t (c ∷ cs) = noted_row t c ++ noted_rows t cs

-- the indexes of each table hold the pairs of its rows, and of its old rows that the notes have
abbrev pub AreIndexed : List Table → List Change → List Group → Type 0
AreIndexed tables changes indexes = (t : ℕ) (h : Table) (group : Group) → slice_get tables t ≡ Some h → slice_get indexes t ≡ Some group → HoldAll h (noted_rows t changes) group

-- the columns of a table's indexes
abbrev pub columns_in : Group → List (List ℕ)
columns_in group = map (λ (i : IndexValue). i.columns) group

-- the columns of each table's indexes
abbrev pub columns_of : List Group → List (List (List ℕ))
columns_of indexes = map columns_in indexes

-- the indexes with the pairs of a row of one table added, where it has indexes
abbrev pub with_row_of : List Group → ℕ → Row → ℕ → List Group
with_row_of indexes t row slot = with_one indexes t (with_rows row slot) (slice_get indexes t)

-- the indexes with the pairs of a row of one table dropped, where it has indexes
abbrev pub without_row_of : List Group → ℕ → Row → ℕ → List Group
without_row_of indexes t row slot = with_one indexes t (without_rows row slot) (slice_get indexes t)
