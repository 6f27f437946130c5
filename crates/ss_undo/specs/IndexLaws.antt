-- What the indexes of a table hold, change by change, forward and back.
use Rattle.std.specs.Prelude.{◌≡◌, ℕ, List, [], ◌∷◌, ◌++◌, Some, None}
use Rattle.std.specs.List.{AllByRecursion}
use Rattle.std.specs.FinMap as finite
use Rattle.ss_value.specs.Rows.{Row}
use Rattle.ss_table.specs.TableValue.{TableValue as Table, key_of, row_at, remove_fresh, unmark, replace, purge}
use Rattle.ss_table.specs.Keyed.{AreKeyed}
use Rattle.ss_table.specs.Steps.{WasInserted, WasDeleted, WasReplaced}
use Rattle.ss_index.specs.Pairs.{IndexValue}
use Rattle.ss_index.specs.Indexes.{with_rows, without_rows, HavePair}
use Rattle.ss_undo.specs.Holding.{Noted, HasNone, HoldAll, HaveRows}
use Rattle.ss_undo.specs.Indexed.{columns_in}
use Rattle.ss_undo.specs.Staying.{HaveSamePairs}

-- the indexes have the pairs of a row, and once these are dropped they hold the pairs of this table and these notes
abbrev pub DropsTo : Row → ℕ → Table → Noted → List IndexValue → Type 0
DropsTo row slot h noted indexes = HavePair row slot indexes × HoldAll h noted (without_rows row slot indexes)

-- indexes without a pair, of the parts of a table without a row, hold its pairs
abbrev pub HoldAtFirst : Type 0
HoldAtFirst = (h : Table) (indexes : List IndexValue) → h.live ≡ finite.empty → h.dead ≡ finite.empty → AllByRecursion (HasNone h.parts) indexes → HoldAll h [] indexes

-- where a row is inserted, its pairs are added
abbrev pub InsertAdds : Type 0
InsertAdds = (old new : Table) (slot : ℕ) (noted : Noted) (indexes : List IndexValue) → (was : WasInserted old new slot)
    → HoldAll old noted indexes → HoldAll new noted (with_rows was.row slot indexes)

-- where a row is deleted, its pairs stay, since the row does, as a dead one
abbrev pub DeleteLeaves : Type 0
DeleteLeaves = (old new : Table) (slot : ℕ) (noted : Noted) (indexes : List IndexValue) → WasDeleted old new slot → HoldAll old noted indexes → HoldAll new noted indexes

-- where a row is replaced, the pairs of the new one are added, and the old one is noted
abbrev pub ReplaceAddsAndNotes : Type 0
ReplaceAddsAndNotes = (old new : Table) (slot : ℕ) (before : Row) (noted : Noted) (indexes : List IndexValue) → (was : WasReplaced old new slot before)
    → HoldAll old noted indexes → HoldAll new (noted ++ (before, slot) ∷ []) (with_rows was.row slot indexes)

-- where a row is put in place of one that has the same pairs, they stay
abbrev pub AmendLeaves : Type 0
AmendLeaves = (old new : Table) (slot : ℕ) (before : Row) (noted : Noted) (indexes : List IndexValue) → (was : WasReplaced old new slot before)
    → HaveSamePairs before was.row (columns_in indexes) → HoldAll old noted indexes → HoldAll new noted indexes

-- where a live row is freed, its pairs are dropped
abbrev pub InsertGoesBack : Type 0
InsertGoesBack = (h : Table) (slot : ℕ) (row : Row) (noted : Noted) (indexes : List IndexValue) → AreKeyed h → row_at h.live slot ≡ Some row
    → HoldAll h noted indexes → DropsTo row slot (remove_fresh h slot) noted indexes

-- where a dead row is made live again, the pairs stay
abbrev pub DeleteGoesBack : Type 0
DeleteGoesBack = (h : Table) (slot : ℕ) (row : Row) (noted : Noted) (indexes : List IndexValue) → finite.get h.dead slot ≡ Some row
    → finite.get h.live (key_of h.key row) ≡ None → HoldAll h noted indexes → HoldAll (unmark h slot) noted indexes

-- where a noted row is put back, the pairs of the one that comes out are dropped
abbrev pub ReplaceGoesBack : Type 0
ReplaceGoesBack = (h : Table) (slot : ℕ) (row before : Row) (noted : Noted) (indexes : List IndexValue) → AreKeyed h → row_at h.live slot ≡ Some row
    → key_of h.key before ≡ key_of h.key row → HoldAll h (noted ++ (before, slot) ∷ []) indexes → DropsTo row slot (replace h slot before) noted indexes

-- where a row is put back in place of one that has the same pairs, they stay
abbrev pub AmendGoesBack : Type 0
AmendGoesBack = (h : Table) (slot : ℕ) (row before : Row) (noted : Noted) (indexes : List IndexValue) → AreKeyed h → row_at h.live slot ≡ Some row
    → key_of h.key before ≡ key_of h.key row → HaveSamePairs before row (columns_in indexes) → HoldAll h noted indexes → HoldAll (replace h slot before) noted indexes

-- where a dead row is freed, its pairs are dropped
abbrev pub PurgeDrops : Type 0
PurgeDrops = (h : Table) (slot : ℕ) (row : Row) (noted : Noted) (indexes : List IndexValue) → finite.get h.dead slot ≡ Some row
    → HoldAll h noted indexes → DropsTo row slot (purge h slot) noted indexes

-- where a noted row is freed, its pairs are dropped
abbrev pub NoteDrops : Type 0
NoteDrops = (h : Table) (slot : ℕ) (row : Row) (noted : Noted) (indexes : List IndexValue) → HoldAll h (noted ++ (row, slot) ∷ []) indexes → DropsTo row slot h noted indexes

-- every live row has its pairs
abbrev pub RowsAreThere : Type 0
RowsAreThere = (h : Table) (noted : Noted) (indexes : List IndexValue) → HoldAll h noted indexes → HaveRows h.live indexes
