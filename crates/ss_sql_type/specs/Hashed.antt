-- What a hash set holds of the list of columns beside it.
use Rattle.std.specs.Prelude.{ℕ, ◌≡◌, nat_eq, ◌&&◌, Bool, List}
use Rattle.std.specs.List.{list_any}
use Rattle.indexmap.specs.IndexSet.{IndexSet, contains}
use Rattle.ss_sql_trees.specs.declared.typed.ColAt.{ColAt}
use Rattle.ss_sql_trees.specs.WellTyped.{is_column}

-- whether two columns have the same source and the same position in it
abbrev pub same_column : ℕ × ℕ → ℕ × ℕ → Bool
same_column a b = nat_eq a.0 b.0 && nat_eq a.1 b.1

-- a set has the source and the position of each column of a list, and no other
abbrev pub IsSetOf : {S : Type 0} → List ColAt → IndexSet (ℕ × ℕ) S → Type 0
IsSetOf columns set = (source column : ℕ) → contains same_column set (source, column) ≡ list_any (λ g. is_column g source column) columns
