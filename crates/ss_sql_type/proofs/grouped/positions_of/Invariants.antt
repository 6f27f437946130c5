use Rattle.std.proofs.Common.{◌≡◌, ℕ, take}
use Rattle.std.specs.List.{list_any}
use Rattle.indexmap.specs.IndexSet.{contains}
use Rattle.ss_sql_trees.specs.WellTyped.{is_column}
use Rattle.ss_sql_type.specs.Hashed.{same_column}
use Rattle.ss_sql_type.proofs.grouped.positions_of.Given as goal

abbrev pub invariant-loop-column : goal.invariant-loop-column
invariant-loop-column l = (source column : ℕ) → contains same_column l.places (source, column) ≡ list_any (λ g. is_column g source column) (take l.column-index l.columns)
