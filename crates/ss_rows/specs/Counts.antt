-- COUNT of the rows that pass WHERE, without a list of them.
use Rattle.std.specs.Prelude.{◌≡◌, ℕ, Bool, true, false, None, List, [], ◌∷◌, length, Option, Ok}
use Rattle.std.specs.List.{list_all}
use Rattle.ss_value.specs.Rows.{Row, Rows}
use Rattle.ss_sql_trees.specs.declared.typed.Expr.{Expr}
use Rattle.ss_sql_trees.specs.declared.typed.SourceId.{SourceId}
use Rattle.ss_sql_trees.specs.declared.typed.SelectItem.{SelectItem}
use Rattle.ss_sql_trees.specs.declared.typed.SelectItem.TheVariants.{Count}
use Rattle.ss_sql_trees.specs.declared.typed.Query.{Query}
use Rattle.ss_sql_trees.specs.WellTyped.{query_aggregated}
use Rattle.ss_model.specs.Results.{OrAbort, try_filter}
use Rattle.ss_model.specs.Queries.{where_passes}
use Rattle.ss_rows.specs.Adding.{onto}
use Rattle.ss_rows.specs.Meaning.{passing, results_of}

-- whether an item is COUNT
abbrev pub is_count : SelectItem → Bool
is_count Count = true
is_count item = false

-- COUNT is all that the query asks for: of one source, and of all its rows as one group
pub record CountsAlone (q : Query) : Type 0 where
  pub single : q.joined ≡ None
  pub whole : q.groups ≡ []
  pub aggregated : query_aggregated q ≡ true
  pub items : list_all is_count q.items ≡ true

-- the tuple of this row, where it passes WHERE
abbrev pub row_passing : Row → Option Expr → Row → OrAbort (List Rows)
row_passing params test outer = try_filter (where_passes params test) ((outer ∷ []) ∷ [])

-- whatever so many tuples are, with that of this row behind them they are so many
abbrev pub CountedOn : Row → Option Expr → Row → ℕ → ℕ → Type 0
CountedOn params test outer count more =
    (found : List Rows) → length found ≡ count → (all : List Rows) × (onto found (row_passing params test outer) ≡ Ok all) × (length all ≡ more)

-- so many tuples pass WHERE
abbrev pub CountsPassing : (SourceId → Rows) → Row → Query → ℕ → Type 0
CountsPassing rows params q count = (found : List Rows) × (passing rows params q ≡ Ok found) × (length found ≡ count)

-- these are the query's rows, before they are sorted
abbrev pub CountedRows : (SourceId → Rows) → Row → Query → Rows → Type 0
CountedRows rows params q results = (found : List Rows) × (passing rows params q ≡ Ok found) × (results_of params q found ≡ Ok results)
