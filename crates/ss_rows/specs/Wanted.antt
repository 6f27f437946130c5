-- What the walk adds to the tuples that are found: those of an outer row that pass WHERE.
use Rattle.std.specs.Prelude.{List, [], ◌∷◌, map, Option}
use Rattle.std.specs.Borrow.{Bor}
use Rattle.ss_value.specs.Rows.{Row, Rows}
use Rattle.ss_sql_trees.specs.declared.typed.Joined.{Joined}
use Rattle.ss_model.specs.Results.{OrAbort, try_filter}
use Rattle.ss_model.specs.Queries.{where_passes, join_rows}
use Rattle.ss_model.specs.declared.run_error.RunError.{RunError}
use Rattle.ss_model.specs.Stops.{StopsAs}
use Rattle.ss_rows.specs.Tuples.{tuples_of, rows_behind}
use Rattle.ss_rows.specs.Enough.{FirstOf}
use Rattle.ss_rows.specs.Adding.{onto, IndexesJoin}
use Rattle.ss_rows.specs.declared.join.JoinIndex.{JoinIndex}
use Rattle.ss_rows.specs.declared.tuple.Tuple.{Tuple}
use Rattle.ss_rows.specs.declared.filter.Wanted.{Wanted}

-- those of these tuples that pass WHERE
abbrev pub those_wanted : Wanted → List Rows → OrAbort (List Rows)
those_wanted wanted tuples = try_filter (where_passes wanted.params.now wanted.test.now) tuples

-- the pairs of an outer row with these partners
abbrev pub pairs_of : Row → List (Bor Row) → List Rows
pairs_of outer partners = map (λ r. outer ∷ r ∷ []) (rows_behind partners)

-- behind the tuples that were found stand those of these that pass WHERE, or as many of all as are enough
abbrev pub EnoughAdded : Wanted → List Rows → List Tuple → List Tuple → Type 0
EnoughAdded wanted tuples old new = FirstOf wanted.enough (onto (tuples_of old) (those_wanted wanted tuples)) (tuples_of new)

-- the same of the tuples of an outer row, with the JOIN that the index is of
abbrev pub RowAdded : Wanted → Option JoinIndex → Row → List Tuple → List Tuple → Type 0
RowAdded wanted index outer old new =
    (join : Option (Joined × Rows)) → IndexesJoin join index → EnoughAdded wanted (join_rows (outer ∷ []) join) old new

-- an abort is that of the first test that aborts on a tuple of an outer row
abbrev pub RowStops : Wanted → Option JoinIndex → Row → RunError → Type 0
RowStops wanted index outer stop = (join : Option (Joined × Rows)) → IndexesJoin join index → StopsAs (those_wanted wanted (join_rows (outer ∷ []) join)) stop
