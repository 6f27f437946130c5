-- Parts of a query's phases by themselves, for the functions that compute them.
use Rattle.std.specs.Prelude.{List, [], ◌∷◌, map}
use Rattle.std.specs.List.{filter}
use Rattle.ss_value.specs.Rows.{Row, Rows}
use Rattle.ss_value.specs.Order.{values_equal}
use Rattle.ss_sql_trees.specs.declared.typed.Joined.{Joined}
use Rattle.ss_sql_trees.specs.declared.typed.Query.{Query}
use Rattle.ss_sql_trees.specs.WellTyped.{query_aggregated}
use Rattle.ss_model.specs.Results.{OrAbort, try_map}
use Rattle.ss_model.specs.Queries.{source_column, query_groups, item_value, order_by_cmp, sort_rows, take_limit}

-- the pairs of one row of FROM whose JOIN columns are equal
abbrev pub pairs_of : Joined → Row → Rows → List Rows
pairs_of j left inner = filter (λ here. values_equal (source_column j.left here) (source_column j.right here)) (map (λ r. left ∷ r ∷ []) inner)

-- a row for each group of the tuples that pass WHERE
abbrev pub results_of : Row → Query → List Rows → OrAbort Rows
results_of params q found = try_map (λ group. try_map (item_value params group) q.items) (query_groups (query_aggregated q) q.groups found)

-- those rows in the order of ORDER BY, up to LIMIT
abbrev pub ordered_of : Query → Rows → Rows
ordered_of q results = take_limit q.limit (sort_rows (order_by_cmp q.order) results)
