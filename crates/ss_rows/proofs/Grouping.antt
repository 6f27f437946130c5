-- The groups of a query, by its kind.
use Rattle.std.proofs.Common.{◌≡◌, true, false, List, [], ◌∷◌, map, refl, ap, sym, ◌∙◌}
use Rattle.ss_value.specs.Rows.{Row, Rows}
use Rattle.ss_sql_trees.specs.declared.typed.ColAt.{ColAt}
use Rattle.ss_sql_trees.specs.declared.typed.SelectItem.{SelectItem}
use Rattle.ss_sql_trees.specs.declared.typed.Query.{Query}
use Rattle.ss_sql_trees.specs.WellTyped.{query_aggregated}
use Rattle.ss_model.specs.Results.{try_map}
use Rattle.ss_model.specs.Queries.{item_value, group_rows, query_groups}
use Rattle.ss_rows.specs.Meaning.{item_rows, results_of}
use Rattle.ss_rows.specs.Grouped.{groups_by}

-- with GROUP BY, those of the listed columns
groups_listed : (columns : List ColAt) (found : List Rows) → (columns ≡ [] → ⊥) → groups_by columns found ≡ group_rows columns found
groups_listed [] found some = absurd (some refl)
groups_listed (c ∷ cs) found some = refl

module _ (params : Row) (q : Query) (items : List SelectItem) (same : items ≡ q.items) (found : List Rows) where
  of_groups : (groups : List (List Rows)) → groups ≡ query_groups (query_aggregated q) q.groups found → item_rows params items groups ≡ results_of params q found
  of_groups groups are = λ j. try_map (λ group. try_map (item_value params group) (same j)) (are j)

  -- each tuple by itself
  pub rows_of_singles : query_aggregated q ≡ false → item_rows params items (map (λ here. here ∷ []) found) ≡ results_of params q found
  rows_of_singles plain = of_groups (map (λ here. here ∷ []) found) (ap (λ b. query_groups b q.groups found) (sym plain))

  -- all in one
  pub rows_of_whole : query_aggregated q ≡ true → q.groups ≡ [] → item_rows params items (found ∷ []) ≡ results_of params q found
  rows_of_whole aggregated none = of_groups (found ∷ []) (λ j. query_groups (sym aggregated j) (sym none j) found)

  -- those of GROUP BY
  pub rows_of_groups : query_aggregated q ≡ true → (q.groups ≡ [] → ⊥) → (groups : List (List Rows)) → groups ≡ groups_by q.groups found → item_rows params items groups ≡ results_of params q found
  rows_of_groups aggregated some groups are = of_groups groups (are ∙ groups_listed q.groups found some ∙ ap (λ b. query_groups b q.groups found) (sym aggregated))
