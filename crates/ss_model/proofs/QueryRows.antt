-- What holds of all rows of a query, since it holds of what its items give for any group.
use Rattle.std.proofs.Common.{ℕ, zero, suc, Bool, true, false, cond, List, [], ◌∷◌, take, Some, None}
use Rattle.std.specs.declared.option.Option.{Option}
use Rattle.std.specs.Ordering.{is_gt}
use Rattle.std.specs.declared.cmp.Ordering.{Ordering}
use Rattle.std.specs.List.{AllByRecursion}
use Rattle.ss_value.specs.Rows.{Row, Rows}
use Rattle.ss_sql_trees.specs.declared.typed.Joined.{Joined}
use Rattle.ss_sql_trees.specs.declared.typed.Query.{Query}
use Rattle.ss_sql_trees.specs.WellTyped.{query_aggregated}
use Rattle.ss_model.specs.Results.{try_map, try_filter, WhenOk}
use Rattle.ss_model.specs.Queries.{query_result, item_value, query_groups, insert_sorted, sort_rows, take_limit, order_by_cmp, where_passes, join_rows}
use Rattle.ss_model.proofs.WhenOk.{when_ok_then, anything, try_map_when_ok, all_of}

module _ (P : Row → Type 0) where
  module _ (cmp : Row → Row → Ordering) where
    insert_sorted_all : (x : Row) (ys : Rows) → P x → AllByRecursion P ys → AllByRecursion P (insert_sorted cmp x ys)
    insert_sorted_all x [] p all = (p, tt)
    insert_sorted_all x (y ∷ ys) p all = either (is_gt (cmp x y)) (all.0, insert_sorted_all x ys p all.1) (p, all)
      where
        either : (b : Bool) → AllByRecursion P (y ∷ insert_sorted cmp x ys) → AllByRecursion P (x ∷ y ∷ ys) → AllByRecursion P (cond b (y ∷ insert_sorted cmp x ys) (x ∷ y ∷ ys))
        either true g h = g
        either false g h = h

    sorted_all : (xs : Rows) → AllByRecursion P xs → AllByRecursion P (sort_rows cmp xs)
    sorted_all [] all = tt
    sorted_all (x ∷ xs) all = insert_sorted_all x (sort_rows cmp xs) all.0 (sorted_all xs all.1)

  take_all : (n : ℕ) (xs : Rows) → AllByRecursion P xs → AllByRecursion P (take n xs)
  take_all zero xs all = tt
  take_all (suc n) [] all = tt
  take_all (suc n) (x ∷ xs) all = (all.0, take_all n xs all.1)

  limit_all : (n : Option ℕ) (xs : Rows) → AllByRecursion P xs → AllByRecursion P (take_limit n xs)
  limit_all None xs all = all
  limit_all (Some n) xs all = take_all n xs all

  pub query_all : (outer : Rows) (inner : Option (Joined × Rows)) (params : Row) (q : Query) → ((group : List Rows) → WhenOk P (try_map (item_value params group) q.items)) → WhenOk (AllByRecursion P) (query_result outer inner params q)
  unfolding query_result
  query_all outer inner params q h =
      when_ok_then (λ _. Unit {0}) (AllByRecursion P) (try_filter (where_passes params q.test) (join_rows outer inner)) _ (anything (try_filter (where_passes params q.test) (join_rows outer inner))) (λ found _.
      when_ok_then (AllByRecursion P) (AllByRecursion P) (try_map (λ group. try_map (item_value params group) q.items) (query_groups (query_aggregated q) q.groups found)) _
      (try_map_when_ok (λ _. Unit {0}) P _ (λ group _. h group) _ (all_of _ (λ _. tt) _))
      (λ results all. limit_all q.limit _ (sorted_all (order_by_cmp q.order) results all)))
