-- Items whose value stands somewhere already.
use Rattle.std.proofs.Common.{◌≡◌, ℕ, zero, suc, ◌+◌, ◌<◌, ◌≤◌, nat_lt, List, [], ◌∷◌, ◌++◌, map, take, drop, get_or, slice_get, length, Option, Some, None, option_map, pos, unwrap_or, refl, sym, ap, ◌∙◌, subst, append_assoc, Ok}
use Rattle.std.specs.Prelude.{is_some}
use Rattle.std.specs.Option.{option_copied, IfSome}
use Rattle.std.specs.Borrow.{Bor}
use Rattle.std.proofs.lemmas.Bool.{ltb-true, ltb-false}
use Rattle.std.proofs.lemmas.List.{map-append, take_more, take-map}
use Rattle.std.proofs.lemmas.Option.{slice_get_past, slice_get-get_or}
use Rattle.ss_lemmas.proofs.LoopItem.{next}
use Rattle.ss_value.specs.declared.value.Value.{Value}
use Rattle.ss_value.specs.declared.value.Value.TheVariants.{Int}
use Rattle.ss_value.specs.Rows.{Row, Rows, column_value}
use Rattle.ss_sql_trees.specs.declared.typed.Expr.{Expr}
use Rattle.ss_sql_trees.specs.declared.typed.Expr.TheVariants.{Lit, Param, Col}
use Rattle.ss_sql_trees.specs.declared.typed.SelectItem.{SelectItem}
use Rattle.ss_sql_trees.specs.declared.typed.SelectItem.TheVariants.{Plain}
use Rattle.ss_sql_trees.specs.declared.typed.Query.{Query}
use Rattle.ss_model.specs.Results.{OrAbort, ◌>>=◌, try_map}
use Rattle.ss_model.specs.Queries.{item_value, query_groups, order_by_cmp, sort_rows, take_limit}
use Rattle.ss_model.proofs.CallerLemmas.{literal_value, param_value, column_meaning}
use Rattle.ss_rows.specs.Certainty.{AlwaysHasValue}
use Rattle.ss_rows.specs.Early.{AlwaysHasRow}
use Rattle.ss_rows.specs.Lent.{lent_value, lent_item, lent_row, lent_rows, IsLent, IsLentItem, AreLent, SortsTuples}
use Rattle.ss_rows.specs.Meaning.{results_of, ordered_results}
use Rattle.ss_rows.specs.Tuples.{tuple_of, tuples_of}
use Rattle.ss_rows.specs.declared.tuple.Tuple.{Tuple}
use Rattle.ss_rows.proofs.Enough.{after}
use Rattle.ss_rows.proofs.GroupWalks.{of_single}

-- ---- which expressions and items these are

pub literal_lent : (v : Value) → IsLent (Lit v)
literal_lent v = λ here params. literal_value here params v

pub param_lent : (n : ℕ) → IsLent (Param n)
param_lent n = λ here params. param_value here params n

pub column_lent : (source column : ℕ) → IsLent (Col source column)
column_lent source column = λ here params. column_meaning here params source column

-- what is lent is there
pub lent_has : (tree : Expr) → IsLent tree → AlwaysHasValue tree
lent_has tree lent = λ here params. (lent_value params here tree, lent here params)

pub lent_has_row : (items : List SelectItem) → AreLent items → AlwaysHasRow items
lent_has_row items lent = λ params group. (map (lent_item params (get_or group 0 [])) items, lent params group)

pub plain_lent : (tree : Expr) → IsLent tree → IsLentItem (Plain tree)
plain_lent tree lent = λ params group. lent (get_or group 0 []) params

-- ---- lists of them

module _ {A B : Type 0} (f : A → OrAbort B) (g : A → B) where
  -- where f gives what g does, so does the walk
  pub all_given : ((x : A) → f x ≡ Ok (g x)) → (xs : List A) → try_map f xs ≡ Ok (map g xs)
  all_given h [] = refl
  all_given h (x ∷ xs) = λ j. h x j >>= λ y. all_given h xs j >>= λ ys. Ok (y ∷ ys)

  one_more : (xs : List A) (x : A) → try_map f xs ≡ Ok (map g xs) → f x ≡ Ok (g x) → try_map f (xs ++ x ∷ []) ≡ Ok (map g (xs ++ x ∷ []))
  one_more xs x before at =
      after f xs (x ∷ [])
      ∙ (λ j. before j >>= λ bs. (at j >>= λ y. Ok (y ∷ [])) >>= λ cs. Ok (bs ++ cs))
      ∙ ap Ok (sym (map-append g xs (x ∷ [])))

pub lent_more : (items : List SelectItem) (i : ℕ) (item : SelectItem) → i < length items → item ≡ get_or items i item → AreLent (take i items) → IsLentItem item → AreLent (take (i + 1) items)
lent_more items i item h e before at =
    let more : take (i + 1) items ≡ take i items ++ item ∷ [] = take_more items i item h ∙ ap (λ x. take i items ++ x ∷ []) (sym e) in
    subst AreLent (sym more) (λ params group. one_more (item_value params group) (lent_item params (get_or group 0 [])) (take i items) item (before params group) (at params group))

-- one row more
pub rows_more : {A B : Type 0} (f : A → B) (xs : List A) (i : ℕ) (x : A) → i < length xs → x ≡ get_or xs i x → (done now : List B) (y : B) → done ++ map f (drop i xs) ≡ map f xs → y ≡ f x → now ≡ done ++ y ∷ [] → now ++ map f (drop (i + 1) xs) ≡ map f xs
rows_more f xs i x h e done now y so_far is grown =
    ap (λ now. now ++ map f (drop (i + 1) xs)) (grown ∙ ap (λ y. done ++ y ∷ []) is)
    ∙ append_assoc done (f x ∷ []) (map f (drop (i + 1) xs))
    ∙ ap (λ ys. done ++ map f ys) (sym (next xs i x h e))
    ∙ so_far

-- the rows of a query of such items
pub lent_results : (params : Row) (q : Query) → SortsTuples q → (found : List Tuple) → results_of params q (tuples_of found) ≡ Ok (lent_rows params q.items found)
lent_results params q sorts found =
    let row = λ (group : List Rows). try_map (item_value params group) q.items in
    ap (λ b. try_map row (query_groups b q.groups (tuples_of found))) sorts.plain
    ∙ of_single row found
    ∙ all_given (λ (here : Tuple). row (tuple_of here ∷ [])) (lent_row params q.items) (λ here. sorts.items params (tuple_of here ∷ [])) found

-- ---- the value in a column of such a row

-- what is found in a slice
pub looked_up : {A : Type 0} (xs : List A) (at : ℕ) (r : Option (Bor A)) → is_some r ≡ nat_lt at (length xs) → IfSome r (λ (x : Bor A). x.now ≡ get_or xs at x.now) → option_copied r ≡ slice_get xs at
looked_up xs at None is h = let past : length xs ≤ at = ltb-false _ _ (sym is) in sym (slice_get_past xs at past)
looked_up xs at (Some x) is h = let within : at < length xs = ltb-true _ _ (sym is) in sym (slice_get-get_or xs at x.now within ∙ ap Some (sym h))

mapped_at : {A : Type 0} (f : A → Value) (xs : List A) (k : ℕ) (d : Value) → unwrap_or (option_map f (slice_get xs k)) d ≡ get_or (map f xs) k d
mapped_at f [] zero d = refl
mapped_at f [] (suc k) d = refl
mapped_at f (x ∷ xs) zero d = refl
mapped_at f (x ∷ xs) (suc k) d = mapped_at f xs k d

module _ (params : Row) (items : List SelectItem) (here : Tuple) (column : ℕ) where
  -- an item stands there
  pub column_there : (item : SelectItem) → slice_get items column ≡ Some item → lent_item params (tuple_of here) item ≡ column_value (lent_row params items here) column
  column_there item is =
      ap (λ o. unwrap_or (option_map (lent_item params (tuple_of here)) o) (Int (pos 0))) (sym is)
      ∙ mapped_at (lent_item params (tuple_of here)) items column (Int (pos 0))

  -- and none
  pub column_past : slice_get items column ≡ None → Int (pos 0) ≡ column_value (lent_row params items here) column
  column_past is =
      ap (λ o. unwrap_or (option_map (lent_item params (tuple_of here)) o) (Int (pos 0))) (sym is)
      ∙ mapped_at (lent_item params (tuple_of here)) items column (Int (pos 0))

-- ---- the first rows of a query

module _ (params : Row) (q : Query) (found sorted : List Tuple) (is : lent_rows params q.items sorted ≡ sort_rows (order_by_cmp q.order) (lent_rows params q.items found)) where
  pub first_ones : (count : ℕ) → q.limit ≡ Some count → lent_rows params q.items (take count sorted) ≡ ordered_results q (lent_rows params q.items found)
  first_ones count limit =
      sym (take-map (lent_row params q.items) count sorted)
      ∙ ap (take count) is
      ∙ ap (λ limit. take_limit limit (sort_rows (order_by_cmp q.order) (lent_rows params q.items found))) (sym limit)
