-- A well typed query on rows that fit gives rows that fit.
use Rattle.std.proofs.Common.{◌≡◌, ℕ, ℤ, Bool, true, false, cond, not, ◌||◌, List, [], ◌∷◌, ◌++◌, map, get_or, refl, Some, None, Ok, Err}
use Rattle.std.specs.declared.option.Option.{Option}
use Rattle.std.specs.declared.cmp.Ordering.{Ordering}
use Rattle.std.specs.Ordering.{is_gt, is_lt, eq_by_cmp}
use Rattle.std.specs.List.{AllByRecursion, filter, flat_map, fold, list_all}
use Rattle.std.proofs.lemmas.Bool.{and_from}
use Rattle.ss_lemmas.proofs.EachOf.{all_take}
use Rattle.ss_value.specs.declared.value.Value.{Value}
use Rattle.ss_value.specs.declared.value.Value.TheVariants.{Int}
use Rattle.ss_value.specs.declared.schema.ColType.{ColType}
use Rattle.ss_value.specs.declared.schema.ColType.TheVariants.{Int as IntColumn, Text as TextColumn}
use Rattle.ss_value.specs.declared.schema.Column.{Column}
use Rattle.ss_value.specs.Fit.{fits_kind, fits_schema}
use Rattle.ss_value.specs.Rows.{Row, Rows}
use Rattle.ss_value.specs.Order.{row_cmp, value_cmp}
use Rattle.ss_sql_trees.specs.declared.typed.ColAt.{ColAt}
use Rattle.ss_sql_trees.specs.declared.typed.Expr.{Expr}
use Rattle.ss_sql_trees.specs.declared.typed.SourceId.{SourceId}
use Rattle.ss_sql_trees.specs.declared.typed.SelectItem.{SelectItem}
use Rattle.ss_sql_trees.specs.declared.typed.SelectItem.TheVariants.{Count, Sum, Min, Max, Plain}
use Rattle.ss_sql_trees.specs.declared.typed.Joined.{Joined}
use Rattle.ss_sql_trees.specs.declared.typed.Query.{Query}
use Rattle.ss_model.specs.declared.entry.Reason.TheVariants.{Overflow}
use Rattle.ss_model.specs.Results.{try_map, try_filter, WhenOk}
use Rattle.ss_model.specs.Expressions.{checked_int, fits_i64, expr_value}
use Rattle.ss_model.specs.Queries.{join_rows, join_source, where_passes, add_to_group, group_rows, query_groups, source_column, sum_values, extreme_value, item_value, order_by_cmp, insert_sorted, sort_rows, take_limit, query_result, query_rows}
use Rattle.ss_model.specs.Soundness.{rows_fit}
use Rattle.ss_sql_trees.specs.WellTyped.{IntType, TextType, is_type, typed_when, column_type, expr_type, item_type, item_grouped, types_fit, Schemas, query_sources, query_types, query_typed, query_aggregated}
use Rattle.ss_model.specs.SoundRuns.{FitAll, JoinFits}
use Rattle.ss_lemmas.proofs.Bools.{first_of_two, second_of_two}
use Rattle.ss_model.proofs.CallerLemmas.{when_ok_then, anything, try_map_when_ok, try_filter_when_ok}
use Rattle.ss_model_laws.proofs.ValueSound.{GivesKind, value_sound, constant_sound, fits_cons}

-- ---- lists

pub all_append : {A : Type 0} (P : A → Type 0) (xs ys : List A) → AllByRecursion P xs → AllByRecursion P ys → AllByRecursion P (xs ++ ys)
all_append P [] ys h k = k
all_append P (x ∷ xs) ys h k = (h.0, all_append P xs ys h.1 k)

all_filter : {A : Type 0} (P : A → Type 0) (test : A → Bool) (xs : List A) → AllByRecursion P xs → AllByRecursion P (filter test xs)
all_filter P test [] h = tt
all_filter P test (x ∷ xs) h = by (test x) (all_filter P test xs h.1)
  where
    by : (b : Bool) → AllByRecursion P (filter test xs) → AllByRecursion P (cond b (x ∷ filter test xs) (filter test xs))
    by true rest = (h.0, rest)
    by false rest = rest

all_inserted : (P : Row → Type 0) (cmp : Row → Row → Ordering) (x : Row) (ys : Rows) → P x → AllByRecursion P ys → AllByRecursion P (insert_sorted cmp x ys)
all_inserted P cmp x [] p h = (p, tt)
all_inserted P cmp x (y ∷ ys) p h = by (is_gt (cmp x y)) (all_inserted P cmp x ys p h.1)
  where
    by : (b : Bool) → AllByRecursion P (insert_sorted cmp x ys) → AllByRecursion P (cond b (y ∷ insert_sorted cmp x ys) (x ∷ y ∷ ys))
    by true rest = (h.0, rest)
    by false rest = (p, h)

all_sorted : (P : Row → Type 0) (cmp : Row → Row → Ordering) (xs : Rows) → AllByRecursion P xs → AllByRecursion P (sort_rows cmp xs)
all_sorted P cmp [] h = tt
all_sorted P cmp (x ∷ xs) h = all_inserted P cmp x (sort_rows cmp xs) h.0 (all_sorted P cmp xs h.1)

all_limited : (P : Row → Type 0) (limit : Option ℕ) (xs : Rows) → AllByRecursion P xs → AllByRecursion P (take_limit limit xs)
all_limited P None xs h = h
all_limited P (Some n) xs h = all_take P n xs h

-- ---- rows of the sources

-- a row per source, each of which fits
abbrev Here : List (List Column) → Rows → Type 0
Here sources here = rows_fit sources here ≡ true

single_rows : (columns : List Column) (outer : Rows) → FitAll columns outer → AllByRecursion (Here (columns ∷ [])) (map (λ l. l ∷ []) outer)
single_rows columns [] h = tt
single_rows columns (l ∷ outer) h = (and_from _ _ h.0 refl, single_rows columns outer h.1)

paired_rows : (columns more : List Column) (l : Row) (inner : Rows) → fits_schema columns l ≡ true → FitAll more inner → AllByRecursion (Here (columns ∷ more ∷ [])) (map (λ r. l ∷ r ∷ []) inner)
paired_rows columns more l [] f h = tt
paired_rows columns more l (r ∷ inner) f h = (and_from _ _ f (and_from _ _ h.0 refl), paired_rows columns more l inner f h.1)

all_pairs : (columns more : List Column) (test : Rows → Bool) (outer inner : Rows) → FitAll columns outer → FitAll more inner → AllByRecursion (Here (columns ∷ more ∷ [])) (flat_map (λ l. filter test (map (λ r. l ∷ r ∷ []) inner)) outer)
all_pairs columns more test [] inner h k = tt
all_pairs columns more test (l ∷ outer) inner h k =
    all_append _ (filter test (map (λ r. l ∷ r ∷ []) inner)) _ (all_filter _ test _ (paired_rows columns more l inner h.0 k)) (all_pairs columns more test outer inner h.1 k)

joined_rows : (s : Schemas) (from : SourceId) (j : Option Joined) (rows : SourceId → Rows) → FitAll (s.sources from) (rows from) → JoinFits s (join_source rows j) → AllByRecursion (Here (query_sources s from j)) (join_rows (rows from) (join_source rows j))
joined_rows s from None rows h k = single_rows (s.sources from) (rows from) h
joined_rows s from (Some j) rows h k = all_pairs (s.sources from) (s.sources j.source) _ (rows from) (rows j.source) h k

-- ---- groups

abbrev IsSome : {A : Type 0} → List A → Type 0
IsSome [] = ⊥
IsSome (x ∷ xs) = Unit {0}

module _ (sources : List (List Column)) where
  -- a keyed group that has rows, which fit
  abbrev KeyedGroup : Row × List Rows → Type 0
  KeyedGroup g = AllByRecursion (Here sources) g.1 × IsSome g.1

  some_pushed : {A : Type 0} (xs : List A) (x : A) → IsSome (xs ++ x ∷ [])
  some_pushed [] x = tt
  some_pushed (y ∷ xs) x = tt

  group_added : (k : Row) (here : Rows) (gs : List (Row × List Rows)) → Here sources here → AllByRecursion KeyedGroup gs → AllByRecursion KeyedGroup (add_to_group k here gs)
  group_added k here [] f h = (((f, tt), tt), tt)
  group_added k here (g ∷ gs) f h = by (eq_by_cmp row_cmp k g.0) (group_added k here gs f h.1)
    where
      by : (b : Bool) → AllByRecursion KeyedGroup (add_to_group k here gs) → AllByRecursion KeyedGroup (cond b ((g.0, g.1 ++ here ∷ []) ∷ gs) (g ∷ add_to_group k here gs))
      by true rest = ((all_append (Here sources) g.1 (here ∷ []) (h.0).0 (f, tt), some_pushed g.1 here), h.1)
      by false rest = (h.0, rest)

  groups_added : (key : Rows → Row) (found : List Rows) (gs : List (Row × List Rows)) → AllByRecursion (Here sources) found → AllByRecursion KeyedGroup gs → AllByRecursion KeyedGroup (fold (λ gs here. add_to_group (key here) here gs) gs found)
  groups_added key [] gs f h = h
  groups_added key (here ∷ found) gs f h = groups_added key found (add_to_group (key here) here gs) f.1 (group_added (key here) here gs f.0 h)

  -- a group whose rows fit, and which has some unless the items name no column
  abbrev GoodGroup : List SelectItem → List Rows → Type 0
  GoodGroup items group = AllByRecursion (Here sources) group × (group ≡ [] → list_all (item_grouped []) items ≡ true)

  some_is : {A : Type 0} (xs : List A) → IsSome xs → xs ≡ [] → ⊥
  some_is [] h e = h
  some_is (x ∷ xs) h e = cc

  good_keyed : (items : List SelectItem) (gs : List (Row × List Rows)) → AllByRecursion KeyedGroup gs → AllByRecursion (GoodGroup items) (map (λ g. g.1) gs)
  good_keyed items [] h = tt
  good_keyed items (g ∷ gs) h = (((h.0).0, λ e. absurd (some_is g.1 (h.0).1 e)), good_keyed items gs h.1)

  good_grouped : (items : List SelectItem) (cs : List ColAt) (found : List Rows) → AllByRecursion (Here sources) found → list_all (item_grouped cs) items ≡ true → AllByRecursion (GoodGroup items) (group_rows cs found)
  good_grouped items [] found f g = ((f, λ e. g), tt)
  good_grouped items (c ∷ cs) found f g = good_keyed items _ (groups_added (λ here. map (λ c. source_column c here) (c ∷ cs)) found [] f tt)

  good_singles : (items : List SelectItem) (found : List Rows) → AllByRecursion (Here sources) found → AllByRecursion (GoodGroup items) (map (λ here. here ∷ []) found)
  good_singles items [] f = tt
  good_singles items (here ∷ found) f = (((f.0, tt), λ e. cc), good_singles items found f.1)

  good_groups : (items : List SelectItem) (aggregated : Bool) (cs : List ColAt) (found : List Rows) → AllByRecursion (Here sources) found → (not aggregated || list_all (item_grouped cs) items) ≡ true → AllByRecursion (GoodGroup items) (query_groups aggregated cs found)
  good_groups items true cs found f g = good_grouped items cs found f g
  good_groups items false cs found f g = good_singles items found f

-- ---- items

checked_kind : (z : ℤ) → GivesKind IntColumn (checked_int z)
checked_kind z = by (fits_i64 z)
  where
    by : (b : Bool) → GivesKind IntColumn (cond b (Ok (Int z)) (Err Overflow))
    by true = refl
    by false = tt

best_kind : (k : ColType) (beats : Ordering → Bool) (vs : List Value) (v : Value) → fits_kind k v ≡ true → AllByRecursion (λ v. fits_kind k v ≡ true) vs → fits_kind k (fold (λ b x. cond (beats (value_cmp x b)) x b) v vs) ≡ true
best_kind k beats [] v f h = f
best_kind k beats (x ∷ vs) v f h = best_kind k beats vs (cond (beats (value_cmp x v)) x v) (by (beats (value_cmp x v))) h.1
  where
    by : (b : Bool) → fits_kind k (cond b x v) ≡ true
    by true = h.0
    by false = f

extreme_kind : (k : ColType) (beats : Ordering → Bool) (vs : List Value) → AllByRecursion (λ v. fits_kind k v ≡ true) vs → GivesKind k (extreme_value beats vs)
extreme_kind k beats [] h = tt
extreme_kind k beats (v ∷ vs) h = best_kind k beats vs v h.0 h.1

only_int : (b : Bool) → is_type TextType (typed_when b IntType) ≡ true → ⊥
only_int true e = cc
only_int false e = cc

module _ (sources : List (List Column)) (columns : List Column) (params : Row) (args : fits_schema columns params ≡ true) where
  each_value : (k : ColType) (e : Expr) (group : List Rows) → is_type (column_type k) (expr_type sources columns e) ≡ true → AllByRecursion (Here sources) group → WhenOk (AllByRecursion (λ v. fits_kind k v ≡ true)) (try_map (λ here. expr_value here params e) group)
  each_value k e group is f = try_map_when_ok (Here sources) (λ v. fits_kind k v ≡ true) (λ here. expr_value here params e) (λ here h. value_sound sources columns here params h args k e is) group f

  plain_value : (k : ColType) (e : Expr) (group : List Rows) → is_type (column_type k) (expr_type sources columns e) ≡ true → AllByRecursion (Here sources) group → (group ≡ [] → item_grouped [] (Plain e) ≡ true) → GivesKind k (expr_value (get_or group 0 []) params e)
  plain_value k e [] is f g = constant_sound sources columns params args k e (g refl) is
  plain_value k e (here ∷ group) is f g = value_sound sources columns here params f.0 args k e is

  item_sound : (k : ColType) (item : SelectItem) (group : List Rows) → is_type (column_type k) (item_type sources columns item) ≡ true → AllByRecursion (Here sources) group → (group ≡ [] → item_grouped [] item ≡ true) → GivesKind k (item_value params group item)
  item_sound IntColumn Count group is f g = refl
  item_sound TextColumn Count group is f g = cc
  item_sound IntColumn (Sum e) group is f g = when_ok_then (λ _. Unit {0}) _ (try_map (λ here. expr_value here params e) group) _ (anything (try_map (λ here. expr_value here params e) group)) (λ vs _. checked_kind (sum_values vs))
  item_sound TextColumn (Sum e) group is f g = absurd (only_int _ is)
  item_sound k (Min e) group is f g = when_ok_then _ _ (try_map (λ here. expr_value here params e) group) _ (each_value k e group is f) (λ vs h. extreme_kind k is_lt vs h)
  item_sound k (Max e) group is f g = when_ok_then _ _ (try_map (λ here. expr_value here params e) group) _ (each_value k e group is f) (λ vs h. extreme_kind k is_gt vs h)
  item_sound k (Plain e) group is f g = plain_value k e group is f g

  items_sound : (items : List SelectItem) (group : List Rows) (into : List Column) → types_fit (map (item_type sources columns) items) into ≡ true → AllByRecursion (Here sources) group → (group ≡ [] → list_all (item_grouped []) items ≡ true) → WhenOk (λ row. fits_schema into row ≡ true) (try_map (item_value params group) items)
  items_sound [] group [] is f g = refl
  items_sound [] group (c ∷ into) is f g = cc
  items_sound (item ∷ items) group [] is f g = cc
  items_sound (item ∷ items) group (c ∷ into) is f g =
      when_ok_then (λ v. fits_kind c.kind v ≡ true) _ (item_value params group item) _ (item_sound c.kind item group (first_of_two _ _ is) f (λ e. first_of_two _ _ (g e))) (λ v one.
      when_ok_then (λ row. fits_schema into row ≡ true) _ (try_map (item_value params group) items) _ (items_sound items group into (second_of_two _ _ is) f (λ e. second_of_two _ _ (g e))) (λ vs others. fits_cons c into v vs one others))

-- ---- queries

pub query_sound : (s : Schemas) (rows : SourceId → Rows) (params : Row) (q : Query) (into : List Column) → fits_schema s.params params ≡ true → FitAll (s.sources q.from) (rows q.from) → JoinFits s (join_source rows q.joined) → query_typed s q ≡ true → types_fit (query_types s q) into ≡ true → WhenOk (FitAll into) (query_rows rows params q)
unfolding query_result
query_sound s rows params q into args outer inner typed fit =
    let sources = query_sources s q.from q.joined in
    let grouped = second_of_two _ _ (first_of_two _ _ (first_of_two _ _ typed)) in
    when_ok_then (AllByRecursion (Here sources)) _ (try_filter (where_passes params q.test) (join_rows (rows q.from) (join_source rows q.joined))) _
    (try_filter_when_ok (Here sources) (where_passes params q.test) _ (joined_rows s q.from q.joined rows outer inner)) (λ found f.
    when_ok_then (FitAll into) _ (try_map (λ group. try_map (item_value params group) q.items) (query_groups (query_aggregated q) q.groups found)) _
    (try_map_when_ok (GoodGroup sources q.items) (λ row. fits_schema into row ≡ true) (λ group. try_map (item_value params group) q.items) (λ group g. items_sound sources s.params params args q.items group into fit g.0 g.1) _ (good_groups sources q.items (query_aggregated q) q.groups found f grouped)) (λ results h.
    all_limited _ q.limit _ (all_sorted _ (order_by_cmp q.order) results h)))
