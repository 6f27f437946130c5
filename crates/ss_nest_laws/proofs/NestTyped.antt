-- The SQL of a member is well typed and in scope in a nest too.
use Rattle.std.proofs.Common.{◌≡◌, ◌<◌, ◌==◌, ◌&&◌, ◌||◌, not, nat_lt, nat_le, cond, ℕ, zero, suc, Bool, true, false, List, [], ◌∷◌, map, length, get_or, slice_get, unwrap_or, refl, sym, ap, ◌∙◌, Some, None}
use Rattle.std.specs.declared.option.Option.{Option}
use Rattle.std.specs.List.{list_all, list_any}
use Rattle.std.specs.Option.{option_map}
use Rattle.std.proofs.lemmas.Bool.{and_from, ltb-true, lt-ltb, or_left, or_right}
use Rattle.std.proofs.lemmas.List.{length-map}
use Rattle.std.proofs.lemmas.Option.{slice_get_within}
use Rattle.ss_value.specs.declared.schema.Column.{Column}
use Rattle.ss_sql_trees.specs.declared.typed.Condition.{Condition}
use Rattle.ss_sql_trees.specs.declared.typed.Joined.{Joined}
use Rattle.ss_sql_trees.specs.declared.typed.Query.{Query}
use Rattle.ss_sql_trees.specs.declared.typed.SourceId.{SourceId}
use Rattle.ss_sql_trees.specs.declared.typed.SourceId.TheVariants.{Table as FromTable, Window as FromWindow, Batch as FromBatch, Inserted}
use Rattle.ss_sql_trees.specs.declared.typed.Statement.{Statement}
use Rattle.ss_sql_trees.specs.declared.typed.Statement.TheVariants.{InsertValues, InsertQuery, Update, Delete}
use Rattle.ss_sql_trees.specs.declared.typed.Target.{Target}
use Rattle.ss_sql_trees.specs.declared.typed.Target.TheVariants.{Table as IntoTable, Window as IntoWindow}
use Rattle.ss_sql_trees.specs.WellTyped.{Schemas, expr_type, test_typed, item_type, is_value_type, are_comparable, column_at, query_aggregated, item_grouped, order_typed, join_typed, query_sources, query_types, query_typed, condition_typed, statement_typed, types_fit}
use Rattle.ss_model.specs.declared.catalog.Catalog.{Catalog}
use Rattle.ss_model.specs.declared.catalog.Inner.{Inner}
use Rattle.ss_model.specs.declared.catalog.Inner.TheVariants.{Sql as InnerSql, AbortIf as InnerAbortIf}
use Rattle.ss_model.specs.declared.catalog.Nest.{Nest}
use Rattle.ss_model.specs.declared.catalog.Step.{Step}
use Rattle.ss_model.specs.declared.catalog.Step.TheVariants.{Sql, AbortIf, ForEach, Emit, Local, Return}
use Rattle.ss_model.specs.declared.catalog.WindowDef.{WindowDef}
use Rattle.ss_model.specs.Database.{stream_schema}
use Rattle.ss_model.specs.Typing.{window_schema, target_schema, input_schema, source_schema, schemas_of, inner_typed, step_typed}
use Rattle.ss_model.specs.Nests.{position_of, moved_input, moved_source, moved_join, moved_query, moved_condition, moved_statement, moved_inner, moved_emit, moved_step, nested_window, nested_catalog}
use Rattle.ss_model.specs.Scopes.{is_same_source, source_in_scope, join_in_scope, query_in_scope, target_in_scope, statement_in_scope, inner_in_scope, step_in_scope}
use Rattle.ss_model.specs.CatalogForm.{numbers_distinct}
use Rattle.ss_lemmas.proofs.Bools.{first_of_two, second_of_two, some_same, any_at}
use Rattle.ss_lemmas.proofs.Numbers.{eqb_self, eqb_is}
use Rattle.ss_nest_laws.proofs.Lists.{none_within, off}

-- ---- a stream stands at its position

stands_at : (reads : List ℕ) (s : ℕ) → list_any (λ i. i == s) reads ≡ true → slice_get reads (position_of s reads) ≡ Some s
stands_at [] s e = cc
stands_at (t ∷ ts) s e = by (stands_at ts s) (t == s) refl
  where
    rest : (b : Bool) → (b || list_any (λ i. i == s) ts) ≡ true → b ≡ false → list_any (λ i. i == s) ts ≡ true
    rest true h f = cc
    rest false h f = h

    by : (list_any (λ i. i == s) ts ≡ true → slice_get ts (position_of s ts) ≡ Some s) → (b : Bool) → (t == s) ≡ b → slice_get (t ∷ ts) (cond (t == s) 0 (suc (position_of s ts))) ≡ Some s
    by later true is = ap (λ b. slice_get (t ∷ ts) (cond b 0 (suc (position_of s ts)))) is ∙ ap Some (eqb_is t s is)
    by later false is = ap (λ b. slice_get (t ∷ ts) (cond b 0 (suc (position_of s ts)))) is ∙ later (rest (t == s) e is)

none_behind : (xs : List ℕ) → slice_get xs (length xs) ≡ None
none_behind [] = refl
none_behind (x ∷ xs) = none_behind xs

-- so an input is the same stream
pub moved_stream : (reads inputs : List ℕ) → ((s : ℕ) → list_any (λ i. i == s) inputs ≡ true → list_any (λ i. i == s) reads ≡ true) → (i : ℕ) → slice_get reads (moved_input reads inputs i) ≡ slice_get inputs i
moved_stream reads [] h i = none_behind reads
moved_stream reads (x ∷ xs) h zero = stands_at reads x (h x (or_left (x == x) _ (eqb_self x)))
moved_stream reads (x ∷ xs) h (suc i) = moved_stream reads xs (λ s e. h s (or_right (x == s) _ e)) i

-- ---- types

module _ (catalog : Catalog) (nests : List Nest) (text : List ℕ) (reads inputs : List ℕ) (move : ℕ → ℕ) (same : (i : ℕ) → slice_get reads (move i) ≡ slice_get inputs i) where
  abbrev nested : Catalog
  nested = nested_catalog catalog nests text

  windows_same : (ds : List WindowDef) (n : ℕ) → unwrap_or (option_map (λ d. d.schema) (slice_get (map (nested_window nests) ds) n)) [] ≡ unwrap_or (option_map (λ d. d.schema) (slice_get ds n)) []
  windows_same [] n = refl
  windows_same (d ∷ ds) zero = refl
  windows_same (d ∷ ds) (suc n) = windows_same ds n

  pub window_same : (n : ℕ) → window_schema nested n ≡ window_schema catalog n
  window_same n = windows_same catalog.windows n

  pub target_same : (t : Target) → target_schema nested t ≡ target_schema catalog t
  target_same (IntoTable t) = refl
  target_same (IntoWindow n) = window_same n

  input_same : (i : ℕ) → input_schema nested reads [] (move i) ≡ input_schema catalog inputs [] i
  input_same i = ap (λ o. unwrap_or (option_map (stream_schema catalog) o) []) (same i)

  source_same : (src : SourceId) → source_schema nested reads [] (moved_source move src) ≡ source_schema catalog inputs [] src
  source_same (FromTable t) = refl
  source_same (FromWindow n) = window_same n
  source_same (FromBatch i) = input_same i
  source_same Inserted = refl

  module _ (params : List Column) where
    abbrev here : Schemas
    here = schemas_of nested reads [] params

    abbrev there : Schemas
    there = schemas_of catalog inputs [] params

    sources_same : (from : SourceId) (j : Option Joined) → query_sources here (moved_source move from) (option_map (moved_join move) j) ≡ query_sources there from j
    sources_same from None = λ i. source_same from i ∷ []
    sources_same from (Some j) = λ i. source_same from i ∷ source_same j.source i ∷ []

    join_same : (sources : List (List Column)) (j : Option Joined) → join_typed sources (option_map (moved_join move) j) ≡ join_typed sources j
    join_same sources None = refl
    join_same sources (Some j) = refl

    types_same : (q : Query) → query_types here (moved_query move q) ≡ query_types there q
    types_same q = ap (λ sources. map (item_type sources params) q.items) (sources_same q.from q.joined)

    query_same : (q : Query) → query_typed here (moved_query move q) ≡ query_typed there q
    query_same q =
        ap (λ sources.
        join_typed sources (option_map (moved_join move) q.joined)
        && test_typed sources params q.test
        && list_all is_value_type (map (item_type sources params) q.items)
        && list_all (λ c. is_value_type (column_at sources c)) q.groups
        && (not (query_aggregated q) || list_all (item_grouped q.groups) q.items)
        && list_all (order_typed (length q.items)) q.order
        && nat_le (length q.items) 16) (sources_same q.from q.joined)
        ∙ ap (λ b.
        b
        && test_typed (query_sources there q.from q.joined) params q.test
        && list_all is_value_type (map (item_type (query_sources there q.from q.joined) params) q.items)
        && list_all (λ c. is_value_type (column_at (query_sources there q.from q.joined) c)) q.groups
        && (not (query_aggregated q) || list_all (item_grouped q.groups) q.items)
        && list_all (order_typed (length q.items)) q.order
        && nat_le (length q.items) 16) (join_same (query_sources there q.from q.joined) q.joined)

    condition_same : (c : Condition) → condition_typed here (moved_condition move c) ≡ condition_typed there c
    condition_same c = λ i. query_same c.query i && (length c.query.items == 1) && are_comparable (get_or (types_same c.query i) 0 None) (expr_type [] params c.right)

    statement_same : (st : Statement) → statement_typed here (moved_statement move st) ≡ statement_typed there st
    statement_same (InsertValues target values) = ap (types_fit (map (expr_type [] params) values)) (target_same target)
    statement_same (InsertQuery target q) = λ i. query_same q i && types_fit (types_same q i) (target_same target i)
    statement_same (Update t sets test) = refl
    statement_same (Delete t test) = refl

    inner_same : (x : Inner) → inner_typed nested reads [] params (moved_inner move x) ≡ inner_typed catalog inputs [] params x
    inner_same (InnerSql st) = statement_same st
    inner_same (InnerAbortIf c code) = condition_same c

  each_inner : (params : List Column) (body : List Inner) → list_all (inner_typed nested reads [] params) (map (moved_inner move) body) ≡ list_all (inner_typed catalog inputs [] params) body
  each_inner params [] = refl
  each_inner params (x ∷ body) = λ i. inner_same params x i && each_inner params body i

  -- an input that is there is there in what the nest reads
  still_there : (i : ℕ) → nat_lt i (length inputs) ≡ true → nat_lt (move i) (length reads) ≡ true
  still_there i e = by (slice_get inputs i) refl
    where
      by : (o : Option ℕ) → slice_get inputs i ≡ o → nat_lt (move i) (length reads) ≡ true
      by (Some s) is = lt-ltb _ _ (slice_get_within reads (move i) s (same i ∙ is))
      by None is = let l : i < length inputs = ltb-true _ _ e in absurd (none_within inputs i l is)

  pub step_moved : (inner : List ℕ) (x : Step) → step_typed catalog inputs [] [] x ≡ true → step_typed nested reads [] [] (moved_step move inner x) ≡ true
  step_moved inner (Sql st) h = statement_same [] st ∙ h
  step_moved inner (AbortIf c code) h = condition_same [] c ∙ h
  step_moved inner (ForEach i body) h =
      and_from _ _ (still_there i (first_of_two _ _ h))
      (ap (λ columns. list_all (inner_typed nested reads [] columns) (map (moved_inner move) body)) (input_same i) ∙ each_inner (input_schema catalog inputs [] i) body ∙ second_of_two _ _ h)
  step_moved inner (Emit s q) h = by (list_any (λ i. i == s) inner)
    where
      by : (b : Bool) → step_typed nested reads [] [] (moved_emit move b s (moved_query move q)) ≡ true
      by true = (λ i. query_same [] q i && types_fit (types_same [] q i) (stream_schema catalog s)) ∙ h
      by false = (λ i. query_same [] q i && types_fit (types_same [] q i) (stream_schema catalog s)) ∙ h
  step_moved inner (Local s q) h = (λ i. query_same [] q i && types_fit (types_same [] q i) (stream_schema catalog s)) ∙ h
  step_moved inner (Return q) h = query_same [] q ∙ h

  -- ---- scopes

  module _ (distinct : numbers_distinct inputs ≡ true) where
    one_place : (xs : List ℕ) → numbers_distinct xs ≡ true → (i j s : ℕ) → slice_get xs i ≡ Some s → slice_get xs j ≡ Some s → i ≡ j
    one_place [] d i j s a b = cc
    one_place (x ∷ xs) d zero zero s a b = refl
    one_place (x ∷ xs) d zero (suc j) s a b = absurd (off _ (first_of_two _ _ d) (any_at (λ m. x == m) xs j s b (ap (λ z. z == s) (some_same x s a) ∙ eqb_self s)))
    one_place (x ∷ xs) d (suc i) zero s a b = absurd (off _ (first_of_two _ _ d) (any_at (λ m. x == m) xs i s a (ap (λ z. z == s) (some_same x s b) ∙ eqb_self s)))
    one_place (x ∷ xs) d (suc i) (suc j) s a b = ap suc (one_place xs (second_of_two _ _ d) i j s a b)

    source_there : (src : SourceId) → source_in_scope catalog (length inputs) false src ≡ true → source_in_scope nested (length reads) false (moved_source move src) ≡ true
    source_there (FromTable t) h = h
    source_there (FromWindow n) h = ap (nat_lt n) (length-map catalog.windows (nested_window nests)) ∙ h
    source_there (FromBatch i) h = still_there i h
    source_there Inserted h = cc

    -- two inputs stay two
    batch_apart : (i j : ℕ) → nat_lt i (length inputs) ≡ true → not (i == j) ≡ true → not (move i == move j) ≡ true
    batch_apart i j l other = by (slice_get inputs i) refl (move i == move j) refl
      where
        by : (o : Option ℕ) → slice_get inputs i ≡ o → (b : Bool) → (move i == move j) ≡ b → not (move i == move j) ≡ true
        by None is b e = let k : i < length inputs = ltb-true _ _ l in absurd (none_within inputs i k is)
        by (Some s) is false e = ap not e
        by (Some s) is true e =
            let there : slice_get inputs j ≡ Some s = sym (same j) ∙ ap (slice_get reads) (sym (eqb_is (move i) (move j) e)) ∙ same i ∙ is in
            let one : i ≡ j = one_place inputs distinct i j s is there in
            absurd (off _ other (ap (λ z. i == z) (sym one) ∙ eqb_self i))

    apart_there : (from src : SourceId) → source_in_scope catalog (length inputs) false from ≡ true → not (is_same_source from src) ≡ true → not (is_same_source (moved_source move from) (moved_source move src)) ≡ true
    apart_there (FromTable t) (FromTable u) l h = h
    apart_there (FromTable t) (FromWindow u) l h = refl
    apart_there (FromTable t) (FromBatch u) l h = refl
    apart_there (FromTable t) Inserted l h = refl
    apart_there (FromWindow t) (FromTable u) l h = refl
    apart_there (FromWindow t) (FromWindow u) l h = h
    apart_there (FromWindow t) (FromBatch u) l h = refl
    apart_there (FromWindow t) Inserted l h = refl
    apart_there (FromBatch i) (FromTable u) l h = refl
    apart_there (FromBatch i) (FromWindow u) l h = refl
    apart_there (FromBatch i) (FromBatch j) l h = batch_apart i j l h
    apart_there (FromBatch i) Inserted l h = refl
    apart_there Inserted src l h = cc

    join_there : (from : SourceId) (j : Option Joined) → source_in_scope catalog (length inputs) false from ≡ true → join_in_scope catalog (length inputs) false from j ≡ true → join_in_scope nested (length reads) false (moved_source move from) (option_map (moved_join move) j) ≡ true
    join_there from None l h = refl
    join_there from (Some j) l h = and_from _ _ (source_there j.source (first_of_two _ _ h)) (apart_there from j.source l (second_of_two _ _ h))

    query_there : (q : Query) → query_in_scope catalog (length inputs) false q ≡ true → query_in_scope nested (length reads) false (moved_query move q) ≡ true
    query_there q h = and_from _ _ (source_there q.from (first_of_two _ _ h)) (join_there q.from q.joined (first_of_two _ _ h) (second_of_two _ _ h))

    target_there : (t : Target) → target_in_scope catalog (length inputs) false t ≡ true → target_in_scope nested (length reads) false t ≡ true
    target_there (IntoTable t) h = h
    target_there (IntoWindow n) h = ap (nat_lt n) (length-map catalog.windows (nested_window nests)) ∙ h

    statement_there : (st : Statement) → statement_in_scope catalog (length inputs) false st ≡ true → statement_in_scope nested (length reads) false (moved_statement move st) ≡ true
    statement_there (InsertValues target values) h = target_there target h
    statement_there (InsertQuery target q) h = and_from _ _ (target_there target (first_of_two _ _ h)) (query_there q (second_of_two _ _ h))
    statement_there (Update t sets test) h = h
    statement_there (Delete t test) h = h

    inner_there : (x : Inner) → inner_in_scope catalog (length inputs) false x ≡ true → inner_in_scope nested (length reads) false (moved_inner move x) ≡ true
    inner_there (InnerSql st) h = statement_there st h
    inner_there (InnerAbortIf c code) h = query_there c.query h

    each_there : (body : List Inner) → list_all (inner_in_scope catalog (length inputs) false) body ≡ true → list_all (inner_in_scope nested (length reads) false) (map (moved_inner move) body) ≡ true
    each_there [] h = refl
    each_there (x ∷ body) h = and_from _ _ (inner_there x (first_of_two _ _ h)) (each_there body (second_of_two _ _ h))

    pub step_there : (inner : List ℕ) (x : Step) → step_in_scope catalog (length inputs) false x ≡ true → step_in_scope nested (length reads) false (moved_step move inner x) ≡ true
    step_there inner (Sql st) h = statement_there st h
    step_there inner (AbortIf c code) h = query_there c.query h
    step_there inner (ForEach i body) h = and_from _ _ (still_there i (first_of_two _ _ h)) (each_there body (second_of_two _ _ h))
    step_there inner (Emit s q) h = by (list_any (λ i. i == s) inner)
      where
        by : (b : Bool) → step_in_scope nested (length reads) false (moved_emit move b s (moved_query move q)) ≡ true
        by true = and_from _ _ (first_of_two _ _ h) (query_there q (second_of_two _ _ h))
        by false = and_from _ _ (first_of_two _ _ h) (query_there q (second_of_two _ _ h))
    step_there inner (Local s q) h = and_from _ _ (first_of_two _ _ h) (query_there q (second_of_two _ _ h))
    step_there inner (Return q) h = query_there q h
