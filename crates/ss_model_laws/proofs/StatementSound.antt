-- Well typed statements on whole contents leave whole contents, or stage rows that fit.
use Rattle.std.proofs.Common.{◌≡◌, ℕ, pos, nat_lt, Bool, true, false, not, ◌||◌, ◌==◌, List, [], ◌∷◌, ◌++◌, map, get_or, set, length, slice_get, refl, sym, ap, ◌∙◌, subst, Some, None, Ok, is_some, unwrap_or}
use Rattle.std.proofs.lemmas.Bool.{ltb-true, and_from}
use Rattle.std.proofs.lemmas.Bool.Decides.{Decides-eqb}
use Rattle.std.proofs.lemmas.List.{get_or-set_other}
use Rattle.std.proofs.lemmas.Option.{get_or_from_slice_get}
use Rattle.std.specs.Option.{option_map}
use Rattle.std.specs.declared.option.Option.{Option}
use Rattle.std.specs.List.{AllByRecursion, flat_map, fold, list_all, list_any}
use Rattle.std.specs.FinMap as finmap
use Rattle.ss_lemmas.proofs.LoopItem.{some_at}
use Rattle.ss_lemmas.proofs.EachOf.{all_take}
use Rattle.ss_value.specs.declared.value.Value.{Value}
use Rattle.ss_value.specs.declared.value.Value.TheVariants.{Int}
use Rattle.ss_value.specs.declared.schema.Column.{Column}
use Rattle.ss_value.specs.Fit.{fits_kind, fits_schema}
use Rattle.ss_value.specs.Rows.{Row, Rows, column_values}
use Rattle.ss_sql_trees.specs.declared.typed.Expr.{Expr}
use Rattle.ss_sql_trees.specs.declared.typed.Joined.{Joined}
use Rattle.ss_sql_trees.specs.declared.typed.Query.{Query}
use Rattle.ss_sql_trees.specs.declared.typed.SetTo.{SetTo}
use Rattle.ss_sql_trees.specs.declared.typed.SourceId.{SourceId}
use Rattle.ss_sql_trees.specs.declared.typed.SourceId.TheVariants.{Table as FromTable, Window as FromWindow, Batch as FromBatch, Inserted}
use Rattle.ss_sql_trees.specs.declared.typed.Target.{Target}
use Rattle.ss_sql_trees.specs.declared.typed.Target.TheVariants.{Table as IntoTable, Window as IntoWindow}
use Rattle.ss_sql_trees.specs.declared.typed.Statement.{Statement}
use Rattle.ss_sql_trees.specs.declared.typed.Statement.TheVariants.{InsertValues, InsertQuery, Update, Delete}
use Rattle.ss_sql_trees.specs.WellTyped.{Schemas, column_type, has_type, schema_type, expr_type, types_fit, query_types, query_typed, is_among, sets_typed, statement_typed}
use Rattle.ss_model.specs.declared.catalog.Catalog.{Catalog}
use Rattle.ss_model.specs.declared.catalog.TableDef.{TableDef}
use Rattle.ss_model.specs.declared.catalog.WindowDef.{WindowDef}
use Rattle.ss_model.specs.Results.{OrAbort, ◌>>=◌, try_map, try_fold, WhenOk}
use Rattle.ss_model.specs.Expressions.{expr_value}
use Rattle.ss_model.specs.Queries.{where_passes, join_source}
use Rattle.ss_model.specs.Contents.{Window, Contents, table_at, window_units, window_def, default_window, key_columns, visible_table, visible_rows, visible_units, visible_count, kept_units, source_rows}
use Rattle.ss_model.specs.Statements.{Context, matching_entries, updated_row, update_rows, delete_rows, insert_row, context_query, StatementEffect, Wrote, Staged, insert_into, statement_effect}
use Rattle.ss_model.specs.Typing.{table_schema, window_schema, target_schema, input_schema, source_schema, schemas_of}
use Rattle.ss_model.specs.Scopes.{source_in_scope, join_in_scope, query_in_scope, statement_in_scope}
use Rattle.ss_model.specs.WholeDatabase.{unit_fits, WholeContents}
use Rattle.ss_model.specs.SoundRuns.{FitAll, JoinFits}
use Rattle.ss_lemmas.proofs.Bools.{first_of_two, second_of_two, some_same}
use Rattle.ss_model.proofs.CallerLemmas.{when_ok_then, when_ok_map, try_filter_when_ok, try_map_when_ok, anything}
use Rattle.ss_model_laws.proofs.TableRows.{of_entries, cut_there, EntryWhole}
use Rattle.ss_model_laws.proofs.ValueSound.{value_sound, fits_cons, fits_set}
use Rattle.ss_model_laws.proofs.QuerySound.{query_sound, all_append}
use Rattle.ss_model_laws.proofs.WholeChanges.{NewEntry, insert_whole, put_entries_whole, remove_entries_whole}

pub try_fold_when_ok : {A S : Type 0} (P : S → Type 0) (Q : A → Type 0) (f : A → S → OrAbort S) → ((x : A) → Q x → (s : S) → P s → WhenOk P (f x s)) → (xs : List A) → AllByRecursion Q xs → (s : S) → P s → WhenOk P (try_fold f xs s)
try_fold_when_ok P Q f h [] all s p = p
try_fold_when_ok P Q f h (x ∷ xs) all s p = when_ok_then P P (f x s) _ (h x all.0 s p) (λ t q. try_fold_when_ok P Q f h xs all.1 t q)

-- ---- lists

pub each_of : {A : Type 0} (test : A → Bool) (xs : List A) → list_all test xs ≡ true → AllByRecursion (λ x. test x ≡ true) xs
each_of test [] h = tt
each_of test (x ∷ xs) h = (first_of_two _ _ h, each_of test xs (second_of_two _ _ h))

pub all_test : {A : Type 0} (test : A → Bool) (xs : List A) → AllByRecursion (λ x. test x ≡ true) xs → list_all test xs ≡ true
all_test test [] h = refl
all_test test (x ∷ xs) h = and_from _ _ h.0 (all_test test xs h.1)

all_mapped : {A B : Type 0} (P : B → Type 0) (f : A → B) (xs : List A) → AllByRecursion (λ x. P (f x)) xs → AllByRecursion P (map f xs)
all_mapped P f [] h = tt
all_mapped P f (x ∷ xs) h = (h.0, all_mapped P f xs h.1)

all_flat : {A : Type 0} (P : A → Type 0) (xs : List (List A)) → AllByRecursion (AllByRecursion P) xs → AllByRecursion P (flat_map (λ u. u) xs)
all_flat P [] h = tt
all_flat P (x ∷ xs) h = all_append P x (flat_map (λ u. u) xs) h.0 (all_flat P xs h.1)

-- ---- sources

units_rows : (d : WindowDef) (us : Window) → list_all (unit_fits d) us ≡ true → AllByRecursion (FitAll d.schema) us
units_rows d [] h = tt
units_rows d (u ∷ us) h = (each_of (fits_schema d.schema) u (second_of_two _ _ (first_of_two _ _ h)), units_rows d us (second_of_two _ _ h))

-- what is at hand: the batches of so many inputs, and the rows that were just emitted
pub record AtHand (catalog : Catalog) (inputs : List ℕ) (count : ℕ) (has_inserted : Bool) (columns : List Column) (at_hand : List Rows) (rows : Rows) : Type 0 where
  pub batches : (i : ℕ) → nat_lt i count ≡ true → FitAll (input_schema catalog inputs [] i) (get_or at_hand i [])
  pub inserted : has_inserted ≡ true → FitAll columns rows

pub window_of : (catalog : Catalog) (w : ℕ) (d : WindowDef) → slice_get catalog.windows w ≡ Some d → window_def catalog w ≡ d
window_of catalog w d is = get_or_from_slice_get catalog.windows w d default_window is

module _ (context : Context) (inputs : List ℕ) (count : ℕ) (has_inserted : Bool) (columns : List Column) (inserted : Rows) (hand : AtHand context.catalog inputs count has_inserted columns context.batches inserted) where
  abbrev catalog : Catalog
  catalog = context.catalog

  abbrev rows_in : Contents → SourceId → Rows
  rows_in s = source_rows catalog context.split_value context.batches inserted s

  table_rows : (s : Contents) (t : ℕ) → WholeContents catalog s → nat_lt t (length catalog.tables) ≡ true → FitAll (table_schema catalog t) (finmap.values (visible_table catalog context.split_value s t))
  unfolding visible_table
  table_rows s t h scope =
      let (d, is) = some_at catalog.tables t (ltb-true _ _ scope) in
      subst (λ cs. FitAll cs (finmap.values (visible_table catalog context.split_value s t))) (sym (ap (λ o. unwrap_or (option_map (λ d. d.schema) o) []) is))
      (all_mapped (λ row. fits_schema d.schema row ≡ true) (λ e. e.1) _ (of_entries (λ q v. fits_schema d.schema v ≡ true) _ (λ q v f. (h.tables t d is).fits q v (cut_there _ _ q v f))))

  window_rows : (s : Contents) (w : ℕ) → WholeContents catalog s → nat_lt w (length catalog.windows) ≡ true → FitAll (window_schema catalog w) (visible_rows (window_def catalog w) (window_units s w))
  window_rows s w h scope =
      let (d, is) = some_at catalog.windows w (ltb-true _ _ scope) in
      subst (λ cs. FitAll cs (visible_rows (window_def catalog w) (window_units s w))) (sym (ap (λ o. unwrap_or (option_map (λ d. d.schema) o) []) is))
      (subst (λ z. FitAll d.schema (visible_rows z (window_units s w))) (sym (window_of catalog w d is))
      (all_flat (λ row. fits_schema d.schema row ≡ true) (visible_units d (window_units s w)) (all_take (FitAll d.schema) (visible_count d (length (window_units s w))) (kept_units d (window_units s w)) (units_rows d (kept_units d (window_units s w)) (h.windows w d is).units))))

  source_fits : (s : Contents) → WholeContents catalog s → (x : SourceId) → source_in_scope catalog count has_inserted x ≡ true → FitAll (source_schema catalog inputs columns x) (rows_in s x)
  source_fits s h (FromTable t) scope = table_rows s t h scope
  source_fits s h (FromWindow w) scope = window_rows s w h scope
  source_fits s h (FromBatch i) scope = hand.batches i scope
  source_fits s h Inserted scope = hand.inserted scope

  join_fits : (s : Contents) (params : List Column) → WholeContents catalog s → (from : SourceId) (j : Option Joined) → join_in_scope catalog count has_inserted from j ≡ true → JoinFits (schemas_of catalog inputs columns params) (join_source (rows_in s) j)
  join_fits s params h from None scope = tt
  join_fits s params h from (Some j) scope = source_fits s h j.source (first_of_two _ _ scope)

  pub query_fits : (s : Contents) (params : List Column) (row : Row) (q : Query) (into : List Column) → WholeContents catalog s → fits_schema params row ≡ true → query_in_scope catalog count has_inserted q ≡ true → query_typed (schemas_of catalog inputs columns params) q ≡ true → types_fit (query_types (schemas_of catalog inputs columns params) q) into ≡ true → WhenOk (FitAll into) (context_query context inserted row q s)
  query_fits s params row q into h args scope typed fit =
      query_sound (schemas_of catalog inputs columns params) (rows_in s) row q into args (source_fits s h q.from (first_of_two _ _ scope)) (join_fits s params h q.from q.joined (second_of_two _ _ scope)) typed fit

  -- ---- SETs

  -- a column and its new value: it fits, and is no column of the key
  abbrev SetFits : List Column → List ℕ → ℕ × Value → Type 0
  SetFits to key e = ((c : Column) → slice_get to e.0 ≡ Some c → fits_kind c.kind e.1 ≡ true) × (is_among key e.0 ≡ false)

  set_value : (to params : List Column) (row param : Row) (n : ℕ) (e : Expr) → fits_schema to row ≡ true → fits_schema params param ≡ true → has_type (schema_type to n) (expr_type (to ∷ []) params e) ≡ true → WhenOk (λ v. (c : Column) → slice_get to n ≡ Some c → fits_kind c.kind v ≡ true) (expr_value (row ∷ []) param e)
  set_value to params row param n e fits args typed = by (slice_get to n) refl
    where
      by : (o : Option Column) → slice_get to n ≡ o → WhenOk (λ v. (c : Column) → slice_get to n ≡ Some c → fits_kind c.kind v ≡ true) (expr_value (row ∷ []) param e)
      by None is = when_ok_map (λ _. Unit {0}) _ (expr_value (row ∷ []) param e) (λ v _ c f. let no : None ≡ Some c = sym is ∙ f in cc) (anything (expr_value (row ∷ []) param e))
      by (Some k) is =
          when_ok_map (λ v. fits_kind k.kind v ≡ true) _ (expr_value (row ∷ []) param e) (λ v one c f. subst (λ (c : Column). fits_kind c.kind v ≡ true) (some_same _ _ (sym is ∙ f)) one)
          (value_sound (to ∷ []) params (row ∷ []) param (and_from _ _ fits refl) args k.kind e (sym (ap (λ o. has_type (option_map (λ d. column_type d.kind) o) (expr_type (to ∷ []) params e)) is) ∙ typed))

  not_true : (b : Bool) → not b ≡ true → b ≡ false
  not_true true e = cc
  not_true false e = refl

  sets_fit : (s : Schemas) (to : List Column) (key earlier : List ℕ) (row param : Row) (sets : List SetTo) → fits_schema to row ≡ true → fits_schema s.params param ≡ true → sets_typed s to key earlier sets ≡ true → WhenOk (AllByRecursion (SetFits to key)) (try_map {B = ℕ × Value} (λ s. expr_value (row ∷ []) param s.value >>= λ v. Ok (s.column, v)) sets)
  sets_fit s to key earlier row param [] fits args typed = tt
  sets_fit s to key earlier row param (x ∷ sets) fits args typed =
      let front = first_of_two _ _ (first_of_two _ _ typed) in
      when_ok_then (SetFits to key) _ (expr_value (row ∷ []) param x.value >>= λ v. Ok (x.column, v)) _
      (when_ok_then _ (SetFits to key) (expr_value (row ∷ []) param x.value) _ (set_value to s.params row param x.column x.value fits args (first_of_two _ _ front)) (λ v one. (one, not_true _ (second_of_two _ _ front)))) (λ e one.
      when_ok_then (AllByRecursion (SetFits to key)) _ (try_map {B = ℕ × Value} (λ s. expr_value (row ∷ []) param s.value >>= λ v. Ok (s.column, v)) sets) _
      (sets_fit s to key (earlier ++ x.column ∷ []) row param sets fits args (second_of_two _ _ typed)) (λ es others. (one, others)))

  same_key : (key : List ℕ) (row : Row) (n : ℕ) (v : Value) → is_among key n ≡ false → column_values key (set row n v) ≡ column_values key row
  same_key [] row n v e = refl
  same_key (c ∷ key) row n v e = by (c == n) refl (same_key key row n v) e
    where
      by : (b : Bool) → (c == n) ≡ b → (is_among key n ≡ false → column_values key (set row n v) ≡ column_values key row) → (b || list_any (λ c. c == n) key) ≡ false → column_values (c ∷ key) (set row n v) ≡ column_values (c ∷ key) row
      by true t rest f = cc
      by false t rest f = λ i. get_or-set_other row n c v (Int (pos 0)) (λ same. let yes : true ≡ false = sym ((Decides-eqb c n).1 same) ∙ t in cc) i ∷ rest f i

  sets_keep : (to : List Column) (key : List ℕ) (es : List (ℕ × Value)) (row : Row) → fits_schema to row ≡ true → AllByRecursion (SetFits to key) es → (fits_schema to (fold (λ r e. set r e.0 e.1) row es) ≡ true) × (column_values key (fold (λ r e. set r e.0 e.1) row es) ≡ column_values key row)
  sets_keep to key [] row fits h = (fits, refl)
  sets_keep to key (e ∷ es) row fits h =
      let rest = sets_keep to key es (set row e.0 e.1) (fits_set to row e.0 e.1 fits (h.0).0) h.1 in
      (rest.0, rest.1 ∙ same_key key row e.0 e.1 (h.0).1)

  -- ---- statements

  update_whole : (s : Contents) (params : List Column) (param : Row) (t : ℕ) (sets : List SetTo) (test : Option Expr) → WholeContents catalog s → fits_schema params param ≡ true → sets_typed (schemas_of catalog inputs columns params) (table_schema catalog t) (key_columns (slice_get catalog.tables t)) [] sets ≡ true → WhenOk (WholeContents catalog) (update_rows context param t sets test s)
  unfolding update_rows visible_table
  update_whole s params param t sets test h args typed =
      when_ok_then (AllByRecursion (λ e. finmap.get (table_at s t) e.0 ≡ Some e.1)) _ (matching_entries param test (visible_table catalog context.split_value s t)) _
      (try_filter_when_ok _ (λ e. where_passes param test (e.1 ∷ [])) _ (of_entries (λ q v. finmap.get (table_at s t) q ≡ Some v) _ (λ q v f. cut_there _ _ q v f))) (λ old stand.
      when_ok_then (AllByRecursion (NewEntry catalog s t)) _ (try_map {B = Row × Row} (λ e. updated_row param sets e.1 >>= λ row. Ok (e.0, row)) old) _
      (try_map_when_ok _ (NewEntry catalog s t) (λ e. updated_row param sets e.1 >>= λ row. Ok (e.0, row)) one old stand) (λ new fit. put_entries_whole catalog s t new h fit))
    where
      made : (d : TableDef) → slice_get catalog.tables t ≡ Some d → (e : Row × Row) → finmap.get (table_at s t) e.0 ≡ Some e.1 → WhenOk (λ row. EntryWhole d (e.0, row)) (updated_row param sets e.1)
      made d is e stands =
          let was = h.tables t d is in
          let fits : fits_schema d.schema e.1 ≡ true = was.fits e.0 e.1 stands in
          when_ok_then (AllByRecursion (SetFits d.schema d.key)) _ (try_map {B = ℕ × Value} (λ s. expr_value (e.1 ∷ []) param s.value >>= λ v. Ok (s.column, v)) sets) _
          (sets_fit (schemas_of catalog inputs columns params) d.schema d.key [] e.1 param sets fits args (sym (λ i. sets_typed (schemas_of catalog inputs columns params) (unwrap_or (option_map (λ d. d.schema) (is i)) []) (key_columns (is i)) [] sets) ∙ typed)) (λ vs h.
          let kept = sets_keep d.schema d.key vs e.1 fits h in
          (kept.0, was.keyed e.0 e.1 stands ∙ sym kept.1))

      one : (e : Row × Row) → finmap.get (table_at s t) e.0 ≡ Some e.1 → WhenOk (NewEntry catalog s t) (updated_row param sets e.1 >>= λ row. Ok (e.0, row))
      one e stands = by (slice_get catalog.tables t) refl
        where
          by : (o : Option TableDef) → slice_get catalog.tables t ≡ o → WhenOk (NewEntry catalog s t) (updated_row param sets e.1 >>= λ row. Ok (e.0, row))
          by None is = when_ok_then (λ _. Unit {0}) _ (updated_row param sets e.1) _ (anything (updated_row param sets e.1)) (λ row _ d f. let no : None ≡ Some d = sym is ∙ f in cc)
          by (Some k) is = when_ok_then _ _ (updated_row param sets e.1) _ (made k is e stands) (λ row whole d f. (subst (λ d. EntryWhole d (e.0, row)) (some_same _ _ (sym is ∙ f)) whole, ap is_some stands))

  delete_whole : (s : Contents) (param : Row) (t : ℕ) (test : Option Expr) → WholeContents catalog s → WhenOk (WholeContents catalog) (delete_rows context param t test s)
  unfolding delete_rows
  delete_whole s param t test h =
      when_ok_then (λ _. Unit {0}) _ (matching_entries param test (visible_table catalog context.split_value s t)) _ (anything (matching_entries param test (visible_table catalog context.split_value s t))) (λ old _. remove_entries_whole catalog s t old h)

  -- whole contents, or rows that fit the window
  abbrev pub EffectWhole : StatementEffect → Type 0
  EffectWhole (Wrote s) = WholeContents catalog s
  EffectWhole (Staged n rows) = FitAll (window_schema catalog n) rows

  insert_into_whole : (target : Target) (rows : Rows) (s : Contents) → WholeContents catalog s → FitAll (target_schema catalog target) rows → WhenOk EffectWhole (insert_into context target rows s)
  insert_into_whole (IntoTable t) rows s h fits =
      when_ok_then (WholeContents catalog) EffectWhole (try_fold (insert_row catalog t) rows s) _
      (try_fold_when_ok (WholeContents catalog) (λ row. fits_schema (table_schema catalog t) row ≡ true) (insert_row catalog t) (λ row f z k. insert_whole catalog t row z k f) rows fits s h) (λ z k. k)
  insert_into_whole (IntoWindow n) rows s h fits = fits

  values_fit : (params : List Column) (param : Row) (values : List Expr) (into : List Column) → fits_schema params param ≡ true → types_fit (map (expr_type [] params) values) into ≡ true → WhenOk (λ row. fits_schema into row ≡ true) (try_map (expr_value [] param) values)
  values_fit params param [] [] args fit = refl
  values_fit params param [] (c ∷ into) args fit = cc
  values_fit params param (e ∷ values) [] args fit = cc
  values_fit params param (e ∷ values) (c ∷ into) args fit =
      when_ok_then (λ v. fits_kind c.kind v ≡ true) _ (expr_value [] param e) _ (value_sound [] params [] param refl args c.kind e (first_of_two _ _ fit)) (λ v one.
      when_ok_then (λ row. fits_schema into row ≡ true) _ (try_map (expr_value [] param) values) _ (values_fit params param values into args (second_of_two _ _ fit)) (λ vs others. fits_cons c into v vs one others))

  pub effect_whole : (params : List Column) (param : Row) (st : Statement) (s : Contents) → WholeContents catalog s → fits_schema params param ≡ true → statement_in_scope catalog count has_inserted st ≡ true → statement_typed (schemas_of catalog inputs columns params) st ≡ true → WhenOk EffectWhole (statement_effect context inserted param st s)
  effect_whole params param (InsertValues target values) s h args scope typed =
      when_ok_then _ EffectWhole (try_map (expr_value [] param) values) _ (values_fit params param values (target_schema catalog target) args typed) (λ row fits. insert_into_whole target (row ∷ []) s h (fits, tt))
  effect_whole params param (InsertQuery target q) s h args scope typed =
      when_ok_then _ EffectWhole (context_query context inserted param q s) _ (query_fits s params param q (target_schema catalog target) h args (second_of_two _ _ scope) (first_of_two _ _ typed) (second_of_two _ _ typed)) (λ rows fits. insert_into_whole target rows s h fits)
  effect_whole params param (Update t sets test) s h args scope typed =
      when_ok_then (WholeContents catalog) EffectWhole (update_rows context param t sets test s) _ (update_whole s params param t sets test h args (first_of_two _ _ typed)) (λ z k. k)
  effect_whole params param (Delete t test) s h args scope typed =
      when_ok_then (WholeContents catalog) EffectWhole (delete_rows context param t test s) _ (delete_whole s param t test h) (λ z k. k)
