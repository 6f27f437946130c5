-- A body of an accepted catalogue on whole contents leaves whole contents, and batches that fit.
use Rattle.std.proofs.Common.{◌≡◌, ◌≤◌, ◌<◌, ◌+◌, ◌^◌, ℕ, ℤ, zero, suc, nat_lt, nat_le, Bool, true, false, not, ◌&&◌, ◌==◌, List, [], ◌∷◌, ◌++◌, map, get_or, set, length, replicate, slice_get, refl, sym, ap, subst, Some, None, Ok, Err, unwrap_or, arith}
use Rattle.std.proofs.lemmas.Bool.{ltb-true, ltb-false, le-leb, and_from}
use Rattle.std.proofs.lemmas.Bool.Decides.{Decides-eqb}
use Rattle.std.proofs.lemmas.List.{length-append}
use Rattle.std.specs.Option.{option_map}
use Rattle.std.specs.declared.option.Option.{Option}
use Rattle.std.specs.List.{AllByRecursion, filter, list_all, range_with_len}
use Rattle.ss_value.specs.declared.schema.Column.{Column}
use Rattle.ss_value.specs.declared.Unit.{Unit as UnitKind}
use Rattle.ss_value.specs.declared.Unit.TheVariants.{Rows as RowsUnit, Batches as BatchesUnit}
use Rattle.ss_value.specs.Fit.{fits_schema}
use Rattle.ss_value.specs.Rows.{Row, Rows, column_value}
use Rattle.ss_value.specs.Order.{value_cmp}
use Rattle.ss_sql_trees.specs.declared.typed.Condition.{Condition}
use Rattle.ss_sql_trees.specs.declared.typed.Statement.{Statement}
use Rattle.ss_sql_trees.specs.WellTyped.{statement_typed}
use Rattle.ss_model.specs.declared.catalog.Catalog.{Catalog}
use Rattle.ss_model.specs.declared.catalog.Inner.{Inner}
use Rattle.ss_model.specs.declared.catalog.Inner.TheVariants.{Sql as InnerSql, AbortIf as InnerAbortIf}
use Rattle.ss_model.specs.declared.catalog.On.{On}
use Rattle.ss_model.specs.declared.catalog.On.TheVariants.{Stream as OnStream, Window as OnWindow}
use Rattle.ss_model.specs.declared.catalog.Procedure.{Procedure}
use Rattle.ss_model.specs.declared.catalog.Step.{Step}
use Rattle.ss_model.specs.declared.catalog.Step.TheVariants.{Sql, AbortIf, ForEach, Emit, Local, Return}
use Rattle.ss_model.specs.declared.catalog.TriggerDef.{TriggerDef}
use Rattle.ss_model.specs.declared.catalog.WindowDef.{WindowDef}
use Rattle.ss_model.specs.declared.entry.Reason.TheVariants.{Raised, BatchFull, ReplyFull, WindowFull}
use Rattle.ss_model.specs.Results.{OrAbort, try_fold, and_behind, WhenOk}
use Rattle.ss_model.specs.Expressions.{cmp_holds, expr_value}
use Rattle.ss_model.specs.Contents.{Contents, window_units, append_unit, window_def, visible_end}
use Rattle.ss_model.specs.Statements.{Context, Execution, Cascade, when_moved, close_unit, stage_by_unit, stage_row, context_query, StatementEffect, Wrote, Staged, apply_effect, statement_effect, execute_statement, run_triggers, cascade_to_depth, trigger_cascade, is_on_window, is_on_stream}
use Rattle.ss_model.specs.Bodies.{exceeds_row_limit, check_condition, execute_abort_if, execute_inner, emit_rows, step_on, batches_so_far, execute_step, is_batches_unit, is_closed_by, owned_batch_windows, close_window, execution_start, run_body}
use Rattle.ss_model.specs.Database.{body_result, run_procedure, split_value_for, stream_schema, streams_read, Database, present}
use Rattle.ss_model.specs.Typing.{window_schema, input_schema, schemas_of, inner_typed, step_typed, trigger_schema, trigger_typed, procedure_typed, catalog_typed}
use Rattle.ss_model.specs.Scopes.{statement_in_scope, inner_in_scope, step_in_scope, is_on_a_stream, trigger_in_scope, procedure_in_scope, catalog_in_scope}
use Rattle.ss_model.specs.WholeDatabase.{has_unit_size, unit_fits, WholeContents, batch_fits}
use Rattle.ss_model.specs.SoundRuns.{FitAll, WholeResult}
use Rattle.ss_model_kept.proofs.CallerLemmas.{set_one, filter_passes}
use Rattle.ss_lemmas.proofs.Bools.{first_of_two, second_of_two, some_same, at_index, each_filtered}
use Rattle.ss_model.proofs.CallerLemmas.{behind_is, when_ok_then, anything}
use Rattle.ss_model_laws.proofs.QuerySound.{all_append}
use Rattle.ss_model_laws.proofs.WholeChanges.{when_ok_unless, append_whole}
use Rattle.ss_model_laws.proofs.StatementSound.{AtHand, try_fold_when_ok, each_of, all_test, query_fits, EffectWhole, effect_whole}
use Rattle.ss_model.specs.Accepted.{Accepted}
use Rattle.ss_model_laws.proofs.Present.{present_accepted}

-- contents that are whole, units and batches whose rows fit
pub record WholeExecution (catalog : Catalog) (w : Execution) : Type 0 where
  pub contents : WholeContents catalog w.contents
  pub open_units : (n : ℕ) → FitAll (window_schema catalog n) (get_or w.open_units n [])
  pub emitted : (s : ℕ) → batch_fits (stream_schema catalog s) (get_or w.emitted s []) ≡ true

single_row : (k : UnitKind) (row : Row) → has_unit_size k (row ∷ []) ≡ true
single_row RowsUnit row = refl
single_row BatchesUnit row = refl

-- a test of all twice, as one
all_both : {A : Type 0} (f g : A → Bool) (xs : List A) → list_all f xs ≡ true → list_all g xs ≡ true → list_all (λ x. f x && g x) xs ≡ true
all_both f g [] h k = refl
all_both f g (x ∷ xs) h k = and_from _ _ (and_from (f x) (g x) (first_of_two (f x) (list_all f xs) h) (first_of_two (g x) (list_all g xs) k)) (all_both f g xs (second_of_two (f x) (list_all f xs) h) (second_of_two (g x) (list_all g xs) k))

-- what passes the test of a filter
module _ (catalog : Catalog) where
  -- triggers that keep executions whole
  abbrev pub CascadeWhole : Cascade → Type 0
  CascadeWhole cascade = (n : ℕ) (w : Execution) → WholeExecution catalog w → WhenOk (WholeExecution catalog) (cascade n w)

  with_contents : (w : Execution) (s : Contents) → WholeExecution catalog w → WholeContents catalog s → WholeExecution catalog (record w { contents = s })
  with_contents w s h k = record { contents = k; open_units = h.open_units; emitted = h.emitted }

  moved_whole : (b : Bool) (fire : Execution → OrAbort Execution) (w : Execution) → WholeExecution catalog w → ((w : Execution) → WholeExecution catalog w → WhenOk (WholeExecution catalog) (fire w)) → WhenOk (WholeExecution catalog) (when_moved b fire w)
  moved_whole true fire w h k = k w h
  moved_whole false fire w h k = h

  close_whole : (cascade : Cascade) → CascadeWhole cascade → (n : ℕ) (unit : Rows) (w : Execution) → WholeExecution catalog w → ((d : WindowDef) → slice_get catalog.windows n ≡ Some d → unit_fits d unit ≡ true) → WhenOk (WholeExecution catalog) (close_unit catalog cascade n unit w)
  unfolding close_unit
  close_whole cascade fires n unit w h fits =
      let k = length (window_units w.contents n) in
      let closed : Execution = record w { contents = append_unit w.contents n unit } in
      let moved = not (visible_end (window_def catalog n) k == visible_end (window_def catalog n) (suc k)) in
      when_ok_unless (WholeExecution catalog) (nat_le (2 ^ 62) k) (WindowFull n) (when_moved moved (cascade n) closed) (λ room.
      moved_whole moved (cascade n) closed (with_contents w (append_unit w.contents n unit) h (append_whole catalog w.contents n unit h.contents fits room)) (fires n))

  schema_is : (n : ℕ) (d : WindowDef) → slice_get catalog.windows n ≡ Some d → window_schema catalog n ≡ d.schema
  schema_is n d is = ap (λ o. unwrap_or (option_map (λ d. d.schema) o) []) is

  stage_by_whole : (cascade : Cascade) → CascadeWhole cascade → (k : UnitKind) (n : ℕ) (row : Row) (w : Execution) → WholeExecution catalog w → fits_schema (window_schema catalog n) row ≡ true → WhenOk (WholeExecution catalog) (stage_by_unit k catalog cascade n row w)
  stage_by_whole cascade fires RowsUnit n row w h fits =
      close_whole cascade fires n (row ∷ []) w h (λ d is. and_from _ _ (single_row d.unit row) (and_from _ _ (subst (λ cs. fits_schema cs row ≡ true) (schema_is n d is) fits) refl))
  stage_by_whole cascade fires BatchesUnit n row w h fits = record {
    contents = h.contents;
    open_units = λ m. set_one (FitAll (window_schema catalog m)) w.open_units n m _ [] (h.open_units m) (λ e. subst (λ z. FitAll (window_schema catalog z) (get_or w.open_units n [] ++ row ∷ [])) e (all_append _ (get_or w.open_units n []) (row ∷ []) (h.open_units n) (fits, tt)));
    emitted = h.emitted;
  }

  staged_whole : (cascade : Cascade) → CascadeWhole cascade → (n : ℕ) (rows : Rows) (w : Execution) → WholeExecution catalog w → FitAll (window_schema catalog n) rows → WhenOk (WholeExecution catalog) (try_fold (stage_row catalog cascade n) rows w)
  staged_whole cascade fires n rows w h fits =
      try_fold_when_ok (WholeExecution catalog) (λ row. fits_schema (window_schema catalog n) row ≡ true) (stage_row catalog cascade n) (λ row f v k. stage_by_whole cascade fires ((window_def catalog n).unit) n row v k f) rows fits w h

module _ (context : Context) (typed : catalog_typed context.catalog ≡ true) (in_scope : catalog_in_scope context.catalog ≡ true) where
  abbrev catalog : Catalog
  catalog = context.catalog

  abbrev Whole : Execution → Type 0
  Whole = WholeExecution catalog

  module _ (inputs : List ℕ) (count : ℕ) (has_inserted : Bool) (columns : List Column) (inserted : Rows) (hand : AtHand catalog inputs count has_inserted columns context.batches inserted) (cascade : Cascade) (fires : CascadeWhole catalog cascade) where
    effect_applied : (w : Execution) (x : StatementEffect) → Whole w → EffectWhole context inputs count has_inserted columns inserted hand x → WhenOk Whole (apply_effect catalog cascade w x)
    effect_applied w (Wrote s) h k = with_contents catalog w s h k
    effect_applied w (Staged n rows) h k = staged_whole catalog cascade fires n rows w h k

    statement_whole : (params : List Column) (param : Row) (st : Statement) (w : Execution) → Whole w → fits_schema params param ≡ true → statement_in_scope catalog count has_inserted st ≡ true → statement_typed (schemas_of catalog inputs columns params) st ≡ true → WhenOk Whole (execute_statement context cascade inserted param st w)
    statement_whole params param st w h args scope types =
        when_ok_then (EffectWhole context inputs count has_inserted columns inserted hand) Whole (statement_effect context inserted param st w.contents) _ (effect_whole context inputs count has_inserted columns inserted hand params param st w.contents h.contents args scope types) (λ x k. effect_applied w x h k)

  -- ---- triggers

  -- statements that are typed and in scope, on such rows
  abbrev StatementsRight : Bool → List Column → List Statement → Type 0
  StatementsRight has_inserted columns sts = list_all (λ st. statement_in_scope catalog 0 has_inserted st && statement_typed (schemas_of catalog [] columns []) st) sts ≡ true

  no_batches : (has_inserted : Bool) (columns : List Column) (inserted : Rows) → (has_inserted ≡ true → FitAll columns inserted) → AtHand catalog [] 0 has_inserted columns context.batches inserted
  no_batches has_inserted columns inserted h = record { batches = λ i e. let below : i < 0 = ltb-true _ _ e in absurd (omega arith); inserted = h }

  triggers_whole : (has_inserted : Bool) (columns : List Column) (inserted : Rows) → (has_inserted ≡ true → FitAll columns inserted) → (cascade : Cascade) → CascadeWhole catalog cascade → (ts : List TriggerDef) → AllByRecursion (λ t. StatementsRight has_inserted columns t.statements) ts → (w : Execution) → Whole w → WhenOk Whole (run_triggers context cascade inserted ts w)
  triggers_whole has_inserted columns inserted rows cascade fires ts right w h =
      try_fold_when_ok Whole (λ t. StatementsRight has_inserted columns t.statements) (λ t. try_fold (execute_statement context cascade inserted []) t.statements) (λ t r v k.
      try_fold_when_ok Whole (λ st. (statement_in_scope catalog 0 has_inserted st && statement_typed (schemas_of catalog [] columns []) st) ≡ true) (execute_statement context cascade inserted []) (λ st q u z.
      statement_whole [] 0 has_inserted columns inserted (no_batches has_inserted columns inserted rows) cascade fires [] [] st u z refl (first_of_two _ _ q) (second_of_two _ _ q)) t.statements (each_of _ t.statements r) v k) ts right w h

  abbrev trigger_right : TriggerDef → Bool
  trigger_right t = trigger_typed catalog t && trigger_in_scope catalog t

  all_right : list_all trigger_right catalog.triggers ≡ true
  all_right = all_both (trigger_typed catalog) (trigger_in_scope catalog) catalog.triggers (second_of_two _ _ typed) (second_of_two _ _ in_scope)

  statements_right : (on : On) (sts : List Statement) → list_all (statement_typed (schemas_of catalog [] (trigger_schema catalog on) [])) sts ≡ true → list_all (statement_in_scope catalog 0 (is_on_a_stream on)) sts ≡ true → StatementsRight (is_on_a_stream on) (trigger_schema catalog on) sts
  statements_right on sts t s = all_both _ _ sts s t

  on_window : (n : ℕ) (on : On) (sts : List Statement) → is_on_window n on ≡ true → StatementsRight (is_on_a_stream on) (trigger_schema catalog on) sts → StatementsRight false [] sts
  on_window n (OnWindow m) sts e r = r
  on_window n (OnStream m) sts e r = cc

  on_stream : (n : ℕ) (on : On) (sts : List Statement) → is_on_stream n on ≡ true → StatementsRight (is_on_a_stream on) (trigger_schema catalog on) sts → StatementsRight true (stream_schema catalog n) sts
  on_stream n (OnStream m) sts e r = subst (λ z. StatementsRight true (stream_schema catalog z) sts) (sym ((Decides-eqb n m).0 e)) r
  on_stream n (OnWindow m) sts e r = cc

  window_right : (n : ℕ) → AllByRecursion (λ t. StatementsRight false [] t.statements) (filter (λ t. is_on_window n t.on) catalog.triggers)
  window_right n = each_filtered (λ (t : TriggerDef). StatementsRight false [] t.statements) (λ t. is_on_window n t.on) trigger_right (λ t e r. on_window n t.on t.statements e (statements_right t.on t.statements (first_of_two _ _ r) (second_of_two _ _ r))) catalog.triggers all_right

  stream_right : (n : ℕ) → AllByRecursion (λ t. StatementsRight true (stream_schema catalog n) t.statements) (filter (λ t. is_on_stream n t.on) catalog.triggers)
  stream_right n = each_filtered (λ (t : TriggerDef). StatementsRight true (stream_schema catalog n) t.statements) (λ t. is_on_stream n t.on) trigger_right (λ t e r. on_stream n t.on t.statements e (statements_right t.on t.statements (first_of_two _ _ r) (second_of_two _ _ r))) catalog.triggers all_right

  nested_whole : (depth : ℕ) → CascadeWhole catalog (cascade_to_depth depth context)
  nested_whole zero n w h = h
  nested_whole (suc depth) n w h = triggers_whole false [] [] (λ e. tt) (cascade_to_depth depth context) (nested_whole depth) _ (window_right n) w h

  cascade_whole : CascadeWhole catalog (trigger_cascade context)
  cascade_whole = nested_whole (length catalog.windows)

  -- ---- steps

  batch_grown : (columns : List Column) (old rows : Rows) → batch_fits columns old ≡ true → FitAll columns rows → exceeds_row_limit old rows ≡ false → batch_fits columns (old ++ rows) ≡ true
  batch_grown columns old rows h fits room =
      let most : length old + length rows ≤ 1024 = ltb-false _ _ room in
      let total : length (old ++ rows) ≡ length old + length rows = length-append old rows in
      and_from _ _ (le-leb _ _ (omega arith)) (all_test _ (old ++ rows) (all_append _ old rows (each_of _ old (second_of_two _ _ h)) fits))

  emit_whole : (s : ℕ) (rows : Rows) (w : Execution) → Whole w → FitAll (stream_schema catalog s) rows → WhenOk Whole (emit_rows context s rows w)
  emit_whole s rows w h fits =
      let old = get_or w.emitted s [] in
      let emitting : Execution = record w { emitted = set w.emitted s (old ++ rows) } in
      when_ok_unless Whole (exceeds_row_limit old rows) (BatchFull s) (run_triggers context (trigger_cascade context) rows (filter (λ t. is_on_stream s t.on) catalog.triggers) emitting) (λ room.
      triggers_whole true (stream_schema catalog s) rows (λ e. fits) (trigger_cascade context) cascade_whole _ (stream_right s) emitting (record {
        contents = h.contents;
        open_units = h.open_units;
        emitted = λ z. set_one (λ b. batch_fits (stream_schema catalog z) b ≡ true) w.emitted s z _ [] (h.emitted z) (λ e. subst (λ x. batch_fits (stream_schema catalog x) (old ++ rows) ≡ true) e (batch_grown (stream_schema catalog s) old rows (h.emitted s) fits room));
      }))

  condition_whole : (param : Row) (c : Condition) (code : ℤ) (rows : Rows) (w : Execution) → Whole w → WhenOk Whole (check_condition param c code rows w)
  condition_whole param c code [] w h = tt
  condition_whole param c code (row ∷ []) w h = when_ok_then (λ _. Unit {0}) Whole (expr_value [] param c.right) _ (anything (expr_value [] param c.right)) (λ v _. when_ok_unless Whole (cmp_holds c.cmp (value_cmp (column_value row 0) v)) (Raised code) (Ok w) (λ e. h))
  condition_whole param c code (row ∷ more ∷ rows) w h = tt

  abort_if_whole : (param : Row) (c : Condition) (code : ℤ) (w : Execution) → Whole w → WhenOk Whole (execute_abort_if context param c code w)
  abort_if_whole param c code w h = when_ok_then (λ _. Unit {0}) Whole (context_query context [] param c.query w.contents) _ (anything (context_query context [] param c.query w.contents)) (λ rows _. condition_whole param c code rows w h)

  -- ---- the body

  none_at : {A : Type 0} (n i : ℕ) → get_or (replicate {A = List A} n []) i [] ≡ []
  none_at zero i = refl
  none_at (suc n) zero = refl
  none_at (suc n) (suc i) = none_at n i

  start_whole : (s : Contents) → WholeContents catalog s → Whole (execution_start catalog s)
  start_whole s h = record {
    contents = h;
    open_units = λ n. subst (FitAll (window_schema catalog n)) (sym (none_at (length catalog.windows) n)) tt;
    emitted = λ n. subst (λ b. batch_fits (stream_schema catalog n) b ≡ true) (sym (none_at (length catalog.streams) n)) refl;
  }

  closed_kind : (o : Option WindowDef) (d : WindowDef) (unit : Rows) → o ≡ Some d → is_closed_by context.procedure o ≡ true → has_unit_size d.unit unit ≡ true
  closed_kind None d unit is e = cc
  closed_kind (Some k) d unit is e = subst (λ (z : WindowDef). has_unit_size z.unit unit ≡ true) (some_same _ _ is) (by k.unit (second_of_two _ _ e))
    where
      by : (k : UnitKind) → is_batches_unit k ≡ true → has_unit_size k unit ≡ true
      by RowsUnit e = cc
      by BatchesUnit e = refl

  none_open : (n : ℕ) (w : Execution) → Whole w → Whole (record w { open_units = set w.open_units n [] })
  none_open n w h = record {
    contents = h.contents;
    open_units = λ m. set_one (FitAll (window_schema catalog m)) w.open_units n m [] [] (h.open_units m) (λ e. tt);
    emitted = h.emitted;
  }

  closed_whole : (n : ℕ) → is_closed_by context.procedure (slice_get catalog.windows n) ≡ true → (w : Execution) → Whole w → WhenOk Whole (close_window context n w)
  closed_whole n e w h = close_whole catalog (trigger_cascade context) cascade_whole n (get_or w.open_units n []) (record w { open_units = set w.open_units n [] }) (none_open n w h) (λ d is.
      and_from _ _ (closed_kind (slice_get catalog.windows n) d (get_or w.open_units n []) is e) (all_test _ (get_or w.open_units n []) (subst (λ cs. FitAll cs (get_or w.open_units n [])) (schema_is catalog n d is) (h.open_units n))))

  module _ (p : Procedure) (right : procedure_typed catalog p ≡ true) (scope : procedure_in_scope catalog p ≡ true) (args : fits_schema p.args context.args ≡ true) (inputs : (i : ℕ) → FitAll (input_schema catalog (streams_read p) [] i) (get_or context.batches i [])) where
    hand : AtHand catalog (streams_read p) (length (streams_read p)) false [] context.batches []
    hand = record { batches = λ i e. inputs i; inserted = λ e. tt }

    sql_whole : (params : List Column) (param : Row) (st : Statement) (w : Execution) → Whole w → fits_schema params param ≡ true → statement_in_scope catalog (length (streams_read p)) false st ≡ true → statement_typed (schemas_of catalog (streams_read p) [] params) st ≡ true → WhenOk Whole (execute_statement context (trigger_cascade context) [] param st w)
    sql_whole = statement_whole (streams_read p) (length (streams_read p)) false [] [] hand (trigger_cascade context) cascade_whole

    inner_whole : (params : List Column) (param : Row) (x : Inner) (w : Execution) → Whole w → fits_schema params param ≡ true → inner_in_scope catalog (length (streams_read p)) false x ≡ true → inner_typed catalog (streams_read p) [] params x ≡ true → WhenOk Whole (execute_inner context param x w)
    inner_whole params param (InnerSql st) w h fits s t = sql_whole params param st w h fits s t
    inner_whole params param (InnerAbortIf c code) w h fits s t = abort_if_whole param c code w h

    abbrev in_scope_inner : Inner → Bool
    in_scope_inner = inner_in_scope catalog (length (streams_read p)) false

    abbrev typed_inner : ℕ → Inner → Bool
    typed_inner input = inner_typed catalog (streams_read p) [] (input_schema catalog (streams_read p) [] input)

    for_each_whole : (input : ℕ) (body : List Inner) (w : Execution) → Whole w → list_all in_scope_inner body ≡ true → list_all (typed_inner input) body ≡ true → WhenOk Whole (step_on context (ForEach input body) w)
    for_each_whole input body w h scopes types =
        try_fold_when_ok Whole (λ row. fits_schema (input_schema catalog (streams_read p) [] input) row ≡ true) (λ row. try_fold (execute_inner context row) body) (λ row f v k.
        try_fold_when_ok Whole (λ x. (in_scope_inner x && typed_inner input x) ≡ true) (execute_inner context row) (λ x q u z.
        inner_whole (input_schema catalog (streams_read p) [] input) row x u z f (first_of_two _ _ q) (second_of_two _ _ q)) body (each_of _ body (all_both in_scope_inner (typed_inner input) body scopes types)) v k) (get_or context.batches input []) (inputs input) w h

    step_on_whole : (x : Step) (w : Execution) → Whole w → (step_in_scope catalog (length (streams_read p)) false x && step_typed catalog (streams_read p) [] p.args x) ≡ true → WhenOk Whole (step_on context x w)
    step_on_whole (Sql st) w h r = sql_whole p.args context.args st w h args (first_of_two _ _ r) (second_of_two _ _ r)
    step_on_whole (AbortIf c code) w h r = abort_if_whole context.args c code w h
    step_on_whole (ForEach input body) w h r =
        for_each_whole input body w h (second_of_two (nat_lt input (length (streams_read p))) (list_all (in_scope_inner) body) (first_of_two (step_in_scope catalog (length (streams_read p)) false (ForEach input body)) (step_typed catalog (streams_read p) [] p.args (ForEach input body)) r))
        (second_of_two (nat_lt input (length (streams_read p))) (list_all (typed_inner input) body) (second_of_two (step_in_scope catalog (length (streams_read p)) false (ForEach input body)) (step_typed catalog (streams_read p) [] p.args (ForEach input body)) r))
    step_on_whole (Emit s q) w h r =
        when_ok_then (FitAll (stream_schema catalog s)) Whole (context_query context [] context.args q w.contents) _
        (query_fits context (streams_read p) (length (streams_read p)) false [] [] hand w.contents p.args context.args q (stream_schema catalog s) h.contents args (second_of_two _ _ (first_of_two _ _ r)) (first_of_two _ _ (second_of_two _ _ r)) (second_of_two _ _ (second_of_two _ _ r))) (λ rows fits. emit_whole s rows w h fits)
    step_on_whole (Local s q) w h r =
        when_ok_then (FitAll (stream_schema catalog s)) Whole (context_query context [] context.args q w.contents) _
        (query_fits context (streams_read p) (length (streams_read p)) false [] [] hand w.contents p.args context.args q (stream_schema catalog s) h.contents args (second_of_two _ _ (first_of_two _ _ r)) (first_of_two _ _ (second_of_two _ _ r)) (second_of_two _ _ (second_of_two _ _ r))) (λ rows fits. emit_whole s rows w h fits)
    step_on_whole (Return q) w h r =
        when_ok_then (λ _. Unit {0}) Whole (context_query context [] context.args q w.contents) _ (anything (context_query context [] context.args q w.contents)) (λ rows _.
        when_ok_unless Whole (exceeds_row_limit w.reply rows) ReplyFull (Ok (record w { reply = w.reply ++ rows })) (λ e. record { contents = h.contents; open_units = h.open_units; emitted = h.emitted }))

-- the batches of the inner streams fit too, behind those of the inputs
inner_fit : (catalog : Catalog) (g : ℕ → Rows) → ((s : ℕ) → FitAll (stream_schema catalog s) (g s)) → (inner : List ℕ) (i : ℕ) → FitAll (unwrap_or (option_map (stream_schema catalog) (slice_get inner i)) []) (get_or (map g inner) i [])
inner_fit catalog g h [] i = tt
inner_fit catalog g h (s ∷ ss) zero = h s
inner_fit catalog g h (s ∷ ss) (suc i) = inner_fit catalog g h ss i

all_fit : (catalog : Catalog) (g : ℕ → Rows) → ((s : ℕ) → FitAll (stream_schema catalog s) (g s)) → (inner : List ℕ) (batches : List Rows) (inputs : List ℕ) → length batches ≡ length inputs →
    ((i : ℕ) → FitAll (unwrap_or (option_map (stream_schema catalog) (slice_get inputs i)) []) (get_or batches i [])) →
    (i : ℕ) → FitAll (unwrap_or (option_map (stream_schema catalog) (slice_get (inputs ++ inner) i)) []) (get_or (batches ++ map g inner) i [])
all_fit catalog g h inner [] [] l k i = inner_fit catalog g h inner i
all_fit catalog g h inner [] (t ∷ ts) l k i = absurd (omega arith)
all_fit catalog g h inner (b ∷ bs) [] l k i = absurd (omega arith)
all_fit catalog g h inner (b ∷ bs) (t ∷ ts) l k zero = k 0
all_fit catalog g h inner (b ∷ bs) (t ∷ ts) l k (suc i) = all_fit catalog g h inner bs ts (omega arith) (λ i. k (suc i)) i

module _
    (context : Context) (typed : catalog_typed context.catalog ≡ true) (in_scope : catalog_in_scope context.catalog ≡ true)
    (p : Procedure) (right : procedure_typed context.catalog p ≡ true) (scope : procedure_in_scope context.catalog p ≡ true) (args : fits_schema p.args context.args ≡ true)
    (inner_is : context.inner ≡ p.inner) (count : length context.batches ≡ length p.inputs) (inputs : (i : ℕ) → FitAll (input_schema context.catalog p.inputs [] i) (get_or context.batches i []))
  where
    abbrev AllWhole : Execution → Type 0
    AllWhole = WholeExecution context.catalog

    so_far : (w : Execution) → AllWhole w → (i : ℕ) → FitAll (input_schema context.catalog (streams_read p) [] i) (get_or (batches_so_far context w) i [])
    so_far w h i =
        let g : ℕ → Rows = λ s. get_or w.emitted s [] in
        let fits : (s : ℕ) → FitAll (stream_schema context.catalog s) (g s) = λ s. each_of _ (g s) (second_of_two _ _ (h.emitted s)) in
        subst (λ z. FitAll (input_schema context.catalog (streams_read p) [] i) (get_or (and_behind context.batches (map g z)) i [])) (sym inner_is)
        (subst (λ (z : List ℕ). FitAll (input_schema context.catalog z [] i) (get_or (and_behind context.batches (map g p.inner)) i [])) (sym (behind_is p.inputs p.inner))
        (subst (λ (z : List Rows). FitAll (input_schema context.catalog (p.inputs ++ p.inner) [] i) (get_or z i [])) (sym (behind_is context.batches (map g p.inner)))
        (all_fit context.catalog g fits p.inner context.batches p.inputs count inputs i)))

    step_whole : (x : Step) (w : Execution) → AllWhole w → (step_in_scope context.catalog (length (streams_read p)) false x && step_typed context.catalog (streams_read p) [] p.args x) ≡ true → WhenOk AllWhole (execute_step context x w)
    step_whole x w h r = step_on_whole (record context { batches = batches_so_far context w }) typed in_scope p right scope args (so_far w h) x w h r

    pub body_whole : (s : Contents) → WholeContents context.catalog s → WhenOk AllWhole (run_body context p.body s)
    unfolding run_body
    body_whole s h =
        when_ok_then AllWhole AllWhole (try_fold (execute_step context) p.body (execution_start context.catalog s)) _
        (try_fold_when_ok AllWhole (λ x. (step_in_scope context.catalog (length (streams_read p)) false x && step_typed context.catalog (streams_read p) [] p.args x) ≡ true) (execute_step context) (λ x r w k. step_whole x w k r) p.body (each_of _ p.body (all_both (step_in_scope context.catalog (length (streams_read p)) false) (step_typed context.catalog (streams_read p) [] p.args) p.body scope right)) (execution_start context.catalog s) (start_whole context typed in_scope s h)) (λ w k.
        try_fold_when_ok AllWhole (λ n. is_closed_by context.procedure (slice_get (context.catalog).windows n) ≡ true) (close_window context) (λ n e v z. closed_whole context typed in_scope n e v z) (owned_batch_windows context.catalog context.procedure) (filter_passes (λ n. is_closed_by context.procedure (slice_get (context.catalog).windows n)) (range_with_len 0 (length (context.catalog).windows))) w k)

-- ---- what a procedure leaves

pub nothing_emitted : (n i : ℕ) → get_or (replicate {A = Rows} n []) i [] ≡ []
nothing_emitted zero i = refl
nothing_emitted (suc n) zero = refl
nothing_emitted (suc n) (suc i) = nothing_emitted n i

result_whole : (catalog : Catalog) (s : Contents) (x : OrAbort Execution) → WholeContents catalog s → WhenOk (WholeExecution catalog) x → WholeResult catalog (body_result catalog s x)
result_whole _ s (Ok w) h k = record { contents = k.contents; emitted = k.emitted }
result_whole catalog s (Err r) h k = record { contents = h; emitted = λ n. subst (λ b. batch_fits (stream_schema catalog n) b ≡ true) (sym (nothing_emitted (length catalog.streams) n)) refl }

pub run_whole : (catalog : Catalog) → catalog_typed catalog ≡ true → catalog_in_scope catalog ≡ true → (q : ℕ) (p : Procedure) (args : Row) (batches : List Rows) (s : Contents) → slice_get catalog.procedures q ≡ Some p → fits_schema p.args args ≡ true → length batches ≡ length p.inputs → ((i : ℕ) → FitAll (input_schema catalog p.inputs [] i) (get_or batches i [])) → WholeContents catalog s → WholeResult catalog (run_procedure catalog q p args batches s)
run_whole catalog typed in_scope q p args batches s is fits count inputs h =
    let context : Context = record { catalog = catalog; procedure = q; args = args; batches = batches; inner = p.inner; split_value = split_value_for p.touch args } in
    result_whole catalog s (run_body context p.body s) h
    (body_whole context typed in_scope p (at_index (procedure_typed catalog) catalog.procedures (first_of_two _ _ typed) q p is) (at_index (procedure_in_scope catalog) catalog.procedures (first_of_two _ _ in_scope) q p is) fits refl count inputs s h)

-- the same of a procedure as it is in a database
pub present_whole : (catalog : Catalog) (accepted : Accepted catalog) (q : ℕ) (p : Procedure) → slice_get catalog.procedures q ≡ Some p → (db : Database) (args : Row) (batches : List Rows) (s : Contents) → fits_schema p.args args ≡ true → length batches ≡ length p.inputs → ((i : ℕ) → FitAll (input_schema catalog p.inputs [] i) (get_or batches i [])) → WholeContents catalog s → WholeResult catalog (run_procedure catalog q (present catalog db q p) args batches s)
present_whole catalog accepted q p is db args batches s fits count inputs h =
    let here : Procedure = present catalog db q p in
    let may = present_accepted catalog accepted q p is db in
    let context : Context = record { catalog = catalog; procedure = q; args = args; batches = batches; inner = p.inner; split_value = split_value_for p.touch args } in
    result_whole catalog s (run_body context here.body s) h (body_whole context accepted.typed accepted.in_scope here may.typed may.in_scope fits refl count inputs s h)
