-- Runs on two contents in a relation: the same outcome, and contents in the relation.
use Rattle.std.proofs.Common.{◌≡◌, ℕ, ℤ, zero, suc, ◌^◌, Bool, true, false, not, List, [], ◌∷◌, ◌++◌, map, refl, ap, subst, Ok, Some, None, get_or, set, length, nat_le, ◌==◌}
use Rattle.std.specs.declared.option.Option.{Option}
use Rattle.std.specs.List.{AllByRecursion, filter}
use Rattle.std.specs.FinMap as finmap
use Rattle.ss_lemmas.proofs.EachOf.{all_with}
use Rattle.ss_sql_trees.specs.declared.typed.Expr.{Expr}
use Rattle.ss_sql_trees.specs.declared.typed.Query.{Query}
use Rattle.ss_sql_trees.specs.declared.typed.Joined.{Joined}
use Rattle.ss_sql_trees.specs.declared.typed.SetTo.{SetTo}
use Rattle.ss_sql_trees.specs.declared.typed.SourceId.{SourceId}
use Rattle.ss_sql_trees.specs.declared.typed.SourceId.TheVariants.{Table as FromTable, Window as FromWindow, Batch as FromBatch, Inserted}
use Rattle.ss_sql_trees.specs.declared.typed.Target.{Target}
use Rattle.ss_sql_trees.specs.declared.typed.Target.TheVariants.{Table as IntoTable, Window as IntoWindow}
use Rattle.ss_sql_trees.specs.declared.typed.Statement.{Statement}
use Rattle.ss_sql_trees.specs.declared.typed.Statement.TheVariants.{InsertValues, InsertQuery, Update, Delete}
use Rattle.ss_value.specs.declared.Unit.{Unit as UnitKind}
use Rattle.ss_value.specs.declared.Unit.TheVariants.{Rows as RowsUnit, Batches as BatchesUnit}
use Rattle.ss_model.specs.declared.catalog.TriggerDef.{TriggerDef}
use Rattle.ss_model.specs.declared.catalog.Catalog.{Catalog}
use Rattle.ss_sql_trees.specs.declared.typed.Condition.{Condition}
use Rattle.ss_model.specs.declared.catalog.Inner.{Inner}
use Rattle.ss_model.specs.declared.catalog.Inner.TheVariants.{Sql as InnerSql, AbortIf as InnerAbortIf}
use Rattle.ss_model.specs.declared.catalog.Step.{Step}
use Rattle.ss_model.specs.declared.catalog.Step.TheVariants.{Sql, AbortIf, ForEach, Emit, Local, Return}
use Rattle.ss_model.specs.declared.entry.Reason.TheVariants.{Raised}
use Rattle.ss_model.specs.Results.{◌>>=◌, try_map, and_behind, WhenOk}
use Rattle.ss_value.specs.Rows.{Row, Rows, column_value}
use Rattle.ss_value.specs.Order.{value_cmp}
use Rattle.ss_model.specs.Expressions.{cmp_holds, expr_value}
use Rattle.ss_model.specs.Queries.{query_result, join_source}
use Rattle.ss_model.specs.Contents.{Contents, window_def, visible_rows, visible_end, window_units, append_unit, put_entries, remove_entries, table_at, visible_table, matches_split, source_rows}
use Rattle.ss_model.specs.Statements.{Context, Execution, Cascade, insert_row, matching_entries, updated_row, update_rows, delete_rows, when_moved, close_unit, stage_by_unit, StatementEffect, Wrote, Staged, insert_into, statement_effect, apply_effect, context_query, execute_statement, is_on_window, is_on_stream, run_triggers, cascade_to_depth, trigger_cascade}
use Rattle.ss_model.specs.Bodies.{check_condition, execute_abort_if, execute_inner, emit_rows, step_on, batches_so_far, execute_step, owned_batch_windows, close_window, run_body, exceeds_row_limit}
use Rattle.ss_model.specs.Claims.{Claims, SourceClaim, JoinClaim, QueryClaim, ValuesClaim, RowsClaim, StatementClaim, TriggerClaim, InnerClaim, StepClaim}
use Rattle.ss_model_kept.proofs.Related.{Related, related_then, equal_first_then, related_try_fold, equal_test_abort, same_test_abort, same_first_then}
use Rattle.ss_model.proofs.CallerLemmas.{when_ok_at, try_filter_when_ok, try_map_when_ok, when_ok_then, when_ok_map, all_of, anything}
use Rattle.ss_model_kept.proofs.VisibleEntries.{all_seen}
use Rattle.ss_model.specs.parts.Locality.{IsVisible}

-- the triggers on a window of the claims meet them
abbrev pub TriggersClaimed : Claims → Catalog → Type 0
TriggersClaimed u catalog = (n : ℕ) → u.window n → AllByRecursion (TriggerClaim u) (filter (λ t. is_on_window n t.on) catalog.triggers)

-- what a relation on contents has to keep, at the tables and windows in scope
pub record Respects (context : Context) (u : Claims) (row : ℕ → Row → Type 0) (R : Contents → Contents → Type 0) : Type 0 where
  pub valued : (params : Row) (t : ℕ) (vs : List Expr) → u.values params t vs → WhenOk (row t) (try_map (expr_value [] params) vs)
  pub queried : (params : Row) (t : ℕ) (q : Query) (outer : Rows) (inner : Option (Joined × Rows)) → u.rows params t q → WhenOk (AllByRecursion (row t)) (query_result outer inner params q)
  pub seen : (t : ℕ) (s z : Contents) → u.table t → R s z → visible_table context.catalog context.split_value s t ≡ visible_table context.catalog context.split_value z t
  pub shown : (w : ℕ) (s z : Contents) → u.window w → R s z → visible_rows (window_def context.catalog w) (window_units s w) ≡ visible_rows (window_def context.catalog w) (window_units z w)
  pub counted : (w : ℕ) (s z : Contents) → u.window w → R s z → length (window_units s w) ≡ length (window_units z w)
  pub inserted : (t : ℕ) (x : Row) (s z : Contents) → u.table t → row t x → R s z → Related R (insert_row context.catalog t x s) (insert_row context.catalog t x z)
  pub put : (t : ℕ) (new : List (Row × Row)) (s z : Contents) → u.table t → AllByRecursion (λ e. IsVisible context t e.0) new → R s z → R (put_entries s t new) (put_entries z t new)
  pub dropped : (t : ℕ) (old : List (Row × Row)) (s z : Contents) → u.table t → AllByRecursion (λ e. IsVisible context t e.0) old → R s z → R (remove_entries s t old) (remove_entries z t old)
  pub closed : (w : ℕ) (unit : Rows) (s z : Contents) → u.window w → R s z → R (append_unit s w unit) (append_unit z w unit)

-- two executions that differ in their contents alone, which are in the relation
pub record ExecutionRelated (R : Contents → Contents → Type 0) (w v : Execution) : Type 0 where
  pub contents_related : R w.contents v.contents
  pub open_units : w.open_units ≡ v.open_units
  pub emitted : w.emitted ≡ v.emitted
  pub reply : w.reply ≡ v.reply

module _ (context : Context) (u : Claims) (fit : ℕ → Row → Type 0) (R : Contents → Contents → Type 0) (k : Respects context u fit R) where
  source_same : (src : SourceId) (inserted : Rows) (s z : Contents) → SourceClaim u src → R s z → source_rows context.catalog context.split_value context.batches inserted s src ≡ source_rows context.catalog context.split_value context.batches inserted z src
  source_same (FromTable t) inserted s z h r = ap finmap.values (k.seen t s z h r)
  source_same (FromWindow w) inserted s z h r = k.shown w s z h r
  source_same (FromBatch i) inserted s z h r = refl
  source_same Inserted inserted s z h r = refl

  joined_same : (j : Option Joined) (inserted : Rows) (s z : Contents) → JoinClaim u j → R s z → join_source (source_rows context.catalog context.split_value context.batches inserted s) j ≡ join_source (source_rows context.catalog context.split_value context.batches inserted z) j
  joined_same None inserted s z h r = refl
  joined_same (Some j) inserted s z h r = ap (λ rows. Some (j, rows)) (source_same j.source inserted s z h r)

  query_same : (inserted : Rows) (params : Row) (q : Query) (s z : Contents) → QueryClaim u q → R s z → context_query context inserted params q s ≡ context_query context inserted params q z
  query_same inserted params q s z h r =
      λ i. query_result (source_same q.from inserted s z h.0 r i) (joined_same q.joined inserted s z h.1 r i) params q

  with_store : (w v : Execution) (s z : Contents) → ExecutionRelated R w v → R s z → ExecutionRelated R (record w { contents = s }) (record v { contents = z })
  with_store w v s z r q = record { contents_related = q; open_units = r.open_units; emitted = r.emitted; reply = r.reply }

  -- the entries that are chosen have keys that the execution sees
  chosen_seen : (params : Row) (test : Option Expr) (t : ℕ) (s : Contents) → WhenOk (AllByRecursion (λ e. IsVisible context t e.0)) (matching_entries params test (visible_table context.catalog context.split_value s t))
  unfolding visible_table
  chosen_seen params test t s = try_filter_when_ok (λ e. IsVisible context t e.0) _ _ (all_seen (table_at s t) (matches_split context.catalog context.split_value t))

  changed_seen : (params : Row) (sets : List SetTo) (t : ℕ) (old : List (Row × Row)) → AllByRecursion (λ e. IsVisible context t e.0) old → WhenOk (AllByRecursion (λ e. IsVisible context t e.0)) (try_map {B = Row × Row} (λ e. updated_row params sets e.1 >>= λ row. Ok (e.0, row)) old)
  changed_seen params sets t old h =
      try_map_when_ok (λ e. IsVisible context t e.0) (λ e. IsVisible context t e.0) _ (λ e p. when_ok_then (λ _. Unit {0}) (λ e. IsVisible context t e.0) (updated_row params sets e.1) _ (anything _) (λ row _. p)) old h

  update_related : (params : Row) (t : ℕ) (sets : List SetTo) (test : Option Expr) (s z : Contents) → u.table t → R s z → Related R (update_rows context params t sets test s) (update_rows context params t sets test z)
  unfolding update_rows
  update_related params t sets test s z h r =
      equal_first_then R _ _ _ _ (ap (matching_entries params test) (k.seen t s z h r)) (λ old e.
      same_first_then R (try_map {B = Row × Row} (λ e. updated_row params sets e.1 >>= λ row. Ok (e.0, row)) old) _ _ (λ new f.
      k.put t new s z h (when_ok_at _ _ new (changed_seen params sets t old (when_ok_at _ _ old (chosen_seen params test t s) e)) f) r))

  delete_related : (params : Row) (t : ℕ) (test : Option Expr) (s z : Contents) → u.table t → R s z → Related R (delete_rows context params t test s) (delete_rows context params t test z)
  unfolding delete_rows
  delete_related params t test s z h r =
      equal_first_then R _ _ _ _ (ap (matching_entries params test) (k.seen t s z h r)) (λ old e.
      k.dropped t old s z h (when_ok_at _ _ old (chosen_seen params test t s) e) r)

  -- triggers that are alike at windows in scope
  abbrev CascadeRelated : Cascade → Type 0
  CascadeRelated f = (n : ℕ) (w v : Execution) → u.window n → ExecutionRelated R w v → Related (ExecutionRelated R) (f n w) (f n v)

  move_related : (f : Cascade) (n : ℕ) (b : Bool) (w v : Execution) → CascadeRelated f → u.window n → ExecutionRelated R w v → Related (ExecutionRelated R) (when_moved b (f n) w) (when_moved b (f n) v)
  move_related f n true w v fire h r = fire n w v h r
  move_related f n false w v fire h r = r

  close_related : (f : Cascade) (n : ℕ) (unit : Rows) (w v : Execution) → CascadeRelated f → u.window n → ExecutionRelated R w v → Related (ExecutionRelated R) (close_unit context.catalog f n unit w) (close_unit context.catalog f n unit v)
  unfolding close_unit
  close_related f n unit w v fire h r =
      let d = window_def context.catalog n in
      let e = k.counted n w.contents v.contents h r.contents_related in
      equal_test_abort (ExecutionRelated R) _ _ _ _ _ (ap (nat_le (2 ^ 62)) e) (λ _.
      subst (λ m. Related (ExecutionRelated R) (when_moved (not (visible_end d (length (window_units w.contents n)) == visible_end d (suc (length (window_units w.contents n))))) (f n) (record w { contents = append_unit w.contents n unit })) (when_moved (not (visible_end d m == visible_end d (suc m))) (f n) (record v { contents = append_unit v.contents n unit }))) e
      (move_related f n _ _ _ fire h (with_store w v _ _ r (k.closed n unit w.contents v.contents h r.contents_related))))

  stage_related : (f : Cascade) (n : ℕ) (kind : UnitKind) (row : Row) (w v : Execution) → CascadeRelated f → u.window n → ExecutionRelated R w v → Related (ExecutionRelated R) (stage_by_unit kind context.catalog f n row w) (stage_by_unit kind context.catalog f n row v)
  stage_related f n RowsUnit row w v fire h r = close_related f n (row ∷ []) w v fire h r
  stage_related f n BatchesUnit row w v fire h r =
      record { contents_related = r.contents_related; open_units = ap (λ o. set o n (get_or o n [] ++ row ∷ [])) r.open_units; emitted = r.emitted; reply = r.reply }

  -- the same effect: tables in the relation, or the same rows for a window of the claims
  abbrev EffectRelated : StatementEffect → StatementEffect → Type 0
  EffectRelated (Wrote s) (Wrote z) = R s z
  EffectRelated (Staged n rows) (Staged m others) = u.window n × (n ≡ m) × (rows ≡ others)
  EffectRelated _ _ = ⊥

  abbrev TargetClaim : Target → Type 0
  TargetClaim (IntoTable t) = u.table t
  TargetClaim (IntoWindow n) = u.window n

  values_target : (params : Row) (target : Target) (vs : List Expr) → ValuesClaim u params target vs → TargetClaim target
  values_target params (IntoTable t) vs h = h.0
  values_target params (IntoWindow n) vs h = h

  rows_target : (params : Row) (target : Target) (q : Query) → RowsClaim u params target q → TargetClaim target
  rows_target params (IntoTable t) q h = h.0
  rows_target params (IntoWindow n) q h = h

  abbrev TargetIn : Target → Row → Type 0
  TargetIn (IntoTable t) row = u.table t × fit t row
  TargetIn (IntoWindow n) row = u.window n

  into_related : (target : Target) (rows : Rows) → TargetClaim target → AllByRecursion (TargetIn target) rows → (s z : Contents) → R s z → Related EffectRelated (insert_into context target rows s) (insert_into context target rows z)
  into_related (IntoTable t) rows h all s z r =
      related_then R EffectRelated _ _ _ _ (related_try_fold R (TargetIn (IntoTable t)) _ _ (λ row p s z q. k.inserted t row s z p.0 p.1 q) rows all s z r) (λ a b q. q)
  into_related (IntoWindow n) rows h all s z r = (h, refl, refl)

  values_put : (params : Row) (target : Target) (vs : List Expr) → ValuesClaim u params target vs → WhenOk (TargetIn target) (try_map (expr_value [] params) vs)
  values_put params (IntoTable t) vs h = when_ok_map (fit t) _ _ (λ row p. (h.0, p)) (k.valued params t vs h.1)
  values_put params (IntoWindow n) vs h = when_ok_map (λ _. Unit {0}) _ _ (λ row p. h) (anything (try_map (expr_value [] params) vs))

  query_put : (params : Row) (target : Target) (q : Query) (outer : Rows) (inner : Option (Joined × Rows)) → RowsClaim u params target q → WhenOk (AllByRecursion (TargetIn target)) (query_result outer inner params q)
  query_put params (IntoTable t) q outer inner h = when_ok_map (AllByRecursion (fit t)) _ _ (λ rows ps. all_with (fit t) _ (λ row p. (h.0, p)) rows ps) (k.queried params t q outer inner h.1)
  query_put params (IntoWindow n) q outer inner h = when_ok_map (λ _. Unit {0}) _ _ (λ rows _. all_of _ (λ row. h) rows) (anything (query_result outer inner params q))

  effect_related : (inserted : Rows) (params : Row) (st : Statement) → StatementClaim u params st → (s z : Contents) → R s z → Related EffectRelated (statement_effect context inserted params st s) (statement_effect context inserted params st z)
  effect_related inserted params (InsertValues target vs) h s z r =
      same_first_then EffectRelated (try_map (expr_value [] params) vs) _ _ (λ row e.
      into_related target (row ∷ []) (values_target params target vs h) (when_ok_at _ _ row (values_put params target vs h) e, tt) s z r)
  effect_related inserted params (InsertQuery target q) h s z r =
      equal_first_then EffectRelated _ _ _ _ (query_same inserted params q s z h.0 r) (λ rows e.
      into_related target rows (rows_target params target q h.1) (when_ok_at _ _ rows (query_put params target q _ _ h.1) e) s z r)
  effect_related inserted params (Update t sets test) h s z r = related_then R EffectRelated _ _ _ _ (update_related params t sets test s z h r) (λ a b q. q)
  effect_related inserted params (Delete t test) h s z r = related_then R EffectRelated _ _ _ _ (delete_related params t test s z h r) (λ a b q. q)

  apply_effect_related : (f : Cascade) (w v : Execution) (a b : StatementEffect) → CascadeRelated f → ExecutionRelated R w v → EffectRelated a b → Related (ExecutionRelated R) (apply_effect context.catalog f w a) (apply_effect context.catalog f v b)
  apply_effect_related f w v (Wrote s) (Wrote z) fire r q = with_store w v s z r q
  apply_effect_related f w v (Wrote s) (Staged m others) fire r q = absurd q
  apply_effect_related f w v (Staged n rows) (Wrote z) fire r q = absurd q
  apply_effect_related f w v (Staged n rows) (Staged m others) fire r q =
      subst (λ b. Related (ExecutionRelated R) (apply_effect context.catalog f w (Staged n rows)) (apply_effect context.catalog f v b)) (λ i. Staged (q.1 i) (q.2 i))
      (related_try_fold (ExecutionRelated R) (λ _. Unit {0}) _ _ (λ row _ w v g. stage_related f n ((window_def context.catalog n).unit) row w v fire q.0 g) rows (all_of _ (λ _. tt) rows) w v r)

  statement_related : (f : Cascade) (inserted : Rows) (params : Row) (st : Statement) → StatementClaim u params st → CascadeRelated f → (w v : Execution) → ExecutionRelated R w v → Related (ExecutionRelated R) (execute_statement context f inserted params st w) (execute_statement context f inserted params st v)
  statement_related f inserted params st h fire w v r =
      related_then EffectRelated (ExecutionRelated R) _ _ _ _ (effect_related inserted params st h w.contents v.contents r.contents_related) (λ a b q. apply_effect_related f w v a b fire r q)

  triggers_related : (f : Cascade) (inserted : Rows) (ts : List TriggerDef) → AllByRecursion (TriggerClaim u) ts → CascadeRelated f → (w v : Execution) → ExecutionRelated R w v → Related (ExecutionRelated R) (run_triggers context f inserted ts w) (run_triggers context f inserted ts v)
  triggers_related f inserted ts h fire w v r =
      related_try_fold (ExecutionRelated R) (TriggerClaim u) _ _ (λ t p w v q.
      related_try_fold (ExecutionRelated R) (StatementClaim u []) _ _ (λ st p w v q. statement_related f inserted [] st p fire w v q) t.statements p w v q) ts h w v r

  -- by induction on the depth
  cascade_related : (depth : ℕ) → TriggersClaimed u context.catalog → CascadeRelated (cascade_to_depth depth context)
  cascade_related zero c n w v h r = r
  cascade_related (suc depth) c n w v h r =
      triggers_related (cascade_to_depth depth context) [] _ (c n h) (cascade_related depth c) w v r

  judge_related : (params : Row) (c : Condition) (code : ℤ) (rows : Rows) (w v : Execution) → ExecutionRelated R w v → Related (ExecutionRelated R) (check_condition params c code rows w) (check_condition params c code rows v)
  judge_related params c code [] w v r = refl
  judge_related params c code (row ∷ []) w v r =
      same_first_then (ExecutionRelated R) (expr_value [] params c.right) _ _ (λ x _. same_test_abort (ExecutionRelated R) (cmp_holds c.cmp (value_cmp (column_value row 0) x)) (Raised code) (Ok w) (Ok v) (λ _. r))
  judge_related params c code (row ∷ x ∷ xs) w v r = refl

  abort_if_related : (params : Row) (c : Condition) (code : ℤ) (w v : Execution) → QueryClaim u c.query → ExecutionRelated R w v → Related (ExecutionRelated R) (execute_abort_if context params c code w) (execute_abort_if context params c code v)
  abort_if_related params c code w v h r =
      equal_first_then (ExecutionRelated R) _ _ _ _ (query_same [] params c.query w.contents v.contents h r.contents_related) (λ rows _. judge_related params c code rows w v r)

  inner_related : TriggersClaimed u context.catalog → (row : Row) (x : Inner) → InnerClaim u x → (w v : Execution) → ExecutionRelated R w v → Related (ExecutionRelated R) (execute_inner context row x w) (execute_inner context row x v)
  inner_related c row (InnerSql s) h w v r = statement_related (trigger_cascade context) [] row s (h row) (cascade_related _ c) w v r
  inner_related c row (InnerAbortIf x code) h w v r = abort_if_related row x code w v h r

  emit_related : TriggersClaimed u context.catalog → (s : ℕ) (rows : Rows) → AllByRecursion (TriggerClaim u) (filter (λ t. is_on_stream s t.on) (context.catalog).triggers) → (w v : Execution) → ExecutionRelated R w v → Related (ExecutionRelated R) (emit_rows context s rows w) (emit_rows context s rows v)
  emit_related c s rows h w v r =
      equal_test_abort (ExecutionRelated R) _ _ _ _ _ (ap (λ e. exceeds_row_limit (get_or e s []) rows) r.emitted) (λ _.
      triggers_related (trigger_cascade context) rows _ h (cascade_related _ c) _ _
      (record { contents_related = r.contents_related; open_units = r.open_units; emitted = ap (λ e. set e s (get_or e s [] ++ rows)) r.emitted; reply = r.reply }))

  step_on_related : TriggersClaimed u context.catalog → (x : Step) → StepClaim u context.catalog context.args x → (w v : Execution) → ExecutionRelated R w v → Related (ExecutionRelated R) (step_on context x w) (step_on context x v)
  step_on_related c (Sql s) h w v r = statement_related (trigger_cascade context) [] context.args s h (cascade_related _ c) w v r
  step_on_related c (AbortIf x code) h w v r = abort_if_related context.args x code w v h r
  step_on_related c (ForEach input body) h w v r =
      related_try_fold (ExecutionRelated R) (λ _. Unit {0}) _ _ (λ row _ w v q.
      related_try_fold (ExecutionRelated R) (InnerClaim u) _ _ (λ x p w v q. inner_related c row x p w v q) body h w v q) (get_or context.batches input []) (all_of _ (λ _. tt) _) w v r
  step_on_related c (Emit s q) h w v r =
      equal_first_then (ExecutionRelated R) _ _ _ _ (query_same [] context.args q w.contents v.contents h.0 r.contents_related) (λ rows _. emit_related c s rows h.1 w v r)
  step_on_related c (Local s q) h w v r =
      equal_first_then (ExecutionRelated R) _ _ _ _ (query_same [] context.args q w.contents v.contents h.0 r.contents_related) (λ rows _. emit_related c s rows h.1 w v r)
  step_on_related c (Return q) h w v r =
      equal_first_then (ExecutionRelated R) _ _ _ _ (query_same [] context.args q w.contents v.contents h r.contents_related) (λ rows _.
      equal_test_abort (ExecutionRelated R) _ _ _ _ _ (ap (λ old. exceeds_row_limit old rows) r.reply) (λ _.
      record { contents_related = r.contents_related; open_units = r.open_units; emitted = r.emitted; reply = ap (λ old. old ++ rows) r.reply }))

  close_window_related : TriggersClaimed u context.catalog → (n : ℕ) → u.window n → (w v : Execution) → ExecutionRelated R w v → Related (ExecutionRelated R) (close_window context n w) (close_window context n v)
  close_window_related c n h w v r =
      subst (λ unit. Related (ExecutionRelated R) (close_window context n w) (close_unit context.catalog (trigger_cascade context) n unit (record v { open_units = set v.open_units n [] }))) (ap (λ o. get_or o n []) r.open_units)
      (close_related (trigger_cascade context) n (get_or w.open_units n []) (record w { open_units = set w.open_units n [] }) (record v { open_units = set v.open_units n [] }) (cascade_related _ c) h
      (record { contents_related = r.contents_related; open_units = ap (λ o. set o n []) r.open_units; emitted = r.emitted; reply = r.reply }))

module _ (context : Context) (u : Claims) (fit : ℕ → Row → Type 0) (R : Contents → Contents → Type 0) (k : Respects context u fit R) where
  -- which batches there are is nothing to a relation on contents
  on : (batches : List Rows) → Respects (record context { batches = batches }) u fit R
  on batches = record {
    valued = k.valued;
    queried = k.queried;
    seen = k.seen;
    shown = k.shown;
    counted = k.counted;
    inserted = k.inserted;
    put = k.put;
    dropped = k.dropped;
    closed = k.closed;
  }

  step_related : TriggersClaimed u context.catalog → (x : Step) → StepClaim u context.catalog context.args x → (w v : Execution) → ExecutionRelated R w v → Related (ExecutionRelated R) (execute_step context x w) (execute_step context x v)
  step_related c x h w v r =
      subst (λ b. Related (ExecutionRelated R) (execute_step context x w) (step_on (record context { batches = b }) x v)) (ap (λ e. and_behind context.batches (map (λ s. get_or e s []) context.inner)) r.emitted)
      (step_on_related (record context { batches = batches_so_far context w }) u fit R (on (batches_so_far context w)) c x h w v r)

  -- a body in scope runs alike on contents in the relation
  pub body_related : (body : List Step) → TriggersClaimed u context.catalog → AllByRecursion (StepClaim u context.catalog context.args) body → AllByRecursion u.window (owned_batch_windows context.catalog context.procedure) → (s z : Contents) → R s z → Related (ExecutionRelated R) (run_body context body s) (run_body context body z)
  unfolding run_body
  body_related body c steps own s z r =
      related_then (ExecutionRelated R) (ExecutionRelated R) _ _ _ _
      (related_try_fold (ExecutionRelated R) (StepClaim u context.catalog context.args) _ _ (λ x p w v q. step_related c x p w v q) body steps _ _ (record { contents_related = r; open_units = refl; emitted = refl; reply = refl }))
      (λ w v q. related_try_fold (ExecutionRelated R) u.window _ _ (λ n p w v q. close_window_related context u fit R k c n p w v q) (owned_batch_windows context.catalog context.procedure) own w v q)
