-- Accepted catalogues in parts, and with other bodies.
use Rattle.std.proofs.Common.{◌≡◌, ◌↔◌, ℕ, ℤ, zero, suc, Bool, true, ◌&&◌, List, [], ◌∷◌, ◌++◌, get_or, set, length, refl, sym, ap, ◌∙◌, Ok}
use Rattle.std.specs.declared.option.Option.{Option}
use Rattle.std.specs.List.{filter, list_all}
use Rattle.std.proofs.lemmas.Bool.{and_from}
use Rattle.ss_lemmas.proofs.EachOf.{all_from}
use Rattle.ss_value.specs.Rows.{Row, Rows}
use Rattle.ss_model.specs.declared.catalog.Body.{Body}
use Rattle.ss_model.specs.declared.catalog.Catalog.{Catalog}
use Rattle.ss_model.specs.declared.catalog.Procedure.{Procedure}
use Rattle.ss_model.specs.declared.catalog.TriggerDef.{TriggerDef}
use Rattle.ss_model.specs.declared.catalog.Step.{Step}
use Rattle.ss_model.specs.declared.catalog.Step.TheVariants.{Sql, AbortIf, ForEach, Emit, Local, Return}
use Rattle.ss_model.specs.Results.{OrAbort, ◌>>=◌, try_fold, abort_when}
use Rattle.ss_value.specs.declared.value.Value.{Value}
use Rattle.ss_value.specs.declared.Unit.{Unit as UnitKind}
use Rattle.ss_value.specs.declared.Unit.TheVariants.{Rows as RowsUnit, Batches as BatchesUnit}
use Rattle.ss_sql_trees.specs.declared.typed.Condition.{Condition}
use Rattle.ss_sql_trees.specs.declared.typed.Query.{Query}
use Rattle.ss_sql_trees.specs.declared.typed.Statement.{Statement}
use Rattle.ss_sql_trees.specs.declared.typed.Statement.TheVariants.{InsertValues, InsertQuery, Update, Delete}
use Rattle.ss_model.specs.declared.catalog.Inner.{Inner}
use Rattle.ss_model.specs.declared.catalog.Inner.TheVariants.{Sql as InnerSql, AbortIf as InnerAbortIf}
use Rattle.ss_model.specs.declared.entry.Reason.TheVariants.{BatchFull, ReplyFull}
use Rattle.ss_model.specs.Contents.{Contents, visible_table, window_def}
use Rattle.ss_model.specs.Statements.{Context, Execution, Cascade, stage_by_unit, StatementEffect, Wrote, Staged, apply_effect, statement_effect, cascade_to_depth, is_on_window, insert_row, update_rows, delete_rows, close_unit, context_query, execute_statement, run_triggers, is_on_stream, trigger_cascade}
use Rattle.ss_model.specs.Bodies.{exceeds_row_limit, check_condition, execute_abort_if, execute_inner, step_on, batches_so_far, execution_start, owned_batch_windows, close_window, run_body}
use Rattle.ss_model.specs.Database.{body_result, split_value_for, run_procedure}
use Rattle.ss_model.specs.CatalogForm.{step_of_kind, body_within_limit, has_frame, has_form, is_of_kind, head_of_kind, is_within_limits, counts_within_limits, has_distinct_names, numbers_in_range, has_window_sizes, has_distinct_numbers, has_parts}
use Rattle.ss_model.specs.Typing.{procedure_typed}
use Rattle.ss_model.specs.Scopes.{procedure_in_scope}
use Rattle.ss_model.specs.Accepted.{Accepted}
use Rattle.ss_model.specs.AcceptedBodies.{AcceptedFrame, OwnBodies, OtherBodies}
use Rattle.ss_lemmas.proofs.Bools.{first_of_two, second_of_two, at_index}
use Rattle.ss_model.proofs.CallerLemmas.{calls_of}

-- ---- a run reads no body but its own

-- a body's run, with the triggers of windows given
module _ (cascade : Cascade) (context : Context) where
  abbrev inner_with : Row → Inner → Execution → OrAbort Execution
  inner_with current (InnerSql s) = execute_statement context cascade [] current s
  inner_with current (InnerAbortIf c code) = execute_abort_if context current c code

  abbrev emit_with : ℕ → Rows → Execution → OrAbort Execution
  emit_with s rows w =
      abort_when (exceeds_row_limit (get_or w.emitted s []) rows) (BatchFull s)
      (run_triggers context cascade rows (filter (λ t. is_on_stream s t.on) (context.catalog).triggers)
      (record w { emitted = set w.emitted s (get_or w.emitted s [] ++ rows) }))

  abbrev step_with : Step → Execution → OrAbort Execution
  step_with (Sql s) w = execute_statement context cascade [] context.args s w
  step_with (AbortIf c code) w = execute_abort_if context context.args c code w
  step_with (ForEach input body) w = try_fold (λ row. try_fold (inner_with row) body) (get_or context.batches input []) w
  step_with (Emit s q) w = context_query context [] context.args q w.contents >>= λ rows. emit_with s rows w
  step_with (Local s q) w = context_query context [] context.args q w.contents >>= λ rows. emit_with s rows w
  step_with (Return q) w =
      context_query context [] context.args q w.contents >>= λ rows.
      abort_when (exceeds_row_limit w.reply rows) ReplyFull (Ok (record w { reply = w.reply ++ rows }))

step_is : (context : Context) (x : Step) → step_on context x ≡ step_with (trigger_cascade context) context x
step_is context (Sql s) = refl
step_is context (AbortIf c code) = refl
step_is context (ForEach input body) = λ i w. try_fold (λ row. try_fold (λ x. inner_is row x i) body) (get_or context.batches input []) w
  where
    inner_is : (row : Row) (x : Inner) → execute_inner context row x ≡ inner_with (trigger_cascade context) context row x
    inner_is row (InnerSql s) = refl
    inner_is row (InnerAbortIf c code) = refl
step_is context (Emit s q) = refl
step_is context (Local s q) = refl
step_is context (Return q) = refl

module _ (catalog : Catalog) (procedures : List Procedure) (spares : List (List Body)) (q : ℕ) (args : Row) (batches : List Rows) (inner : List ℕ) (split_value : Option Value) where
  -- with other procedures, and with other bodies to be installed
  abbrev other : Catalog
  other = record catalog { procedures = procedures; spares = spares }

  abbrev before : Context
  before = record { catalog = catalog; procedure = q; args = args; batches = batches; inner = inner; split_value = split_value }

  abbrev changed : Context
  changed = record { catalog = other; procedure = q; args = args; batches = batches; inner = inner; split_value = split_value }

  made_same : (inserted : Rows) (params : Row) (st : Statement) (s : Contents) → statement_effect changed inserted params st s ≡ statement_effect before inserted params st s
  unfolding insert_row update_rows delete_rows visible_table
  made_same inserted params (InsertValues target values) s = refl
  made_same inserted params (InsertQuery target x) s = refl
  made_same inserted params (Update t sets test) s = refl
  made_same inserted params (Delete t test) s = refl

  query_same : (inserted : Rows) (params : Row) (x : Query) (s : Contents) → context_query changed inserted params x s ≡ context_query before inserted params x s
  unfolding visible_table
  query_same inserted params x s = refl

  closed_same : (cascade : Cascade) (n : ℕ) (unit : Rows) (w : Execution) → close_unit other cascade n unit w ≡ close_unit catalog cascade n unit w
  unfolding close_unit
  closed_same cascade n unit w = refl

  staged_same : (cascade : Cascade) (k : UnitKind) (n : ℕ) (row : Row) (w : Execution) → stage_by_unit k other cascade n row w ≡ stage_by_unit k catalog cascade n row w
  staged_same cascade RowsUnit n row w = closed_same cascade n (row ∷ []) w
  staged_same cascade BatchesUnit n row w = refl

  applied_same : (cascade : Cascade) (w : Execution) (x : StatementEffect) → apply_effect other cascade w x ≡ apply_effect catalog cascade w x
  applied_same cascade w (Wrote s) = refl
  applied_same cascade w (Staged n rows) = λ i. try_fold (λ row v. staged_same cascade ((window_def catalog n).unit) n row v i) rows w

  statement_same : (cascade : Cascade) (inserted : Rows) (params : Row) (st : Statement) (w : Execution) → execute_statement changed cascade inserted params st w ≡ execute_statement before cascade inserted params st w
  statement_same cascade inserted params st w = λ i. made_same inserted params st w.contents i >>= λ x. applied_same cascade w x i

  triggers_same : (cascade : Cascade) (inserted : Rows) (ts : List TriggerDef) (w : Execution) → run_triggers changed cascade inserted ts w ≡ run_triggers before cascade inserted ts w
  triggers_same cascade inserted ts w = λ i. try_fold (λ t. try_fold (λ st v. statement_same cascade inserted [] st v i) t.statements) ts w

  nested_same : (depth : ℕ) → ◌≡◌ {A = Cascade} (cascade_to_depth depth changed) (cascade_to_depth depth before)
  nested_same zero = refl
  nested_same (suc depth) =
      (λ i n w. triggers_same (cascade_to_depth depth changed) [] (filter (λ t. is_on_window n t.on) catalog.triggers) w i)
      ∙ ap {B = Cascade} (λ c n w. run_triggers before c [] (filter (λ t. is_on_window n t.on) catalog.triggers) w) (nested_same depth)

  abort_if_same : (params : Row) (c : Condition) (code : ℤ) (w : Execution) → execute_abort_if changed params c code w ≡ execute_abort_if before params c code w
  abort_if_same params c code w = λ i. query_same [] params c.query w.contents i >>= λ rows. check_condition params c code rows w

  module _ (cascade : Cascade) where
    inner_same : (row : Row) (x : Inner) (w : Execution) → inner_with cascade changed row x w ≡ inner_with cascade before row x w
    inner_same row (InnerSql st) w = statement_same cascade [] row st w
    inner_same row (InnerAbortIf c code) w = abort_if_same row c code w

    emit_same : (s : ℕ) (rows : Rows) (w : Execution) → emit_with cascade changed s rows w ≡ emit_with cascade before s rows w
    emit_same s rows w = λ i.
        abort_when (exceeds_row_limit (get_or w.emitted s []) rows) (BatchFull s) (triggers_same cascade rows (filter (λ t. is_on_stream s t.on) catalog.triggers) (record w { emitted = set w.emitted s (get_or w.emitted s [] ++ rows) }) i)

    step_same : (x : Step) (w : Execution) → step_with cascade changed x w ≡ step_with cascade before x w
    step_same (Sql st) w = statement_same cascade [] args st w
    step_same (AbortIf c code) w = abort_if_same args c code w
    step_same (ForEach input body) w = λ i. try_fold (λ row. try_fold (λ x v. inner_same row x v i) body) (get_or batches input []) w
    step_same (Emit s x) w = λ i. query_same [] args x w.contents i >>= λ rows. emit_same s rows w i
    step_same (Local s x) w = λ i. query_same [] args x w.contents i >>= λ rows. emit_same s rows w i
    step_same (Return x) w = λ i. query_same [] args x w.contents i >>= λ rows. abort_when (exceeds_row_limit w.reply rows) ReplyFull (Ok (record w { reply = w.reply ++ rows }))

  on_same : (x : Step) (w : Execution) → step_on changed x w ≡ step_on before x w
  on_same x w =
      ap (λ (f : Execution → OrAbort Execution). f w) (step_is changed x) ∙ step_same (trigger_cascade changed) x w
      ∙ ap (λ (c : Cascade). step_with c before x w) (nested_same (length catalog.windows)) ∙ sym (ap (λ (f : Execution → OrAbort Execution). f w) (step_is before x))

  close_same : (n : ℕ) (w : Execution) → close_window changed n w ≡ close_window before n w
  close_same n w =
      closed_same (trigger_cascade changed) n (get_or w.open_units n []) (record w { open_units = set w.open_units n [] })
      ∙ ap (λ (c : Cascade). close_unit catalog c n (get_or w.open_units n []) (record w { open_units = set w.open_units n [] })) (nested_same (length catalog.windows))

module _ (catalog : Catalog) (procedures : List Procedure) (spares : List (List Body)) (q : ℕ) (args : Row) (batches : List Rows) (inner : List ℕ) (split_value : Option Value) where
  run_same : (body : List Step) (s : Contents) → run_body (changed catalog procedures spares q args batches inner split_value) body s ≡ run_body (before catalog procedures spares q args batches inner split_value) body s
  unfolding run_body
  run_same body s = λ i.
      try_fold (λ x w. on_same catalog procedures spares q args (batches_so_far (before catalog procedures spares q args batches inner split_value) w) inner split_value x w i) body (execution_start catalog s)
      >>= try_fold (λ n w. close_same catalog procedures spares q args batches inner split_value n w i) (owned_batch_windows catalog q)

pub run_reads_one : (catalog : Catalog) (procedures : List Procedure) (spares : List (List Body)) (q : ℕ) (p : Procedure) (args : Row) (batches : List Rows) (s : Contents) → run_procedure (record catalog { procedures = procedures; spares = spares }) q p args batches s ≡ run_procedure catalog q p args batches s
run_reads_one catalog procedures spares q p args batches s = ap (body_result catalog s) (run_same catalog procedures spares q args batches p.inner (split_value_for p.touch args) p.body s)

-- ---- in parts

-- the third and the last of seven parts in place of others
rebuilt : (a b c d e f k other last : Bool) → ((((((a && b) && c) && d) && e) && f) && k) ≡ true → other ≡ true → last ≡ true → ((((((a && b) && other) && d) && e) && f) && last) ≡ true
rebuilt a b c d e f k other last h third seventh =
    let six = first_of_two (((((a && b) && c) && d) && e) && f) k h in
    let five = first_of_two ((((a && b) && c) && d) && e) f six in
    let four = first_of_two (((a && b) && c) && d) e five in
    let three = first_of_two ((a && b) && c) d four in
    and_from (((((a && b) && other) && d) && e) && f) last
    (and_from ((((a && b) && other) && d) && e) f
    (and_from (((a && b) && other) && d) e
    (and_from ((a && b) && other) d (and_from (a && b) other (first_of_two (a && b) c three) third) (second_of_two ((a && b) && c) d four))
    (second_of_two (((a && b) && c) && d) e five))
    (second_of_two ((((a && b) && c) && d) && e) f six)) seventh

third_part : (a b c d e f k : Bool) → ((((((a && b) && c) && d) && e) && f) && k) ≡ true → c ≡ true
third_part a b c d e f k h =
    second_of_two (a && b) c (first_of_two ((a && b) && c) d (first_of_two (((a && b) && c) && d) e (first_of_two ((((a && b) && c) && d) && e) f (first_of_two (((((a && b) && c) && d) && e) && f) k h))))

module _ (catalog : Catalog) where
  module _ (form : has_form catalog ≡ true) where
    kinds : list_all is_of_kind catalog.procedures ≡ true
    kinds = second_of_two _ _ form

    limits : is_within_limits catalog ≡ true
    limits = third_part (has_distinct_names catalog) (numbers_in_range catalog) (is_within_limits catalog) (has_window_sizes catalog) (has_distinct_numbers catalog) (has_parts catalog) (list_all is_of_kind catalog.procedures) form

    frame_of : has_frame catalog ≡ true
    frame_of =
        rebuilt (has_distinct_names catalog) (numbers_in_range catalog) (is_within_limits catalog) (has_window_sizes catalog) (has_distinct_numbers catalog) (has_parts catalog) (list_all is_of_kind catalog.procedures) (counts_within_limits catalog) (list_all head_of_kind catalog.procedures) form
        (first_of_two (counts_within_limits catalog) (list_all (λ p. body_within_limit p.inner p.body) catalog.procedures) limits)
        (all_from head_of_kind catalog.procedures (λ q p is. first_of_two (head_of_kind p) (list_all (step_of_kind p.kind) p.body) (at_index is_of_kind catalog.procedures kinds q p is)))

  form_of : has_frame catalog ≡ true → OwnBodies catalog → has_form catalog ≡ true
  form_of frame bodies =
      rebuilt (has_distinct_names catalog) (numbers_in_range catalog) (counts_within_limits catalog) (has_window_sizes catalog) (has_distinct_numbers catalog) (has_parts catalog) (list_all head_of_kind catalog.procedures) (is_within_limits catalog) (list_all is_of_kind catalog.procedures) frame
      (and_from (counts_within_limits catalog) (list_all (λ p. body_within_limit p.inner p.body) catalog.procedures) (third_part (has_distinct_names catalog) (numbers_in_range catalog) (counts_within_limits catalog) (has_window_sizes catalog) (has_distinct_numbers catalog) (has_parts catalog) (list_all head_of_kind catalog.procedures) frame) (all_from (λ p. body_within_limit p.inner p.body) catalog.procedures (λ q p is. (bodies q p is).size)))
      (all_from is_of_kind catalog.procedures (λ q p is. and_from (head_of_kind p) (list_all (step_of_kind p.kind) p.body) (at_index head_of_kind catalog.procedures (second_of_two _ _ frame) q p is) (bodies q p is).kind))

  frame_in : Accepted catalog → AcceptedFrame catalog
  frame_in a = record {
    form = frame_of a.form;
    triggers_typed = second_of_two _ _ a.typed;
    triggers_in_scope = second_of_two _ _ a.in_scope;
    structure = a.structure;
  }

  pub bodies_in : Accepted catalog → OwnBodies catalog
  bodies_in a q p is = record {
    kind = second_of_two _ _ (at_index is_of_kind catalog.procedures (kinds a.form) q p is);
    size = at_index (λ p. body_within_limit p.inner p.body) catalog.procedures (second_of_two _ _ (limits a.form)) q p is;
    typed = at_index (procedure_typed catalog) catalog.procedures (first_of_two _ _ a.typed) q p is;
    in_scope = at_index (procedure_in_scope catalog) catalog.procedures (first_of_two _ _ a.in_scope) q p is;
    local = (a.uses q p is).local;
    limited = (a.uses q p is).limited;
    emits = λ s. refl;
    adds = λ s. refl;
  }

  pub joined : AcceptedFrame catalog → OwnBodies catalog → OtherBodies catalog → Accepted catalog
  joined f b o = record {
    form = form_of f.form b;
    typed = and_from _ _ (all_from (procedure_typed catalog) catalog.procedures (λ q p is. (b q p is).typed)) f.triggers_typed;
    in_scope = and_from _ _ (all_from (procedure_in_scope catalog) catalog.procedures (λ q p is. (b q p is).in_scope)) f.triggers_in_scope;
    call_steps = λ q p is call. calls_of p.kind p.body call (b q p is).kind;
    uses = λ q p is. let body = b q p is in record { local = body.local; limited = body.limited };
    spares = o;
    structure = f.structure;
  }

  pub in_parts : Accepted catalog ↔ (AcceptedFrame catalog × (OwnBodies catalog × OtherBodies catalog))
  in_parts = (λ a. (frame_in a, (bodies_in a, a.spares)), λ parts. joined parts.0 (parts.1).0 (parts.1).1)
