-- Triggers see no batch, so that they do the same whatever batches are given.
use Rattle.std.proofs.Common.{◌≡◌, ◌<◌, ℕ, zero, suc, Bool, true, List, [], ◌∷◌, ◌++◌, get_or, set, length, refl, ap, Some, None, arith}
use Rattle.std.specs.declared.option.Option.{Option}
use Rattle.std.specs.List.{AllByRecursion, filter, list_all}
use Rattle.std.proofs.lemmas.Bool.{ltb-true}
use Rattle.ss_value.specs.Rows.{Row, Rows}
use Rattle.ss_sql_trees.specs.declared.typed.Joined.{Joined}
use Rattle.ss_sql_trees.specs.declared.typed.Query.{Query}
use Rattle.ss_sql_trees.specs.declared.typed.SourceId.{SourceId}
use Rattle.ss_sql_trees.specs.declared.typed.SourceId.TheVariants.{Table as FromTable, Window as FromWindow, Batch as FromBatch, Inserted}
use Rattle.ss_sql_trees.specs.declared.typed.Statement.{Statement}
use Rattle.ss_sql_trees.specs.declared.typed.Statement.TheVariants.{InsertValues, InsertQuery, Update, Delete}
use Rattle.ss_model.specs.declared.catalog.TriggerDef.{TriggerDef}
use Rattle.ss_model.specs.declared.entry.Reason.TheVariants.{BatchFull}
use Rattle.ss_model.specs.Results.{OrAbort, ◌>>=◌, try_fold, abort_when}
use Rattle.ss_model.specs.Queries.{join_source, query_result}
use Rattle.ss_model.specs.Contents.{Contents, source_rows}
use Rattle.ss_model.specs.Statements.{Context, Execution, Cascade, update_rows, delete_rows, context_query, insert_into, statement_effect, apply_effect, execute_statement, is_on_window, is_on_stream, run_triggers, cascade_to_depth, trigger_cascade}
use Rattle.ss_model.specs.Bodies.{emit_rows, exceeds_row_limit}
use Rattle.ss_model.specs.Scopes.{source_in_scope, join_in_scope, query_in_scope, statement_in_scope, is_on_a_stream, trigger_in_scope}
use Rattle.ss_lemmas.proofs.Bools.{first_of_two, second_of_two, each_filtered}

-- a statement makes the same whatever the inner streams are: it sees batches alone
pub other_inner : (context : Context) (inner : List ℕ) (inserted : Rows) (params : Row) (st : Statement) (s : Contents) → statement_effect (record context { inner = inner }) inserted params st s ≡ statement_effect context inserted params st s
unfolding update_rows delete_rows
other_inner context inner inserted params (InsertValues target vs) s = refl
other_inner context inner inserted params (InsertQuery target q) s = refl
other_inner context inner inserted params (Update t sets test) s = refl
other_inner context inner inserted params (Delete t test) s = refl

each_of : {A : Type 0} (test : A → Bool) (xs : List A) → list_all test xs ≡ true → AllByRecursion (λ x. test x ≡ true) xs
each_of test [] h = tt
each_of test (x ∷ xs) h = (first_of_two _ _ h, each_of test xs (second_of_two _ _ h))

module _ (context : Context) (batches : List Rows) where
  abbrev other : Context
  other = record context { batches = batches }

  source_unseen : (has : Bool) (from : SourceId) → source_in_scope context.catalog 0 has from ≡ true → (inserted : Rows) (s : Contents) → source_rows context.catalog context.split_value batches inserted s from ≡ source_rows context.catalog context.split_value context.batches inserted s from
  source_unseen has (FromTable t) h inserted s = refl
  source_unseen has (FromWindow w) h inserted s = refl
  source_unseen has (FromBatch i) h inserted s = let below : i < 0 = ltb-true _ _ h in absurd (omega arith)
  source_unseen has Inserted h inserted s = refl

  join_unseen : (has : Bool) (from : SourceId) (j : Option Joined) → join_in_scope context.catalog 0 has from j ≡ true → (inserted : Rows) (s : Contents) → join_source (source_rows context.catalog context.split_value batches inserted s) j ≡ join_source (source_rows context.catalog context.split_value context.batches inserted s) j
  join_unseen has from None h inserted s = refl
  join_unseen has from (Some j) h inserted s = ap (λ (rows : Rows). Some (j, rows)) (source_unseen has j.source (first_of_two _ _ h) inserted s)

  query_unseen : (has : Bool) (q : Query) → query_in_scope context.catalog 0 has q ≡ true → (inserted : Rows) (params : Row) (s : Contents) → context_query other inserted params q s ≡ context_query context inserted params q s
  query_unseen has q h inserted params s = λ i. query_result (source_unseen has q.from (first_of_two _ _ h) inserted s i) (join_unseen has q.from q.joined (second_of_two _ _ h) inserted s i) params q

  effect_unseen : (has : Bool) (st : Statement) → statement_in_scope context.catalog 0 has st ≡ true → (inserted : Rows) (params : Row) (s : Contents) → statement_effect other inserted params st s ≡ statement_effect context inserted params st s
  unfolding update_rows delete_rows
  effect_unseen has (InsertValues target vs) h inserted params s = refl
  effect_unseen has (InsertQuery target q) h inserted params s = ap (λ (found : OrAbort Rows). found >>= λ rows. insert_into context target rows s) (query_unseen has q (second_of_two _ _ h) inserted params s)
  effect_unseen has (Update t sets test) h inserted params s = refl
  effect_unseen has (Delete t test) h inserted params s = refl

  -- ---- triggers, whose statements are in scope

  abbrev IsPlain : Bool → Statement → Type 0
  IsPlain has st = statement_in_scope context.catalog 0 has st ≡ true

  abbrev ArePlain : TriggerDef → Type 0
  ArePlain t = AllByRecursion (IsPlain (is_on_a_stream t.on)) t.statements

  module _ (f g : Cascade) (same : (n : ℕ) (w : Execution) → f n w ≡ g n w) (inserted : Rows) where
    statements_unseen : (has : Bool) (sts : List Statement) → AllByRecursion (IsPlain has) sts → (w : Execution) → try_fold (execute_statement other f inserted []) sts w ≡ try_fold (execute_statement context g inserted []) sts w
    statements_unseen has [] plain w = refl
    statements_unseen has (st ∷ sts) plain w = λ i.
        (effect_unseen has st plain.0 inserted [] w.contents i >>= apply_effect context.catalog (λ n v. same n v i) w) >>= λ v. statements_unseen has sts plain.1 v i

    triggers_unseen : (ts : List TriggerDef) → AllByRecursion ArePlain ts → (w : Execution) → run_triggers other f inserted ts w ≡ run_triggers context g inserted ts w
    triggers_unseen [] plain w = refl
    triggers_unseen (t ∷ ts) plain w = λ i. statements_unseen (is_on_a_stream t.on) t.statements plain.0 w i >>= λ v. triggers_unseen ts plain.1 v i

  module _ (scope : list_all (trigger_in_scope context.catalog) (context.catalog).triggers ≡ true) where
    waiting_plain : (pick : TriggerDef → Bool) → AllByRecursion ArePlain (filter pick (context.catalog).triggers)
    waiting_plain pick = each_filtered ArePlain pick (trigger_in_scope context.catalog) (λ t e h. each_of _ t.statements h) (context.catalog).triggers scope

    cascade_unseen : (depth n : ℕ) (w : Execution) → cascade_to_depth depth other n w ≡ cascade_to_depth depth context n w
    cascade_unseen zero n w = refl
    cascade_unseen (suc depth) n w = triggers_unseen (cascade_to_depth depth other) (cascade_to_depth depth context) (cascade_unseen depth) [] _ (waiting_plain (λ t. is_on_window n t.on)) w

    -- so rows are emitted alike
    pub emit_unseen : (s : ℕ) (rows : Rows) (w : Execution) → emit_rows other s rows w ≡ emit_rows context s rows w
    emit_unseen s rows w =
        ap (abort_when (exceeds_row_limit (get_or w.emitted s []) rows) (BatchFull s))
        (triggers_unseen (trigger_cascade other) (trigger_cascade context) (cascade_unseen (length (context.catalog).windows)) rows _ (waiting_plain (λ t. is_on_stream s t.on)) (record w { emitted = set w.emitted s (get_or w.emitted s [] ++ rows) }))
