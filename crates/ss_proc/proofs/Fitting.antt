-- Bodies and triggers of an accepted catalogue may run.
use Rattle.std.proofs.Common.{◌≡◌, ◌∙◌, ◌<◌, ◌==◌, ◌||◌, ℕ, zero, suc, Bool, true, false, not, List, [], ◌∷◌, ◌++◌, length, slice_get, unwrap_or, Option, Some, refl, ap, sym, subst}
use Rattle.std.proofs.lemmas.Bool.{eqb-false, ltb-true}
use Rattle.std.proofs.lemmas.List.{length-map}
use Rattle.std.specs.List.{AllByRecursion, list_all}
use Rattle.std.specs.Option.{option_map}
use Rattle.std.specs.Prelude.{nat_lt}
use Rattle.ss_value.specs.declared.schema.Column.{Column}
use Rattle.ss_sql_trees.specs.declared.typed.SetTo.{SetTo}
use Rattle.ss_sql_trees.specs.declared.typed.Target.{Target}
use Rattle.ss_sql_trees.specs.declared.typed.Target.TheVariants.{Table as IntoTable, Window as IntoWindow}
use Rattle.ss_sql_trees.specs.declared.typed.Statement.{Statement}
use Rattle.ss_sql_trees.specs.declared.typed.Statement.TheVariants.{InsertValues, InsertQuery, Update, Delete}
use Rattle.ss_sql_trees.specs.WellTyped.{Schemas, ExprType, expr_type, types_fit, query_types, is_among, sets_typed, statement_typed}
use Rattle.ss_model.specs.declared.catalog.Catalog.{Catalog}
use Rattle.ss_model.specs.declared.catalog.Procedure.{Procedure}
use Rattle.ss_model.specs.declared.catalog.TriggerDef.{TriggerDef}
use Rattle.ss_model.specs.declared.catalog.Inner.{Inner}
use Rattle.ss_model.specs.declared.catalog.Inner.TheVariants.{Sql as InnerSql, AbortIf as InnerAbortIf}
use Rattle.ss_model.specs.declared.catalog.Step.{Step}
use Rattle.ss_model.specs.declared.catalog.Step.TheVariants.{Sql, AbortIf, ForEach, Emit, Local, Return}
use Rattle.ss_model.specs.declared.catalog.TableDef.{TableDef}
use Rattle.ss_model.specs.Accepted.{Accepted}
use Rattle.ss_model.specs.CatalogForm.{numbers_in_range}
use Rattle.ss_model.specs.Database.{Database, empty_database, present, streams_read}
use Rattle.ss_model.specs.Contents.{key_columns}
use Rattle.ss_model.specs.Scopes.{procedure_in_scope, trigger_in_scope, is_on_a_stream, step_in_scope, inner_in_scope, statement_in_scope, target_in_scope}
use Rattle.ss_model.specs.Typing.{procedure_typed, trigger_typed, trigger_schema, input_schema, schemas_of, step_typed, inner_typed, target_schema}
use Rattle.ss_model.proofs.CallerLemmas.{few_triggers, numbers_of}
use Rattle.ss_model_laws.proofs.CallerLemmas.{present_accepted}
use Rattle.ss_lemmas.proofs.Bools.{first_of_two, second_of_two, at_index}
use Rattle.ss_plan.specs.Statements.{FitsTables, FitsTarget}
use Rattle.ss_shard.specs.Bodies.{present_on, texts_of}
use Rattle.ss_shard.specs.Shards.{IsOf}
use Rattle.ss_shard.specs.ShardValue.{ShardValue}
use Rattle.ss_shard.proofs.CallerLemmas.{present_held}
use Rattle.ss_proc.specs.Executions.{InnerRuns, StepRuns, MayRun, ProcedureRuns}

-- ---- what the form says

abbrev key_in_range : TableDef → Bool
key_in_range d = list_all (λ c. nat_lt c (length d.schema)) d.key

keys_of : (catalog : Catalog) → numbers_in_range catalog ≡ true → list_all key_in_range catalog.tables ≡ true
keys_of catalog h = first_of_two _ _ (first_of_two _ _ (first_of_two _ _ (first_of_two _ _ h)))

-- ---- what typing says

-- as many values as columns
fits_count : (ts : List (Option ExprType)) (cs : List Column) → types_fit ts cs ≡ true → length ts ≡ length cs
fits_count [] [] h = refl
fits_count [] (c ∷ cs) h = cc
fits_count (t ∷ ts) [] h = cc
fits_count (t ∷ ts) (c ∷ cs) h = ap suc (fits_count ts cs (second_of_two _ _ h))

neither_first : (a b : Bool) → not (a || b) ≡ true → a ≡ false
neither_first true b h = cc
neither_first false b h = refl

neither_second : (a b : Bool) → not (a || b) ≡ true → not b ≡ true
neither_second true b h = cc
neither_second false b h = h

not_among : (key : List ℕ) (c : ℕ) → not (is_among key c) ≡ true → AllByRecursion (λ k. k ≡ c → ⊥) key
not_among [] c h = tt
not_among (k ∷ key) c h = (eqb-false k c (neither_first (k == c) (is_among key c) h), not_among key c (neither_second (k == c) (is_among key c) h))

-- no SET names a key column
keys_stay : (s : Schemas) (columns : List Column) (key earlier : List ℕ) (sets : List SetTo) → sets_typed s columns key earlier sets ≡ true → AllByRecursion (λ (to : SetTo). AllByRecursion (λ k. k ≡ to.column → ⊥) key) sets
keys_stay s columns key earlier [] h = tt
keys_stay s columns key earlier (to ∷ sets) h =
    (not_among key to.column (second_of_two _ _ (first_of_two _ _ (first_of_two _ _ h))), keys_stay s columns key (earlier ++ to.column ∷ []) sets (second_of_two _ _ h))

-- ---- the keys of tables

all_less : (n : ℕ) (cs : List ℕ) → list_all (λ c. nat_lt c n) cs ≡ true → AllByRecursion (λ k. k < n) cs
all_less n [] h = tt
all_less n (c ∷ cs) h = (ltb-true c n (first_of_two _ _ h), all_less n cs (second_of_two _ _ h))

key_below : (ds : List TableDef) (t : ℕ) → list_all key_in_range ds ≡ true →
    AllByRecursion (λ k. k < length (unwrap_or (option_map (λ (d : TableDef). d.schema) (slice_get ds t)) [])) (key_columns (slice_get ds t))
key_below [] t h = tt
key_below (d ∷ ds) zero h = all_less (length d.schema) d.key (first_of_two _ _ h)
key_below (d ∷ ds) (suc t) h = key_below ds t (second_of_two _ _ h)

-- ---- statements

module _ (catalog : Catalog) (keys : list_all key_in_range catalog.tables ≡ true) where
  target_fits : (count inputs : ℕ) (inserted : Bool) (target : Target) → count ≡ length (target_schema catalog target) → target_in_scope catalog inputs inserted target ≡ true → FitsTarget catalog count target
  target_fits count inputs inserted (IntoTable t) e scope =
      (ltb-true t (length catalog.tables) scope, subst (λ n. AllByRecursion (λ k. k < n) (key_columns (slice_get catalog.tables t))) (sym e) (key_below catalog.tables t keys))
  target_fits count inputs inserted (IntoWindow w) e scope = ltb-true w (length catalog.windows) scope

  fits : (inputs : List ℕ) (inserted params : List Column) (count : ℕ) (has_inserted : Bool) (s : Statement) → statement_typed (schemas_of catalog inputs inserted params) s ≡ true → statement_in_scope catalog count has_inserted s ≡ true → FitsTables catalog s
  fits inputs inserted params count has (InsertValues target values) typed scope =
      target_fits (length values) count has target (sym (length-map values (expr_type [] params)) ∙ fits_count _ _ typed) scope
  fits inputs inserted params count has (InsertQuery target q) typed scope =
      target_fits (length q.items) count has target (sym (length-map q.items _) ∙ fits_count (query_types (schemas_of catalog inputs inserted params) q) (target_schema catalog target) (second_of_two _ _ typed)) (first_of_two _ _ scope)
  fits inputs inserted params count has (Update t sets test) typed scope = (ltb-true t (length catalog.tables) scope, keys_stay (schemas_of catalog inputs inserted params) _ _ [] sets (first_of_two _ _ typed))
  fits inputs inserted params count has (Delete t test) typed scope = ltb-true t (length catalog.tables) scope

  -- ---- triggers

  statements_fit : (inserted : List Column) (has : Bool) (ss : List Statement) → list_all (statement_typed (schemas_of catalog [] inserted [])) ss ≡ true → list_all (statement_in_scope catalog 0 has) ss ≡ true → AllByRecursion (FitsTables catalog) ss
  statements_fit inserted has [] typed scope = tt
  statements_fit inserted has (s ∷ ss) typed scope =
      (fits [] inserted [] 0 has s (first_of_two _ _ typed) (first_of_two _ _ scope), statements_fit inserted has ss (second_of_two _ _ typed) (second_of_two _ _ scope))

  triggers_fit : (ts : List TriggerDef) → list_all (trigger_typed catalog) ts ≡ true → list_all (trigger_in_scope catalog) ts ≡ true → AllByRecursion (λ t. AllByRecursion (FitsTables catalog) t.statements) ts
  triggers_fit [] typed scope = tt
  triggers_fit (t ∷ ts) typed scope =
      (statements_fit (trigger_schema catalog t.on) (is_on_a_stream t.on) t.statements (first_of_two _ _ typed) (first_of_two _ _ scope), triggers_fit ts (second_of_two _ _ typed) (second_of_two _ _ scope))

  -- ---- steps

  module _ (inputs : List ℕ) where
    inners_run : (params : List Column) (body : List Inner) → list_all (inner_typed catalog inputs [] params) body ≡ true → list_all (inner_in_scope catalog (length inputs) false) body ≡ true → AllByRecursion (InnerRuns catalog) body
    inners_run params [] typed scope = tt
    inners_run params (InnerSql s ∷ body) typed scope = (fits inputs [] params (length inputs) false s (first_of_two _ _ typed) (first_of_two _ _ scope), inners_run params body (second_of_two _ _ typed) (second_of_two _ _ scope))
    inners_run params (InnerAbortIf c code ∷ body) typed scope = (tt, inners_run params body (second_of_two _ _ typed) (second_of_two _ _ scope))

    step_runs : (params : List Column) (s : Step) → step_typed catalog inputs [] params s ≡ true → step_in_scope catalog (length inputs) false s ≡ true → StepRuns catalog s
    step_runs params (Sql s) typed scope = fits inputs [] params (length inputs) false s typed scope
    step_runs params (AbortIf c code) typed scope = tt
    step_runs params (ForEach input body) typed scope = inners_run (input_schema catalog inputs [] input) body (second_of_two _ _ typed) (second_of_two _ _ scope)
    step_runs params (Emit s q) typed scope = tt
    step_runs params (Local s q) typed scope = tt
    step_runs params (Return q) typed scope = tt

    steps_run : (params : List Column) (steps : List Step) → list_all (step_typed catalog inputs [] params) steps ≡ true → list_all (step_in_scope catalog (length inputs) false) steps ≡ true → AllByRecursion (StepRuns catalog) steps
    steps_run params [] typed scope = tt
    steps_run params (s ∷ steps) typed scope =
        (step_runs params s (first_of_two _ _ typed) (first_of_two _ _ scope), steps_run params steps (second_of_two _ _ typed) (second_of_two _ _ scope))

module _ (catalog : Catalog) (accepted : Accepted catalog) where
  all_keys : list_all key_in_range catalog.tables ≡ true
  all_keys = keys_of catalog (numbers_of catalog accepted.form)

  -- executions may run
  pub may_run : MayRun catalog
  may_run = record {
    keyed = accepted.structure.keyed;
    triggers = triggers_fit catalog all_keys catalog.triggers (second_of_two _ _ accepted.typed) (second_of_two _ _ accepted.in_scope);
    scope = second_of_two _ _ accepted.in_scope;
    few = few_triggers catalog accepted.form;
  }

  own_fits : (q : ℕ) (p : Procedure) → slice_get catalog.procedures q ≡ Some p → AllByRecursion (StepRuns catalog) p.body
  own_fits q p is =
      let typed : procedure_typed catalog p ≡ true = at_index (procedure_typed catalog) catalog.procedures (first_of_two _ _ accepted.typed) q p is in
      let scope : procedure_in_scope catalog p ≡ true = at_index (procedure_in_scope catalog) catalog.procedures (first_of_two _ _ accepted.in_scope) q p is in
      steps_run catalog all_keys (streams_read p) p.args p.body typed scope

  -- each step of each procedure may run, whatever body it has
  pub body_fits : (q : ℕ) (p : Procedure) → slice_get catalog.procedures q ≡ Some p → ProcedureRuns catalog q p
  body_fits q p is = record {
    own = own_fits q p is;
    installed = λ db. let a = present_accepted catalog accepted q p is db in steps_run catalog all_keys (streams_read p) p.args (present catalog db q p).body a.typed a.in_scope;
  }

  -- so may those that it has on a shard
  pub present_fits : (shard : ShardValue) → IsOf catalog shard → (q : ℕ) (p : Procedure) → slice_get catalog.procedures q ≡ Some p → AllByRecursion (StepRuns catalog) (present_on catalog shard q p).body
  present_fits shard of_catalog q p is =
      let db : Database = record (empty_database catalog) { bodies = texts_of catalog shard.bodies } in
      subst (λ (d : Procedure). AllByRecursion (StepRuns catalog) d.body) (present_held catalog shard db refl of_catalog q p is) ((body_fits q p is).installed db)
