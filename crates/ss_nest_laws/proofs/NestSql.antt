-- The SQL of a catalogue with nests is well typed and in scope.
use Rattle.std.proofs.Common.{◌≡◌, ◌&&◌, ◌⊎◌, inl, inr, not, nat_lt, ℕ, Bool, true, false, List, [], length, slice_get, refl, sym, ap, ◌∙◌, subst, Some, None}
use Rattle.std.specs.declared.option.Option.{Option}
use Rattle.std.specs.List.{list_all}
use Rattle.std.proofs.lemmas.List.{length-map}
use Rattle.ss_value.specs.declared.schema.Column.{Column}
use Rattle.ss_sql_trees.specs.declared.typed.SourceId.{SourceId}
use Rattle.ss_sql_trees.specs.declared.typed.SourceId.TheVariants.{Table as FromTable, Window as FromWindow, Batch as FromBatch, Inserted}
use Rattle.ss_sql_trees.specs.declared.typed.Joined.{Joined}
use Rattle.ss_sql_trees.specs.declared.typed.Query.{Query}
use Rattle.ss_sql_trees.specs.declared.typed.Statement.{Statement}
use Rattle.ss_sql_trees.specs.declared.typed.Statement.TheVariants.{InsertValues, InsertQuery, Update, Delete}
use Rattle.ss_sql_trees.specs.declared.typed.Target.{Target}
use Rattle.ss_sql_trees.specs.declared.typed.Target.TheVariants.{Table as IntoTable, Window as IntoWindow}
use Rattle.ss_sql_trees.specs.WellTyped.{Schemas, types_fit, query_types, query_typed, condition_typed, statement_typed}
use Rattle.ss_model.specs.declared.catalog.Catalog.{Catalog}
use Rattle.ss_model.specs.declared.catalog.Nest.{Nest}
use Rattle.ss_model.specs.declared.catalog.Procedure.{Procedure}
use Rattle.ss_model.specs.declared.catalog.Inner.{Inner}
use Rattle.ss_model.specs.declared.catalog.Inner.TheVariants.{Sql as InnerSql, AbortIf as InnerAbortIf}
use Rattle.ss_model.specs.declared.catalog.Step.{Step}
use Rattle.ss_model.specs.declared.catalog.Step.TheVariants.{Sql, AbortIf, ForEach, Emit, Local, Return}
use Rattle.ss_model.specs.declared.catalog.TriggerDef.{TriggerDef}
use Rattle.ss_model.specs.Results.{and_behind}
use Rattle.ss_model.specs.Database.{is_streaming, stream_schema, takes_stream}
use Rattle.ss_model.specs.Typing.{input_schema, source_schema, schemas_of, inner_typed, step_typed, procedure_typed, trigger_schema, trigger_typed}
use Rattle.ss_model.specs.Scopes.{is_same_source, source_in_scope, join_in_scope, query_in_scope, target_in_scope, statement_in_scope, inner_in_scope, step_in_scope, is_on_a_stream, procedure_in_scope, trigger_in_scope}
use Rattle.ss_model.specs.Accepted.{Accepted}
use Rattle.ss_model.specs.Nests.{AreNests, MayNest, nest_procedure, inner_streams, moved_input, moved_step, moved_body, joined_body, nested_window, nested_catalog}
use Rattle.ss_lemmas.proofs.Bools.{first_of_two, second_of_two, some_same, at_index}
use Rattle.ss_model_laws.proofs.CallerLemmas.{named}
use Rattle.ss_nest_laws.proofs.Lists.{among, head_among, in_front, in_back, all_mapped, all_joined}
use Rattle.ss_nest_laws.proofs.NestMembers.{head_or_inside, takes_is, no_args, streams_of, inputs_apart}
use Rattle.ss_nest_laws.proofs.NestTyped.{moved_stream, window_same, target_same, step_moved, step_there}
use Rattle.ss_nest_laws.proofs.Standing.{OneNest}

module _ (catalog : Catalog) (accepted : Accepted catalog) (nests : List Nest) (text : List ℕ) (are : AreNests catalog nests) where
  abbrev nested : Catalog
  nested = nested_catalog catalog nests text

  -- ---- what is not moved

  source_plain : (inputs : List ℕ) (inserted : List Column) (src : SourceId) → source_schema nested inputs inserted src ≡ source_schema catalog inputs inserted src
  source_plain inputs inserted (FromTable t) = refl
  source_plain inputs inserted (FromWindow n) = window_same catalog nests text inputs inputs (λ i. i) (λ i. refl) n
  source_plain inputs inserted (FromBatch i) = refl
  source_plain inputs inserted Inserted = refl

  schemas_same : (inputs : List ℕ) (inserted params : List Column) → schemas_of nested inputs inserted params ≡ schemas_of catalog inputs inserted params
  schemas_same inputs inserted params = λ i. record {
    sources = λ src. source_plain inputs inserted src i;
    targets = λ t. target_same catalog nests text inputs inputs (λ i. i) (λ i. refl) t i;
    keys = (schemas_of catalog inputs inserted params).keys;
    params = params;
  }

  trigger_same : (t : TriggerDef) → trigger_typed nested t ≡ trigger_typed catalog t
  trigger_same t = ap (λ (s : Schemas). list_all (statement_typed s) t.statements) (schemas_same [] (trigger_schema catalog t.on) [])

  pub triggers_typed : list_all (trigger_typed nested) catalog.triggers ≡ true
  triggers_typed = (λ i. list_all (λ t. trigger_same t i) catalog.triggers) ∙ second_of_two _ _ accepted.typed

  plain_inner : (inputs : List ℕ) (params : List Column) (x : Inner) → inner_typed nested inputs [] params x ≡ inner_typed catalog inputs [] params x
  plain_inner inputs params (InnerSql st) = ap (λ (s : Schemas). statement_typed s st) (schemas_same inputs [] params)
  plain_inner inputs params (InnerAbortIf c code) = ap (λ (s : Schemas). condition_typed s c) (schemas_same inputs [] params)

  plain_step : (inputs : List ℕ) (params : List Column) (x : Step) → step_typed nested inputs [] params x ≡ step_typed catalog inputs [] params x
  plain_step inputs params (Sql st) = ap (λ (s : Schemas). statement_typed s st) (schemas_same inputs [] params)
  plain_step inputs params (AbortIf c code) = ap (λ (s : Schemas). condition_typed s c) (schemas_same inputs [] params)
  plain_step inputs params (ForEach i body) = λ j. nat_lt i (length inputs) && list_all (λ x. plain_inner inputs (input_schema catalog inputs [] i) x j) body
  plain_step inputs params (Emit t q) = ap (λ (s : Schemas). query_typed s q && types_fit (query_types s q) (stream_schema catalog t)) (schemas_same inputs [] params)
  plain_step inputs params (Local t q) = ap (λ (s : Schemas). query_typed s q && types_fit (query_types s q) (stream_schema catalog t)) (schemas_same inputs [] params)
  plain_step inputs params (Return q) = ap (λ (s : Schemas). query_typed s q) (schemas_same inputs [] params)

  pub plain_typed : (inputs : List ℕ) (params : List Column) (body : List Step) → list_all (step_typed catalog inputs [] params) body ≡ true → list_all (step_typed nested inputs [] params) body ≡ true
  plain_typed inputs params body h = (λ j. list_all (λ x. plain_step inputs params x j) body) ∙ h

  -- ---- what is

  module _ (k : OneNest catalog nests) where
    abbrev members : List ℕ
    members = (k.nest).members

    may : MayNest catalog members
    may = are.each k.place k.nest k.stands

    abbrev inner : List ℕ
    inner = inner_streams catalog members

    abbrev reads : List ℕ
    reads = and_behind (k.first).inputs inner

    among_head : among k.head members ≡ true
    among_head = head_among members k.head k.at_head

    -- each input of a member is read by the nest
    read_there : (q : ℕ) (p : Procedure) → slice_get catalog.procedures q ≡ Some p → among q members ≡ true → (s : ℕ) → takes_stream s p ≡ true → among s reads ≡ true
    read_there q p is a s takes = by (head_or_inside catalog accepted members may are.plain k.head k.first k.at_head k.first_is q a s (takes_is catalog accepted q p is s ∙ takes))
      where
        by : (k.head ≡ q) ⊎ (among s inner ≡ true) → among s reads ≡ true
        by (inl here) =
            let own : k.first ≡ p = some_same k.first p (sym k.first_is ∙ ap (slice_get catalog.procedures) here ∙ is) in
            in_front (k.first).inputs inner s (ap (takes_stream s) own ∙ takes)
        by (inr behind) = in_back (k.first).inputs inner s behind

    member_args : (q : ℕ) (p : Procedure) → slice_get catalog.procedures q ≡ Some p → among q members ≡ true → p.args ≡ []
    member_args q p is a = no_args catalog accepted q p is (streams_of catalog accepted members may are.plain k.head k.first k.at_head k.first_is q p is a)

    member_typed : (q : ℕ) → among q members ≡ true → list_all (step_typed nested reads [] []) (moved_body reads inner (slice_get catalog.procedures q)) ≡ true
    member_typed q a =
        let (p, is, streams) = named (λ p. is_streaming p.kind) (slice_get catalog.procedures q) (may.streaming q a) in
        let own : list_all (step_typed catalog (and_behind p.inputs p.inner) [] p.args) p.body ≡ true = at_index (procedure_typed catalog) catalog.procedures (first_of_two _ _ accepted.typed) q p is in
        let typed : list_all (step_typed catalog p.inputs [] []) p.body ≡ true =
        subst (λ args. list_all (step_typed catalog p.inputs [] args) p.body ≡ true) (member_args q p is a)
        (subst (λ z. list_all (step_typed catalog (and_behind p.inputs z) [] p.args) p.body ≡ true) (are.plain q p is).0 own) in
        ap (λ o. list_all (step_typed nested reads [] []) (moved_body reads inner o)) is
        ∙ all_mapped (step_typed nested reads [] []) (moved_step (moved_input reads p.inputs) inner) (step_typed catalog p.inputs [] [])
        (λ x h. step_moved catalog nests text reads p.inputs (moved_input reads p.inputs) (moved_stream reads p.inputs (λ s e. read_there q p is a s e)) inner x h) p.body typed

    pub nest_typed : procedure_typed nested (nest_procedure catalog k.nest k.first) ≡ true
    nest_typed =
        ap (λ args. list_all (step_typed nested reads [] args) (joined_body catalog reads inner members)) (member_args k.head k.first k.first_is among_head)
        ∙ all_joined (step_typed nested reads [] []) (λ q. moved_body reads inner (slice_get catalog.procedures q)) members member_typed

    member_scope : (q : ℕ) → among q members ≡ true → list_all (step_in_scope nested (length reads) false) (moved_body reads inner (slice_get catalog.procedures q)) ≡ true
    member_scope q a =
        let (p, is, streams) = named (λ p. is_streaming p.kind) (slice_get catalog.procedures q) (may.streaming q a) in
        let own : list_all (step_in_scope catalog (length (and_behind p.inputs p.inner)) false) p.body ≡ true = at_index (procedure_in_scope catalog) catalog.procedures (first_of_two _ _ accepted.in_scope) q p is in
        let scope : list_all (step_in_scope catalog (length p.inputs) false) p.body ≡ true = subst (λ z. list_all (step_in_scope catalog (length (and_behind p.inputs z)) false) p.body ≡ true) (are.plain q p is).0 own in
        ap (λ o. list_all (step_in_scope nested (length reads) false) (moved_body reads inner o)) is
        ∙ all_mapped (step_in_scope nested (length reads) false) (moved_step (moved_input reads p.inputs) inner) (step_in_scope catalog (length p.inputs) false)
        (λ x h. step_there catalog nests text reads p.inputs (moved_input reads p.inputs) (moved_stream reads p.inputs (λ s e. read_there q p is a s e)) (inputs_apart catalog accepted q p is are.plain) inner x h) p.body scope

    pub nest_in_scope : procedure_in_scope nested (nest_procedure catalog k.nest k.first) ≡ true
    nest_in_scope = all_joined (step_in_scope nested (length reads) false) (λ q. moved_body reads inner (slice_get catalog.procedures q)) members member_scope

  -- ---- scopes

  module _ (count : ℕ) (has : Bool) where
    scope_source : (src : SourceId) → source_in_scope nested count has src ≡ source_in_scope catalog count has src
    scope_source (FromTable t) = refl
    scope_source (FromWindow n) = ap (nat_lt n) (length-map catalog.windows (nested_window nests))
    scope_source (FromBatch i) = refl
    scope_source Inserted = refl

    scope_join : (from : SourceId) (j : Option Joined) → join_in_scope nested count has from j ≡ join_in_scope catalog count has from j
    scope_join from None = refl
    scope_join from (Some j) = λ i. scope_source j.source i && not (is_same_source from j.source)

    scope_query : (q : Query) → query_in_scope nested count has q ≡ query_in_scope catalog count has q
    scope_query q = λ i. scope_source q.from i && scope_join q.from q.joined i

    scope_target : (t : Target) → target_in_scope nested count has t ≡ target_in_scope catalog count has t
    scope_target (IntoTable t) = refl
    scope_target (IntoWindow n) = ap (nat_lt n) (length-map catalog.windows (nested_window nests))

    scope_statement : (st : Statement) → statement_in_scope nested count has st ≡ statement_in_scope catalog count has st
    scope_statement (InsertValues target vs) = scope_target target
    scope_statement (InsertQuery target q) = λ i. scope_target target i && scope_query q i
    scope_statement (Update t sets test) = refl
    scope_statement (Delete t test) = refl

    scope_inner : (x : Inner) → inner_in_scope nested count has x ≡ inner_in_scope catalog count has x
    scope_inner (InnerSql st) = scope_statement st
    scope_inner (InnerAbortIf c code) = scope_query c.query

    scope_step : (x : Step) → step_in_scope nested count has x ≡ step_in_scope catalog count has x
    scope_step (Sql st) = scope_statement st
    scope_step (AbortIf c code) = scope_query c.query
    scope_step (ForEach n body) = λ i. nat_lt n count && list_all (λ x. scope_inner x i) body
    scope_step (Emit s q) = λ i. nat_lt s (length catalog.streams) && scope_query q i
    scope_step (Local s q) = λ i. nat_lt s (length catalog.streams) && scope_query q i
    scope_step (Return q) = scope_query q

  pub plain_in_scope : (count : ℕ) (body : List Step) → list_all (step_in_scope catalog count false) body ≡ true → list_all (step_in_scope nested count false) body ≡ true
  plain_in_scope count body h = (λ i. list_all (λ x. scope_step count false x i) body) ∙ h

  pub triggers_in_scope : list_all (trigger_in_scope nested) catalog.triggers ≡ true
  triggers_in_scope = (λ i. list_all (λ t. list_all (λ st. scope_statement 0 (is_on_a_stream t.on) st i) t.statements) catalog.triggers) ∙ second_of_two _ _ accepted.in_scope
