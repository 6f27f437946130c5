-- What an accepted catalogue says of a procedure's names puts all that it uses into its touch set.
use Rattle.std.proofs.Common.{◌≡◌, ◌≤◌, ℕ, ◌%◌, ◌==◌, Bool, true, false, List, [], ◌∷◌, refl, sym, ap, ◌∙◌, subst, Some, None, slice_get, ◌||◌, ◌⊎◌, inl, inr, ◌≢◌}
use Rattle.std.proofs.lemmas.Bool.{lt-ltb}
use Rattle.std.proofs.lemmas.Bool.Decides.{Decides-eqb, eqb_tells}
use Rattle.std.proofs.Math.Nat.{mod-lt}
use Rattle.std.specs.declared.option.Option.{Option}
use Rattle.std.specs.List.{list_any}
use Rattle.ss_lemmas.proofs.EachOf.{all_with}
use Rattle.ss_lemmas.proofs.Numbers.{eqb_self}
use Rattle.ss_value.specs.declared.value.Value.{Value}
use Rattle.ss_model.specs.declared.catalog.Placement.{Placement}
use Rattle.ss_model.specs.declared.catalog.Placement.TheVariants.{Part as PlacedAt, By}
use Rattle.ss_model.specs.declared.catalog.Touch.{Touch}
use Rattle.ss_model.specs.declared.catalog.Touch.TheVariants.{Part, Arg, Multi, All}
use Rattle.ss_model.specs.declared.catalog.Procedure.{Procedure}
use Rattle.ss_model.specs.declared.catalog.Catalog.{Catalog}
use Rattle.ss_sql_trees.specs.declared.typed.SourceId.{SourceId}
use Rattle.ss_sql_trees.specs.declared.typed.SourceId.TheVariants.{Table as FromTable, Window as FromWindow, Batch as FromBatch, Inserted}
use Rattle.ss_sql_trees.specs.declared.typed.Joined.{Joined}
use Rattle.ss_sql_trees.specs.declared.typed.Query.{Query}
use Rattle.ss_sql_trees.specs.declared.typed.Expr.{Expr}
use Rattle.ss_sql_trees.specs.declared.typed.Target.TheVariants.{Table as IntoTable, Window as IntoWindow}
use Rattle.ss_sql_trees.specs.declared.typed.Statement.{Statement}
use Rattle.ss_sql_trees.specs.declared.typed.Statement.TheVariants.{InsertValues, InsertQuery, Update, Delete}
use Rattle.ss_model.specs.declared.catalog.TriggerDef.{TriggerDef}
use Rattle.ss_model.specs.declared.catalog.Inner.{Inner}
use Rattle.ss_model.specs.declared.catalog.Inner.TheVariants.{Sql as InnerSql, AbortIf as InnerAbortIf}
use Rattle.ss_model.specs.declared.catalog.Step.{Step}
use Rattle.ss_model.specs.declared.catalog.Step.TheVariants.{Sql, AbortIf, ForEach, Emit, Local, Return}
use Rattle.ss_value.specs.Rows.{Row, Rows, column_value}
use Rattle.ss_model.specs.Contents.{window_owner, table_placement, key_columns, has_split_value, matches_split}
use Rattle.ss_model.specs.Statements.{Context}
use Rattle.ss_model.specs.Database.{split_value_for}
use Rattle.ss_model.specs.Claims.{Claims, SourceClaim, JoinClaim, QueryClaim, StatementClaim, TriggerClaim, InnerClaim, StepClaim, UsesOnly}
use Rattle.ss_value.specs.ValuePartition.{value_partition}
use Rattle.ss_model.specs.Partitions.{key_partition, in_touch_set, home_of, home_of_owner, may_use, local_claims}
use Rattle.ss_model.proofs.CallerLemmas.{value_part_below}
use Rattle.ss_model.proofs.CallerLemmas.{when_ok_map, anything, all_of}
use Rattle.ss_model.specs.Results.{try_map}
use Rattle.ss_model.specs.Expressions.{expr_value}
use Rattle.ss_model.specs.Queries.{query_result}
use Rattle.ss_value.proofs.CallerLemmas.{same_value}
use Rattle.ss_model.specs.Accepted.{IsArg}
use Rattle.ss_model.specs.parts.Locality.{IsPlaced, context_of, inside_scope, touched_keys, touched_windows}

-- from stronger claims to weaker ones, under parameters of which C holds
pub record Implies (C : Row → Type 0) (u v : Claims) : Type 0 where
  pub table : (t : ℕ) → u.table t → v.table t
  pub window : (w : ℕ) → u.window w → v.window w
  pub values : (params : Row) → C params → (t : ℕ) (vs : List Expr) → u.table t → u.values params t vs → v.values params t vs
  pub rows : (params : Row) → C params → (t : ℕ) (q : Query) → u.table t → u.rows params t q → v.rows params t q

module _ (C : Row → Type 0) (u v : Claims) (h : Implies C u v) where
  source_implied : (x : SourceId) → SourceClaim u x → SourceClaim v x
  source_implied (FromTable t) k = h.table t k
  source_implied (FromWindow w) k = h.window w k
  source_implied (FromBatch i) k = tt
  source_implied Inserted k = tt

  joined_implied : (j : Option Joined) → JoinClaim u j → JoinClaim v j
  joined_implied None k = tt
  joined_implied (Some j) k = source_implied j.source k

  pub query_implied : (q : Query) → QueryClaim u q → QueryClaim v q
  query_implied q k = (source_implied q.from k.0, joined_implied q.joined k.1)

  pub statement_implied : (params : Row) → C params → (s : Statement) → StatementClaim u params s → StatementClaim v params s
  statement_implied params c (InsertValues (IntoTable t) vs) k = (h.table t k.0, h.values params c t vs k.0 k.1)
  statement_implied params c (InsertValues (IntoWindow w) vs) k = h.window w k
  statement_implied params c (InsertQuery (IntoTable t) q) k = (query_implied q k.0, (h.table t (k.1).0, h.rows params c t q (k.1).0 (k.1).1))
  statement_implied params c (InsertQuery (IntoWindow w) q) k = (query_implied q k.0, h.window w k.1)
  statement_implied params c (Update t sets test) k = h.table t k
  statement_implied params c (Delete t test) k = h.table t k

  module _ (every : (row : Row) → C row) where
    trigger_implied : (t : TriggerDef) → TriggerClaim u t → TriggerClaim v t
    trigger_implied t k = all_with (StatementClaim u []) (StatementClaim v []) (statement_implied [] (every [])) t.statements k

    inner_implied : (x : Inner) → InnerClaim u x → InnerClaim v x
    inner_implied (InnerSql s) k = λ row. statement_implied row (every row) s (k row)
    inner_implied (InnerAbortIf c code) k = query_implied c.query k

    step_implied : (catalog : Catalog) (args : Row) (x : Step) → StepClaim u catalog args x → StepClaim v catalog args x
    step_implied catalog args (Sql s) k = statement_implied args (every args) s k
    step_implied catalog args (AbortIf c code) k = query_implied c.query k
    step_implied catalog args (ForEach input body) k = all_with (InnerClaim u) (InnerClaim v) inner_implied body k
    step_implied catalog args (Emit s q) k = (query_implied q k.0, all_with (TriggerClaim u) (TriggerClaim v) trigger_implied _ k.1)
    step_implied catalog args (Local s q) k = (query_implied q k.0, all_with (TriggerClaim u) (TriggerClaim v) trigger_implied _ k.1)
    step_implied catalog args (Return q) k = query_implied q k

    pub uses_implied : (catalog : Catalog) (n : ℕ) (args : Row) (p : Procedure) → UsesOnly u catalog n args p → UsesOnly v catalog n args p
    uses_implied catalog n args p k = record {
      steps = all_with (StepClaim u catalog args) (StepClaim v catalog args) (step_implied catalog args) p.body k.steps;
      owned = λ w o. h.window w (k.owned w o);
      triggers = λ w o. all_with (TriggerClaim u) (TriggerClaim v) trigger_implied _ (k.triggers w o);
    }

or_so : (a b : Bool) → (a ≡ true) ⊎ (b ≡ true) → (a || b) ≡ true
or_so true b h = refl
or_so false b (inl e) = cc
or_so false b (inr e) = e

any_by : (n y x : ℕ) (rest more : Bool) → ((x == y ≡ true) × (x ≡ y)) ⊎ ((x == y ≡ false) × (x ≢ y)) → (rest ≡ true → more ≡ true) → ((x == y) || rest) ≡ true → ((y % n == x % n) || more) ≡ true
any_by n y x rest more (inl h) k e = or_so _ _ (inl ((Decides-eqb (y % n) (x % n)).1 (ap (λ z. z % n) (sym h.1))))
any_by n y x rest more (inr h) k e = or_so _ _ (inr (k (sym (ap (λ b. b || rest) h.0) ∙ e)))

any_part : (n y : ℕ) (xs : List ℕ) → list_any (λ x. x == y) xs ≡ true → list_any (λ x. y % n == x % n) xs ≡ true
any_part n y [] e = e
any_part n y (x ∷ xs) e = any_by n y x _ _ (eqb_tells x y) (any_part n y xs) e

-- a placed table that a procedure may name stands in its touch set
placed_inside : (n : ℕ) (touch : Touch) (args : Row) (y : ℕ) → 1 ≤ n → may_use touch (Some (PlacedAt y)) ≡ true → in_touch_set n touch args (y % n) ≡ true
placed_inside n (Part x) args y some e = (Decides-eqb (y % n) (x % n)).1 (ap (λ z. z % n) (sym ((Decides-eqb x y).0 e)))
placed_inside n (Multi xs) args y some e = any_part n y xs e
placed_inside n All args y some e = lt-ltb (y % n) n (mod-lt y some)
placed_inside n (Arg a) args y some e = cc

-- so do the keys of a table that the execution sees
pub seen_inside : (n : ℕ) (touch : Touch) (args : Row) (placement : Option Placement) (cs : List ℕ) (key : Row) → 1 ≤ n → may_use touch placement ≡ true → (split_value : Option Value) → split_value ≡ split_value_for touch args → ((v : Value) → split_value ≡ Some v → has_split_value placement cs v key ≡ true) → in_touch_set n touch args (key_partition n placement cs key) ≡ true
seen_inside n touch args (Some (PlacedAt y)) cs key some e split_value o s = placed_inside n touch args y some e
seen_inside n (Part x) args (Some (By c)) cs key some e split_value o s = cc
seen_inside n (Multi xs) args (Some (By c)) cs key some e split_value o s = cc
seen_inside n All args (Some (By c)) cs key some e split_value o s = lt-ltb _ n (value_part_below n _ some)
seen_inside n (Arg a) args (Some (By c)) cs key some e split_value o s =
    let same = same_value _ _ (s (column_value args a) o) in
    ap (λ v. value_partition n v == value_partition n (column_value args a)) same ∙ eqb_self _
seen_inside n (Part x) args None cs key some e split_value o s = cc
seen_inside n (Multi xs) args None cs key some e split_value o s = cc
seen_inside n All args None cs key some e split_value o s = cc
seen_inside n (Arg a) args None cs key some e split_value o s = cc

module _ (catalog : Catalog) (n q : ℕ) (p : Procedure) (args : Row) (batches : List Rows) (some : 1 ≤ n) where
  here : Context
  here = context_of catalog q p args batches

  pub table_inside : (t : ℕ) → (local_claims catalog q p).table t → (inside_scope (touched_keys catalog n p args) (touched_windows catalog n p args) (context_of catalog q p args batches)).table t
  table_inside t e = (
    (λ key s. seen_inside n p.touch args (table_placement (slice_get catalog.tables t)) (key_columns (slice_get catalog.tables t)) key some e (split_value_for p.touch args) refl
        (λ v o. subst (λ x. matches_split catalog x t key ≡ true) o s)),
    (λ placed key. placed_all (table_placement (slice_get catalog.tables t)) placed e key),
  )
    where
      placed_all : (placement : Option Placement) → IsPlaced placement → may_use p.touch placement ≡ true → (key : Row) → in_touch_set n p.touch args (key_partition n placement (key_columns (slice_get catalog.tables t)) key) ≡ true
      placed_all None h e key = absurd h
      placed_all (Some (PlacedAt y)) h e key = placed_inside n p.touch args y some e
      placed_all (Some (By c)) h e key = absurd h

  pub window_inside : in_touch_set n p.touch args (home_of catalog n q) ≡ true → (w : ℕ) → window_owner catalog w ≡ Some q → (inside_scope (touched_keys catalog n p args) (touched_windows catalog n p args) (context_of catalog q p args batches)).window w
  window_inside home_touched w o = (o, ap (λ x. in_touch_set n p.touch args (home_of_owner catalog n x)) o ∙ home_touched)

  -- outside of `arg` each key is seen
  unlimited : (touch : Touch) → (IsArg touch → ⊥) → (t : ℕ) (key : Row) → matches_split catalog (split_value_for touch args) t key ≡ true
  unlimited (Part x) h t key = refl
  unlimited (Arg a) h t key = absurd (h tt)
  unlimited (Multi xs) h t key = refl
  unlimited All h t key = refl

  pub local_implied : (IsArg p.touch → ⊥) → in_touch_set n p.touch args (home_of catalog n q) ≡ true → Implies (λ row. Unit {0}) (local_claims catalog q p) (inside_scope (touched_keys catalog n p args) (touched_windows catalog n p args) (context_of catalog q p args batches))
  local_implied apart home_touched = record {
    table = table_inside;
    window = window_inside home_touched;
    values = λ params _ t vs e k. when_ok_map (λ _. Unit {0}) _ (try_map (expr_value [] params) vs) (λ row _. unlimited p.touch apart t _) (anything (try_map (expr_value [] params) vs));
    rows = λ params _ t query e k outer inner. when_ok_map (λ _. Unit {0}) _ (query_result outer inner params query) (λ rows _. all_of _ (λ row. unlimited p.touch apart t _) rows) (anything (query_result outer inner params query));
  }
