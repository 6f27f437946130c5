-- A procedure of an accepted catalogue uses what is in its touch set alone.
use Rattle.std.proofs.Common.{◌≡◌, ◌≤◌, ℕ, ◌==◌, true, List, [], ◌∷◌, map, refl, sym, ap, ◌∙◌, subst, Some, None, slice_get}
use Rattle.std.specs.declared.option.Option.{Option}
use Rattle.std.specs.List.{AllByRecursion, list_any}
use Rattle.ss_lemmas.proofs.EachOf.{all_with}
use Rattle.ss_model.specs.declared.catalog.Placement.{Placement}
use Rattle.ss_model.specs.declared.catalog.Placement.TheVariants.{Part as PlacedAt, By}
use Rattle.ss_model.specs.declared.catalog.Touch.{Touch}
use Rattle.ss_model.specs.declared.catalog.Touch.TheVariants.{Part, Arg, Multi, All}
use Rattle.ss_model.specs.declared.catalog.Procedure.{Procedure}
use Rattle.ss_model.specs.declared.catalog.Catalog.{Catalog}
use Rattle.ss_sql_trees.specs.declared.typed.Expr.{Expr}
use Rattle.ss_sql_trees.specs.declared.typed.Query.{Query}
use Rattle.ss_sql_trees.specs.declared.typed.Joined.{Joined}
use Rattle.ss_model.specs.declared.catalog.Step.{Step}
use Rattle.ss_model.specs.declared.catalog.Step.TheVariants.{Sql, AbortIf, ForEach, Emit, Local, Return}
use Rattle.ss_model.specs.Results.{try_map, WhenOk}
use Rattle.ss_value.specs.Rows.{Row, Rows, column_value}
use Rattle.ss_value.specs.Order.{values_equal}
use Rattle.ss_model.specs.Expressions.{expr_value}
use Rattle.ss_model.specs.Queries.{query_result}
use Rattle.ss_model.specs.Contents.{window_owner, table_placement, key_columns, key_position, row_key, has_split_value, matches_split}
use Rattle.ss_model.specs.Database.{split_value_for}
use Rattle.ss_model.specs.Claims.{Claims, StepClaim, UsesOnly}
use Rattle.ss_model.specs.Partitions.{in_touch_set, home_of, may_use, GivesArgument, SelectsArgument, local_claims}
use Rattle.ss_model.proofs.CallerLemmas.{when_ok_map, anything, all_of, values_at, context_query, key_column, same_self}
use Rattle.ss_model_laws.proofs.LocalClaims.{Implies, table_inside, query_implied, statement_implied, uses_implied, local_implied}
use Rattle.ss_model.specs.Accepted.{IsArg, IsCallStep, Keyed}
use Rattle.ss_model.specs.parts.Locality.{context_of, inside_scope, touched_keys, touched_windows}

-- the row's key is one that a procedure with these arguments sees
abbrev pub HasSplitValue : Touch → Option Placement → List ℕ → Row → Row → Type 0
HasSplitValue (Arg a) placement cs args row = has_split_value placement cs (column_value args a) (map (column_value row) cs) ≡ true
HasSplitValue _ placement cs args row = Unit {0}

split_so : (c : ℕ) (cs : List ℕ) (args : Row) (a : ℕ) (row : Row) → list_any (λ k. c == k) cs ≡ true → column_value row c ≡ column_value args a → values_equal (column_value (map (column_value row) cs) (key_position c cs)) (column_value args a) ≡ true
split_so c cs args a row k e = ap (λ v. values_equal v (column_value args a)) (key_column row c cs k ∙ e) ∙ same_self (column_value args a)

values_limit : (touch : Touch) (placement : Option Placement) (cs : List ℕ) (args : Row) (vs : List Expr) → may_use touch placement ≡ true → Keyed placement cs → GivesArgument touch placement vs → WhenOk (HasSplitValue touch placement cs args) (try_map (expr_value [] args) vs)
values_limit (Part x) placement cs args vs m k g = when_ok_map (λ _. Unit {0}) _ (try_map (expr_value [] args) vs) (λ row _. tt) (anything (try_map (expr_value [] args) vs))
values_limit (Multi xs) placement cs args vs m k g = when_ok_map (λ _. Unit {0}) _ (try_map (expr_value [] args) vs) (λ row _. tt) (anything (try_map (expr_value [] args) vs))
values_limit All placement cs args vs m k g = when_ok_map (λ _. Unit {0}) _ (try_map (expr_value [] args) vs) (λ row _. tt) (anything (try_map (expr_value [] args) vs))
values_limit (Arg a) (Some (By c)) cs args vs m k g = when_ok_map (λ row. column_value row c ≡ column_value args a) _ (try_map (expr_value [] args) vs) (λ row e. split_so c cs args a row k e) (values_at args vs c a g)
values_limit (Arg a) (Some (PlacedAt y)) cs args vs m k g = cc
values_limit (Arg a) None cs args vs m k g = cc

rows_limit : (touch : Touch) (placement : Option Placement) (cs : List ℕ) (args : Row) (q : Query) (outer : Rows) (inner : Option (Joined × Rows)) → may_use touch placement ≡ true → Keyed placement cs → SelectsArgument touch placement q.items → WhenOk (AllByRecursion (HasSplitValue touch placement cs args)) (query_result outer inner args q)
rows_limit (Part x) placement cs args q outer inner m k g = when_ok_map (λ _. Unit {0}) _ (query_result outer inner args q) (λ rows _. all_of _ (λ row. tt) rows) (anything (query_result outer inner args q))
rows_limit (Multi xs) placement cs args q outer inner m k g = when_ok_map (λ _. Unit {0}) _ (query_result outer inner args q) (λ rows _. all_of _ (λ row. tt) rows) (anything (query_result outer inner args q))
rows_limit All placement cs args q outer inner m k g = when_ok_map (λ _. Unit {0}) _ (query_result outer inner args q) (λ rows _. all_of _ (λ row. tt) rows) (anything (query_result outer inner args q))
rows_limit (Arg a) (Some (By c)) cs args q outer inner m k g =
    when_ok_map (AllByRecursion (λ row. column_value row c ≡ column_value args a)) _ (query_result outer inner args q) (λ rows all. all_with _ _ (λ row e. split_so c cs args a row k e) rows all) (context_query outer inner args q c a g)
rows_limit (Arg a) (Some (PlacedAt y)) cs args q outer inner m k g = cc
rows_limit (Arg a) None cs args q outer inner m k g = cc

module _ (catalog : Catalog) (n q : ℕ) (p : Procedure) (args : Row) (batches : List Rows) (some : 1 ≤ n) (keyed : (t : ℕ) → Keyed (table_placement (slice_get catalog.tables t)) (key_columns (slice_get catalog.tables t))) where
  abbrev scope : Claims
  scope = inside_scope (touched_keys catalog n p args) (touched_windows catalog n p args) (context_of catalog q p args batches)

  limit_put : (touch : Touch) (t : ℕ) (row : Row) → HasSplitValue touch (table_placement (slice_get catalog.tables t)) (key_columns (slice_get catalog.tables t)) args row → matches_split catalog (split_value_for touch args) t (row_key catalog t row) ≡ true
  limit_put (Part x) t row h = refl
  limit_put (Multi xs) t row h = refl
  limit_put All t row h = refl
  limit_put (Arg a) t row h = h

  -- a call procedure owns no window
  call_implied : ((w : ℕ) → window_owner catalog w ≡ Some q → ⊥) → Implies (λ row. row ≡ args) (local_claims catalog q p) scope
  call_implied none = record {
    table = table_inside catalog n q p args batches some;
    window = λ w o. absurd (none w o);
    values = λ params c t vs e g.
        subst (λ r. WhenOk (λ row. matches_split catalog (split_value_for p.touch args) t (row_key catalog t row) ≡ true) (try_map (expr_value [] r) vs)) (sym c)
        (when_ok_map _ _ (try_map (expr_value [] args) vs) (λ row h. limit_put p.touch t row h) (values_limit p.touch _ _ args vs e (keyed t) g));
    rows = λ params c t query e g outer inner.
        subst (λ r. WhenOk (AllByRecursion (λ row. matches_split catalog (split_value_for p.touch args) t (row_key catalog t row) ≡ true)) (query_result outer inner r query)) (sym c)
        (when_ok_map _ _ (query_result outer inner args query) (λ rows all. all_with _ _ (λ row h. limit_put p.touch t row h) rows all) (rows_limit p.touch _ _ args query outer inner e (keyed t) g));
  }

  call_step : (none : (w : ℕ) → window_owner catalog w ≡ Some q → ⊥) (x : Step) → IsCallStep x → StepClaim (local_claims catalog q p) catalog args x → StepClaim scope catalog args x
  call_step none (Sql s) i k = statement_implied (λ row. row ≡ args) (local_claims catalog q p) scope (call_implied none) args refl s k
  call_step none (AbortIf c code) i k = query_implied (λ row. row ≡ args) (local_claims catalog q p) scope (call_implied none) c.query k
  call_step none (ForEach input body) i k = absurd i
  call_step none (Emit s x) i k = absurd i
  call_step none (Local s x) i k = absurd i
  call_step none (Return x) i k = query_implied (λ row. row ≡ args) (local_claims catalog q p) scope (call_implied none) x k

  call_steps : ((w : ℕ) → window_owner catalog w ≡ Some q → ⊥) → (body : List Step) → AllByRecursion IsCallStep body → AllByRecursion (StepClaim (local_claims catalog q p) catalog args) body → AllByRecursion (StepClaim scope catalog args) body
  call_steps none [] i k = tt
  call_steps none (x ∷ body) i k = (call_step none x i.0 k.0, call_steps none body i.1 k.1)

  -- what a call procedure uses is in its touch set, `arg` or not
  pub call_covered : ((w : ℕ) → window_owner catalog w ≡ Some q → ⊥) → AllByRecursion IsCallStep p.body → UsesOnly (local_claims catalog q p) catalog q args p → UsesOnly scope catalog q args p
  call_covered none i k = record {
    steps = call_steps none p.body i k.steps;
    owned = λ w o. absurd (none w o);
    triggers = λ w o. absurd (none w o);
  }

  -- what a streaming procedure uses is in its touch set
  pub stream_covered : (IsArg p.touch → ⊥) → in_touch_set n p.touch args (home_of catalog n q) ≡ true → UsesOnly (local_claims catalog q p) catalog q args p → UsesOnly scope catalog q args p
  stream_covered apart home_touched k = uses_implied (λ row. Unit {0}) (local_claims catalog q p) scope (local_implied catalog n q p args batches some apart home_touched) (λ row. tt) catalog q args p k
