-- Contents with equal tables, and for each window the same number of units and the same kept units.
use Rattle.std.proofs.Common.{◌≡◌, ℕ, zero, suc, ◌+◌, ◌-◌, ◌*◌, ◌/◌, ◌≤◌, nat_lt, Bool, true, false, cond, List, [], ◌∷◌, ◌++◌, length, get_or, set, take, drop, refl, sym, ap, ◌∙◌, subst, Some, None, length-set, length-append, is_some, slice_get, arith}
use Rattle.std.proofs.Math.Nat.{div-mul-le_self, le_trans}
use Rattle.std.proofs.lemmas.List.{drop-append-le}
use Rattle.std.proofs.lemmas.Bool.{ltb-false}
use Rattle.std.specs.List.{fold, flat_map}
use Rattle.std.specs.FinMap as finmap
use Rattle.ss_model.specs.declared.catalog.WindowDef.{WindowDef}
use Rattle.ss_value.specs.Rows.{Row, Rows}
use Rattle.ss_model.specs.Contents.{Window, Contents, window_def, first_kept, visible_count, kept_units, table_at, window_units, append_unit, put_entries, remove_entries, visible_table, matches_split, row_key, table_placement}
use Rattle.ss_model.specs.Statements.{Context, is_table_full, insert_row}
use Rattle.ss_model.specs.KeptRuns.{SameWindow, SameKept}
use Rattle.ss_model_kept.proofs.ListItems.{set_two}
use Rattle.ss_model_kept.proofs.Related.{Related, equal_test_abort}
use Rattle.ss_model_kept.proofs.Respects.{Respects, ExecutionRelated, body_related}
use Rattle.ss_model.specs.Claims.{Claims, SourceClaim, JoinClaim, QueryClaim, StatementClaim, TriggerClaim, InnerClaim, StepClaim}
use Rattle.ss_model.proofs.CallerLemmas.{when_ok_map, all_of, anything}
use Rattle.std.specs.declared.option.Option.{Option}
use Rattle.ss_lemmas.proofs.Numbers.{multiples}
use Rattle.ss_sql_trees.specs.declared.typed.Query.{Query}
use Rattle.ss_sql_trees.specs.declared.typed.Joined.{Joined}
use Rattle.ss_sql_trees.specs.declared.typed.SourceId.{SourceId}
use Rattle.ss_sql_trees.specs.declared.typed.SourceId.TheVariants.{Table as FromTable, Window as FromWindow, Batch as FromBatch, Inserted}
use Rattle.ss_sql_trees.specs.declared.typed.Target.TheVariants.{Table as IntoTable, Window as IntoWindow}
use Rattle.ss_sql_trees.specs.declared.typed.Statement.{Statement}
use Rattle.ss_sql_trees.specs.declared.typed.Statement.TheVariants.{InsertValues, InsertQuery, Update, Delete}
use Rattle.ss_model.specs.declared.catalog.TriggerDef.{TriggerDef}
use Rattle.ss_model.specs.declared.catalog.Inner.{Inner}
use Rattle.ss_model.specs.declared.catalog.Inner.TheVariants.{Sql as InnerSql, AbortIf as InnerAbortIf}
use Rattle.ss_model.specs.declared.catalog.Step.{Step}
use Rattle.ss_model.specs.declared.catalog.Step.TheVariants.{Sql, AbortIf, ForEach, Emit, Local, Return}
use Rattle.ss_model.specs.Results.{try_map}
use Rattle.ss_model.specs.Expressions.{expr_value}
use Rattle.ss_model.specs.Queries.{query_result}
use Rattle.ss_model.specs.Bodies.{run_body}

later : (d : WindowDef) (k : ℕ) (a b : Bool) → nat_lt k d.size ≡ a → nat_lt (suc k) d.size ≡ b → cond a 0 ((k - d.size) / d.slide * d.slide) ≤ cond b 0 ((suc k - d.size) / d.slide * d.slide)
later d k true b e f = omega arith
later d k false true e f = let h : d.size ≤ k = ltb-false _ _ e in absurd (grind arith)
later d k false false e f = multiples d.slide (k - d.size) (suc k - d.size) (omega arith)

more_kept : (d : WindowDef) (k : ℕ) → first_kept d k ≤ first_kept d (suc k)
more_kept d k = later d k _ _ refl refl

few : (d : WindowDef) (k : ℕ) (a : Bool) → cond a 0 ((k - d.size) / d.slide * d.slide) ≤ k
few d k true = omega arith
few d k false = le_trans (div-mul-le_self (k - d.size) d.slide) (omega arith)

few_kept : (d : WindowDef) (k : ℕ) → first_kept d k ≤ k
few_kept d k = few d k (nat_lt k d.size)

drop_nil : {A : Type 0} (n : ℕ) → drop {A = A} n [] ≡ []
drop_nil zero = refl
drop_nil (suc n) = refl

pub drop_on : {A : Type 0} (a b : ℕ) (xs : List A) → drop (a + b) xs ≡ drop b (drop a xs)
drop_on zero b xs = ap (λ n. drop n xs) (omega arith)
drop_on (suc a) b [] = drop_nil (suc a + b) ∙ sym (drop_nil b)
drop_on {A = A} (suc a) b (x ∷ xs) = let e : suc a + b ≡ suc (a + b) = omega arith in ap (λ n. drop {A = A} n (x ∷ xs)) e ∙ drop_on a b xs

-- the kept units after one more, from those before
pub kept_more : (d : WindowDef) (us : Window) (unit : Rows) → kept_units d (us ++ unit ∷ []) ≡ drop (first_kept d (suc (length us)) - first_kept d (length us)) (kept_units d us ++ unit ∷ [])
kept_more d us unit =
    let k = length us in
    let e : length (us ++ unit ∷ []) ≡ suc k = length-append us (unit ∷ []) ∙ omega arith in
    let f : first_kept d (suc k) ≡ first_kept d k + (first_kept d (suc k) - first_kept d k) = omega (arith, more_kept d k) in
    ap (λ n. drop (first_kept d n) (us ++ unit ∷ [])) e ∙ ap (λ n. drop n (us ++ unit ∷ [])) f
    ∙ drop_on (first_kept d k) _ (us ++ unit ∷ []) ∙ ap (drop (first_kept d (suc k) - first_kept d k)) (drop-append-le (first_kept d k) us (unit ∷ []) (few_kept d k))

same_more : (d : WindowDef) (us vs : Window) (unit : Rows) → SameWindow d us vs → SameWindow d (us ++ unit ∷ []) (vs ++ unit ∷ [])
same_more d us vs unit h = (
  length-append us (unit ∷ []) ∙ ap (λ n. n + 1) h.0 ∙ sym (length-append vs (unit ∷ [])),
  kept_more d us unit ∙ (λ i. drop (first_kept d (suc (h.0 i)) - first_kept d (h.0 i)) (h.1 i ++ unit ∷ [])) ∙ sym (kept_more d vs unit),
)

-- all is in scope
abbrev pub whole_scope : Claims
whole_scope = record { table = λ t. Unit {0}; window = λ w. Unit {0}; values = λ params t vs. Unit {0}; rows = λ params t q. Unit {0} }

module _ (context : Context) where
  close_kept : (w : ℕ) (unit : Rows) (s z : Contents) → SameKept context.catalog s z → SameKept context.catalog (append_unit s w unit) (append_unit z w unit)
  unfolding append_unit window_units
  close_kept w unit s z r = record {
    tables = r.tables;
    windows = λ q. set_two (SameWindow (window_def context.catalog q)) s.windows z.windows r.window_count w q _ _ [] (r.windows q)
        (λ e. subst (λ x. SameWindow (window_def context.catalog x) (window_units s w ++ unit ∷ []) (window_units z w ++ unit ∷ [])) e (same_more (window_def context.catalog w) _ _ unit (r.windows w)));
    window_count = length-set s.windows w _ ∙ r.window_count ∙ sym (length-set z.windows w _);
  }

  seen_kept : (t : ℕ) (s z : Contents) → SameKept context.catalog s z → visible_table context.catalog context.split_value s t ≡ visible_table context.catalog context.split_value z t
  unfolding visible_table table_at
  seen_kept t s z r = ap (λ ts. finmap.retain_keys (get_or ts t finmap.empty) (matches_split context.catalog context.split_value t)) r.tables

  put_kept : (t : ℕ) (new : List (Row × Row)) (s z : Contents) → SameKept context.catalog s z → SameKept context.catalog (put_entries s t new) (put_entries z t new)
  unfolding put_entries table_at window_units
  put_kept t new s z r = record {
    tables = ap (λ ts. set ts t (fold (λ m e. finmap.insert m e.0 e.1) (get_or ts t finmap.empty) new)) r.tables;
    windows = r.windows;
    window_count = r.window_count;
  }

  drop_kept : (t : ℕ) (old : List (Row × Row)) (s z : Contents) → SameKept context.catalog s z → SameKept context.catalog (remove_entries s t old) (remove_entries z t old)
  unfolding remove_entries table_at window_units
  drop_kept t old s z r = record {
    tables = ap (λ ts. set ts t (fold (λ m e. finmap.remove m e.0) (get_or ts t finmap.empty) old)) r.tables;
    windows = r.windows;
    window_count = r.window_count;
  }

  insert_kept : (t : ℕ) (row : Row) (s z : Contents) → SameKept context.catalog s z → Related (SameKept context.catalog) (insert_row context.catalog t row s) (insert_row context.catalog t row z)
  unfolding insert_row table_at
  insert_kept t row s z r =
      equal_test_abort (SameKept context.catalog) _ _ _ _ _ (ap (λ ts. is_some (finmap.get (get_or ts t finmap.empty) (row_key context.catalog t row))) r.tables) (λ _.
      equal_test_abort (SameKept context.catalog) _ _ _ _ _ (ap (λ ts. is_table_full (table_placement (slice_get (context.catalog).tables t)) (get_or ts t finmap.empty)) r.tables) (λ _.
      put_kept t ((row_key context.catalog t row, row) ∷ []) s z r))

  pub kept_respects : Respects context whole_scope (λ t row. Unit {0}) (SameKept context.catalog)
  kept_respects = record {
    valued = λ params t vs h. anything (try_map (expr_value [] params) vs);
    queried = λ params t q outer inner h. when_ok_map (λ _. Unit {0}) _ (query_result outer inner params q) (λ rows _. all_of _ (λ _. tt) rows) (anything (query_result outer inner params q));
    seen = λ t s z h r. seen_kept t s z r;
    shown = λ w s z h r i. flat_map (λ u. u) (take (visible_count (window_def context.catalog w) ((r.windows w).0 i)) ((r.windows w).1 i));
    counted = λ w s z h r. (r.windows w).0;
    inserted = λ t row s z h p r. insert_kept t row s z r;
    put = λ t new s z h all r. put_kept t new s z r;
    dropped = λ t old s z h all r. drop_kept t old s z r;
    closed = λ w unit s z h r. close_kept w unit s z r;
  }

-- every statement and step is in the whole scope
source_whole : (x : SourceId) → SourceClaim whole_scope x
source_whole (FromTable t) = tt
source_whole (FromWindow w) = tt
source_whole (FromBatch i) = tt
source_whole Inserted = tt

joined_whole : (j : Option Joined) → JoinClaim whole_scope j
joined_whole None = tt
joined_whole (Some j) = source_whole j.source

query_whole : (q : Query) → QueryClaim whole_scope q
query_whole q = (source_whole q.from, joined_whole q.joined)

module _ (context : Context) where
  statement_whole : (params : Row) (s : Statement) → StatementClaim whole_scope params s
  statement_whole params (InsertValues (IntoTable t) vs) = (tt, tt)
  statement_whole params (InsertValues (IntoWindow w) vs) = tt
  statement_whole params (InsertQuery (IntoTable t) q) =
      (query_whole q, (tt, tt))
  statement_whole params (InsertQuery (IntoWindow w) q) = (query_whole q, tt)
  statement_whole params (Update t sets test) = tt
  statement_whole params (Delete t test) = tt

  trigger_whole : (t : TriggerDef) → TriggerClaim whole_scope t
  trigger_whole t = all_of _ (statement_whole []) t.statements

  inner_whole : (x : Inner) → InnerClaim whole_scope x
  inner_whole (InnerSql s) = λ row. statement_whole row s
  inner_whole (InnerAbortIf c code) = query_whole c.query

  step_whole : (x : Step) → StepClaim whole_scope context.catalog context.args x
  step_whole (Sql s) = statement_whole context.args s
  step_whole (AbortIf c code) = query_whole c.query
  step_whole (ForEach input body) = all_of _ inner_whole body
  step_whole (Emit s q) = (query_whole q, all_of _ trigger_whole _)
  step_whole (Local s q) = (query_whole q, all_of _ trigger_whole _)
  step_whole (Return q) = query_whole q

  -- a body gives the same on contents of which the same is kept, and leaves them so
  pub body_kept : (body : List Step) (s z : Contents) → SameKept context.catalog s z → Related (ExecutionRelated (SameKept context.catalog)) (run_body context body s) (run_body context body z)
  body_kept body s z r =
      body_related context whole_scope (λ t row. Unit {0}) (SameKept context.catalog) (kept_respects context) body (λ n _. all_of _ trigger_whole _) (all_of _ step_whole body) (all_of _ (λ _. tt) _) s z r
