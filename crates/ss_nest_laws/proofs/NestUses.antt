-- What a nest uses is what its members use.
use Rattle.std.proofs.Common.{◌==◌, ℕ, Bool, true, false, List, [], ◌∷◌, map, Some, None}
use Rattle.std.specs.declared.option.Option.{Option}
use Rattle.std.specs.List.{AllByRecursion, list_any}
use Rattle.std.specs.Option.{option_map}
use Rattle.ss_value.specs.Rows.{Row}
use Rattle.ss_sql_trees.specs.declared.typed.Expr.{Expr}
use Rattle.ss_sql_trees.specs.declared.typed.Joined.{Joined}
use Rattle.ss_sql_trees.specs.declared.typed.Query.{Query}
use Rattle.ss_sql_trees.specs.declared.typed.SourceId.{SourceId}
use Rattle.ss_sql_trees.specs.declared.typed.SourceId.TheVariants.{Table as FromTable, Window as FromWindow, Batch as FromBatch, Inserted}
use Rattle.ss_sql_trees.specs.declared.typed.Statement.{Statement}
use Rattle.ss_sql_trees.specs.declared.typed.Statement.TheVariants.{InsertValues, InsertQuery, Update, Delete}
use Rattle.ss_sql_trees.specs.declared.typed.Target.{Target}
use Rattle.ss_sql_trees.specs.declared.typed.Target.TheVariants.{Table as IntoTable, Window as IntoWindow}
use Rattle.ss_model.specs.declared.catalog.Catalog.{Catalog}
use Rattle.ss_model.specs.declared.catalog.Inner.{Inner}
use Rattle.ss_model.specs.declared.catalog.Inner.TheVariants.{Sql as InnerSql, AbortIf as InnerAbortIf}
use Rattle.ss_model.specs.declared.catalog.Step.{Step}
use Rattle.ss_model.specs.declared.catalog.Step.TheVariants.{Sql, AbortIf, ForEach, Emit, Local, Return}
use Rattle.ss_model.specs.declared.catalog.Touch.{Touch}
use Rattle.ss_model.specs.declared.catalog.TriggerDef.{TriggerDef}
use Rattle.ss_model.specs.Claims.{Claims, SourceClaim, JoinClaim, QueryClaim, ValuesClaim, RowsClaim, StatementClaim, TriggerClaim, InnerClaim, StepClaim}
use Rattle.ss_model.specs.Conjuncts.{SourceLimited, JoinLimited, QueryLimited, StatementLimited, StepLimited}
use Rattle.ss_model.specs.Nests.{moved_source, moved_join, moved_query, moved_statement, moved_inner, moved_emit, moved_step}
use Rattle.ss_lemmas.proofs.EachOf.{all_with}

-- claims of one procedure that are another's: the same tables, by the same touch set, and windows that become its own
module _ (u v : Claims)
    (table : (t : ℕ) → u.table t → v.table t) (window : (w : ℕ) → u.window w → v.window w)
    (values : (params : Row) (t : ℕ) (vs : List Expr) → u.values params t vs → v.values params t vs)
    (move : ℕ → ℕ) (rows : (params : Row) (t : ℕ) (q : Query) → u.rows params t q → v.rows params t (moved_query move q)) (still : (params : Row) (t : ℕ) (q : Query) → u.rows params t q → v.rows params t q)
  where
    source_claimed : (src : SourceId) → SourceClaim u src → SourceClaim v (moved_source move src)
    source_claimed (FromTable t) k = table t k
    source_claimed (FromWindow w) k = window w k
    source_claimed (FromBatch i) k = tt
    source_claimed Inserted k = tt

    join_claimed : (j : Option Joined) → JoinClaim u j → JoinClaim v (option_map (moved_join move) j)
    join_claimed None k = tt
    join_claimed (Some j) k = source_claimed j.source k

    query_claimed : (q : Query) → QueryClaim u q → QueryClaim v (moved_query move q)
    query_claimed q k = (source_claimed q.from k.0, join_claimed q.joined k.1)

    source_still : (src : SourceId) → SourceClaim u src → SourceClaim v src
    source_still (FromTable t) k = table t k
    source_still (FromWindow w) k = window w k
    source_still (FromBatch i) k = tt
    source_still Inserted k = tt

    join_still : (j : Option Joined) → JoinClaim u j → JoinClaim v j
    join_still None k = tt
    join_still (Some j) k = source_still j.source k

    query_still : (q : Query) → QueryClaim u q → QueryClaim v q
    query_still q k = (source_still q.from k.0, join_still q.joined k.1)

    values_claimed : (params : Row) (target : Target) (vs : List Expr) → ValuesClaim u params target vs → ValuesClaim v params target vs
    values_claimed params (IntoTable t) vs k = (table t k.0, values params t vs k.1)
    values_claimed params (IntoWindow w) vs k = window w k

    rows_claimed : (params : Row) (target : Target) (q : Query) → RowsClaim u params target q → RowsClaim v params target (moved_query move q)
    rows_claimed params (IntoTable t) q k = (table t k.0, rows params t q k.1)
    rows_claimed params (IntoWindow w) q k = window w k

    rows_still : (params : Row) (target : Target) (q : Query) → RowsClaim u params target q → RowsClaim v params target q
    rows_still params (IntoTable t) q k = (table t k.0, still params t q k.1)
    rows_still params (IntoWindow w) q k = window w k

    statement_claimed : (params : Row) (st : Statement) → StatementClaim u params st → StatementClaim v params (moved_statement move st)
    statement_claimed params (InsertValues target vs) k = values_claimed params target vs k
    statement_claimed params (InsertQuery target q) k = (query_claimed q k.0, rows_claimed params target q k.1)
    statement_claimed params (Update t sets test) k = table t k
    statement_claimed params (Delete t test) k = table t k

    statement_still : (params : Row) (st : Statement) → StatementClaim u params st → StatementClaim v params st
    statement_still params (InsertValues target vs) k = values_claimed params target vs k
    statement_still params (InsertQuery target q) k = (query_still q k.0, rows_still params target q k.1)
    statement_still params (Update t sets test) k = table t k
    statement_still params (Delete t test) k = table t k

    -- triggers are not moved
    pub trigger_still : (t : TriggerDef) → TriggerClaim u t → TriggerClaim v t
    trigger_still t k = all_with (StatementClaim u []) (StatementClaim v []) (statement_still []) t.statements k

    inner_claimed : (x : Inner) → InnerClaim u x → InnerClaim v (moved_inner move x)
    inner_claimed (InnerSql st) k = λ row. statement_claimed row st (k row)
    inner_claimed (InnerAbortIf c code) k = query_claimed c.query k

    inners_claimed : (body : List Inner) → AllByRecursion (InnerClaim u) body → AllByRecursion (InnerClaim v) (map (moved_inner move) body)
    inners_claimed [] k = tt
    inners_claimed (x ∷ body) k = (inner_claimed x k.0, inners_claimed body k.1)

    inner_still : (x : Inner) → InnerClaim u x → InnerClaim v x
    inner_still (InnerSql st) k = λ row. statement_still row st (k row)
    inner_still (InnerAbortIf c code) k = query_still c.query k

    -- and neither are the steps of a procedure in no nest
    pub step_still : (catalog : Catalog) (args : Row) (x : Step) → StepClaim u catalog args x → StepClaim v catalog args x
    step_still catalog args (Sql st) k = statement_still args st k
    step_still catalog args (AbortIf c code) k = query_still c.query k
    step_still catalog args (ForEach i body) k = all_with (InnerClaim u) (InnerClaim v) inner_still body k
    step_still catalog args (Emit s q) k = (query_still q k.0, all_with (TriggerClaim u) (TriggerClaim v) trigger_still _ k.1)
    step_still catalog args (Local s q) k = (query_still q k.0, all_with (TriggerClaim u) (TriggerClaim v) trigger_still _ k.1)
    step_still catalog args (Return q) k = query_still q k

    -- those of a member are
    pub step_claimed : (catalog : Catalog) (args : Row) (inner : List ℕ) (x : Step) → StepClaim u catalog args x → StepClaim v catalog args (moved_step move inner x)
    step_claimed catalog args inner (Sql st) k = statement_claimed args st k
    step_claimed catalog args inner (AbortIf c code) k = query_claimed c.query k
    step_claimed catalog args inner (ForEach i body) k = inners_claimed body k
    step_claimed catalog args inner (Emit s q) k = by (list_any (λ i. i == s) inner)
      where
        by : (b : Bool) → StepClaim v catalog args (moved_emit move b s (moved_query move q))
        by true = (query_claimed q k.0, all_with (TriggerClaim u) (TriggerClaim v) trigger_still _ k.1)
        by false = (query_claimed q k.0, all_with (TriggerClaim u) (TriggerClaim v) trigger_still _ k.1)
    step_claimed catalog args inner (Local s q) k = (query_claimed q k.0, all_with (TriggerClaim u) (TriggerClaim v) trigger_still _ k.1)
    step_claimed catalog args inner (Return q) k = query_claimed q k

-- under an argument a moved step reads a split table as it did
module _ (catalog : Catalog) (touch : Touch) (move : ℕ → ℕ) where
  source_limited : (src : SourceId) (source : ℕ) (test : Option Expr) → SourceLimited catalog touch src source test → SourceLimited catalog touch (moved_source move src) source test
  source_limited (FromTable t) source test k = k
  source_limited (FromWindow w) source test k = tt
  source_limited (FromBatch i) source test k = tt
  source_limited Inserted source test k = tt

  join_limited : (j : Option Joined) (test : Option Expr) → JoinLimited catalog touch j test → JoinLimited catalog touch (option_map (moved_join move) j) test
  join_limited None test k = tt
  join_limited (Some j) test k = source_limited j.source 1 test k

  query_limited : (q : Query) → QueryLimited catalog touch q → QueryLimited catalog touch (moved_query move q)
  query_limited q k = (source_limited q.from 0 q.test k.0, join_limited q.joined q.test k.1)

  statement_limited : (st : Statement) → StatementLimited catalog touch st → StatementLimited catalog touch (moved_statement move st)
  statement_limited (InsertValues target vs) k = tt
  statement_limited (InsertQuery target q) k = query_limited q k
  statement_limited (Update t sets test) k = k
  statement_limited (Delete t test) k = k

  pub step_limited : (inner : List ℕ) (x : Step) → StepLimited catalog touch x → StepLimited catalog touch (moved_step move inner x)
  step_limited inner (Sql st) k = statement_limited st k
  step_limited inner (AbortIf c code) k = query_limited c.query k
  step_limited inner (ForEach i body) k = tt
  step_limited inner (Emit s q) k = by (list_any (λ i. i == s) inner)
    where
      by : (b : Bool) → StepLimited catalog touch (moved_emit move b s (moved_query move q))
      by true = tt
      by false = tt
  step_limited inner (Local s q) k = tt
  step_limited inner (Return q) k = query_limited q k
