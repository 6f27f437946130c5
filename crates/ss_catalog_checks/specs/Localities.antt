-- SQL that a touch set does not allow: it names a table that it may not, or under `arg` a split table without the limit.
use Rattle.std.specs.Prelude.{◌==◌, ◌&&◌, not, ℕ, Bool, true, false, List, [], ◌∷◌, map, Option, Some, None, slice_get}
use Rattle.std.specs.List.{list_any, position, flat_map}
use Rattle.ss_sql_trees.specs.declared.typed.Expr.{Expr, fold-Expr}
use Rattle.ss_sql_trees.specs.declared.typed.Expr.TheVariants.{Param}
use Rattle.ss_sql_trees.specs.declared.typed.SelectItem.{SelectItem}
use Rattle.ss_sql_trees.specs.declared.typed.SelectItem.TheVariants.{Plain}
use Rattle.ss_sql_trees.specs.declared.typed.SourceId.{SourceId}
use Rattle.ss_sql_trees.specs.declared.typed.SourceId.TheVariants.{Table as FromTable}
use Rattle.ss_sql_trees.specs.declared.typed.Joined.{Joined}
use Rattle.ss_sql_trees.specs.declared.typed.Query.{Query}
use Rattle.ss_sql_trees.specs.declared.typed.Target.{Target}
use Rattle.ss_sql_trees.specs.declared.typed.Target.TheVariants.{Table as IntoTable, Window as IntoWindow}
use Rattle.ss_sql_trees.specs.declared.typed.Statement.{Statement}
use Rattle.ss_sql_trees.specs.declared.typed.Statement.TheVariants.{InsertValues, InsertQuery, Update, Delete}
use Rattle.ss_model.specs.declared.catalog.Catalog.{Catalog}
use Rattle.ss_model.specs.declared.catalog.Placement.{Placement}
use Rattle.ss_model.specs.declared.catalog.Placement.TheVariants.{By}
use Rattle.ss_model.specs.declared.catalog.Touch.{Touch}
use Rattle.ss_model.specs.declared.catalog.Touch.TheVariants.{Arg}
use Rattle.ss_model.specs.declared.catalog.On.{On}
use Rattle.ss_model.specs.declared.catalog.Inner.{Inner}
use Rattle.ss_model.specs.declared.catalog.Inner.TheVariants.{Sql as InnerSql, AbortIf as InnerAbortIf}
use Rattle.ss_model.specs.declared.catalog.Step.{Step}
use Rattle.ss_model.specs.declared.catalog.Step.TheVariants.{Sql, AbortIf, ForEach, Emit, Local, Return}
use Rattle.ss_model.specs.declared.catalog.Procedure.{Procedure}
use Rattle.ss_model.specs.declared.catalog.TriggerDef.{TriggerDef}
use Rattle.ss_model.specs.Contents.{table_placement}
use Rattle.ss_model.specs.Conjuncts.{Conjunct, level_conjunct, has_conjunct}
use Rattle.ss_model.specs.Orders.{procedure_has}
use Rattle.ss_model.specs.Partitions.{may_use}
use Rattle.ss_model.specs.Settling.{procedure_numbers}
use Rattle.ss_catalog_checks.specs.declared.locality.Site.{Site}
use Rattle.ss_catalog_checks.specs.declared.locality.Site.TheVariants.{Step as StepSite, Statement as StatementSite}
use Rattle.ss_catalog_checks.specs.Firsts.{IsFirstWith}
use Rattle.ss_catalog_checks.specs.Runs.{runs_in}

-- of an expression: whether it is this column, whether it is this argument, and whether it has the conjunct of both
abbrev pub known_of : ℕ → ℕ → ℕ → Expr → Conjunct
known_of source column argument = fold-Expr Conjunct (level_conjunct source column argument)

-- the argument and the split column, where the touch set is by argument and the table is split
abbrev pub split_by : Touch → Option Placement → Option (ℕ × ℕ)
split_by (Arg a) (Some (By c)) = Some (a, c)
split_by _ placement = None

-- under `arg` a split table is read or changed only with the conjunct
abbrev pub is_limited_to : Option (ℕ × ℕ) → ℕ → Option Expr → Bool
is_limited_to None source test = true
is_limited_to (Some x) source test = has_conjunct source x.1 x.0 test

-- the same by the touch set and the table's placement
abbrev pub is_limited : Touch → Option Placement → ℕ → Option Expr → Bool
is_limited touch placement = is_limited_to (split_by touch placement)

-- an expression is this argument
abbrev pub is_argument : ℕ → Option Expr → Bool
is_argument a (Some (Param n)) = n == a
is_argument a _ = false

-- an item is this argument
abbrev pub is_argument_item : ℕ → Option SelectItem → Bool
is_argument_item a (Some (Plain x)) = is_argument a (Some x)
is_argument_item a _ = false

-- under `arg` the values of an INSERT give just the argument for the split column
abbrev pub gives : Option (ℕ × ℕ) → List Expr → Bool
gives None vs = true
gives (Some x) vs = is_argument x.0 (slice_get vs x.1)

-- the same by the touch set and the table's placement
abbrev pub gives_argument : Touch → Option Placement → List Expr → Bool
gives_argument touch placement = gives (split_by touch placement)

-- and so do the items of its query
abbrev pub selects : Option (ℕ × ℕ) → List SelectItem → Bool
selects None items = true
selects (Some x) items = is_argument_item x.0 (slice_get items x.1)

-- the same by the touch set and the table's placement
abbrev pub selects_argument : Touch → Option Placement → List SelectItem → Bool
selects_argument touch placement = selects (split_by touch placement)

module _ (catalog : Catalog) (touch : Touch) where
  -- a table may be named, and read or changed under this WHERE
  abbrev pub is_local_table : ℕ → ℕ → Option Expr → Bool
  is_local_table t source test = may_use touch (table_placement (slice_get catalog.tables t)) && is_limited touch (table_placement (slice_get catalog.tables t)) source test

  -- a source may be read under this WHERE
  abbrev pub is_local_source : SourceId → ℕ → Option Expr → Bool
  is_local_source (FromTable t) source test = is_local_table t source test
  is_local_source _ source test = true

  -- so may the source of a JOIN
  abbrev pub is_local_join : Option Joined → Option Expr → Bool
  is_local_join None test = true
  is_local_join (Some j) test = is_local_source j.source 1 test

  -- both sources of a query may be read under its WHERE
  abbrev pub is_local_query : Query → Bool
  is_local_query q = is_local_source q.from 0 q.test && is_local_join q.joined q.test

  -- these values may be inserted into a target
  abbrev pub takes_values : Target → List Expr → Bool
  takes_values (IntoTable t) vs = may_use touch (table_placement (slice_get catalog.tables t)) && gives_argument touch (table_placement (slice_get catalog.tables t)) vs
  takes_values (IntoWindow w) vs = true

  -- the rows of a query with these items may be inserted into a target
  abbrev pub takes_items : Target → List SelectItem → Bool
  takes_items (IntoTable t) items = may_use touch (table_placement (slice_get catalog.tables t)) && selects_argument touch (table_placement (slice_get catalog.tables t)) items
  takes_items (IntoWindow w) items = true

  -- a statement is allowed
  abbrev pub is_local_statement : Statement → Bool
  is_local_statement (InsertValues target vs) = takes_values target vs
  is_local_statement (InsertQuery target q) = is_local_query q && takes_items target q.items
  is_local_statement (Update t sets test) = is_local_table t 0 test
  is_local_statement (Delete t test) = is_local_table t 0 test

  -- a step inside a `for_each` is allowed
  abbrev pub is_local_inner : Inner → Bool
  is_local_inner (InnerSql s) = is_local_statement s
  is_local_inner (InnerAbortIf c code) = is_local_query c.query

  -- whether each step is allowed, in document order: a `for_each`, which has no SQL of its own, before its inner steps
  abbrev pub verdicts : Step → List Bool
  verdicts (Sql s) = is_local_statement s ∷ []
  verdicts (AbortIf c code) = is_local_query c.query ∷ []
  verdicts (ForEach input body) = true ∷ map is_local_inner body
  verdicts (Emit s q) = is_local_query q ∷ []
  verdicts (Local s q) = is_local_query q ∷ []
  verdicts (Return q) = is_local_query q ∷ []

  -- the first step of a body that is not allowed
  abbrev pub first_refused : List Step → Option ℕ
  first_refused body = position not (flat_map verdicts body)

-- the first step of a procedure that its touch set does not allow
abbrev pub refused_of : Catalog → Option Procedure → Option ℕ
refused_of catalog None = None
refused_of catalog (Some p) = first_refused catalog p.touch p.body

-- the same by the procedure's number
abbrev pub refused_step : Catalog → ℕ → Option ℕ
refused_step catalog q = refused_of catalog (slice_get catalog.procedures q)

-- a statement of a trigger on this runs in a procedure whose touch set does not allow it
abbrev pub breaks_in : Catalog → On → Statement → ℕ → Bool
breaks_in catalog on s q = runs_in catalog on q && not (procedure_has (λ p. is_local_statement catalog p.touch s) (slice_get catalog.procedures q))

-- the first statement of a trigger that the touch set of some procedure in which it runs does not allow
abbrev pub refused_in : Catalog → Option TriggerDef → Option ℕ
refused_in catalog None = None
refused_in catalog (Some t) = position (λ s. list_any (breaks_in catalog t.on s) (procedure_numbers catalog)) t.statements

-- the same by the trigger's number
abbrev pub refused_statement : Catalog → ℕ → Option ℕ
refused_statement catalog t = refused_in catalog (slice_get catalog.triggers t)

-- the first procedure with a step that is not allowed, or else the first trigger with a statement that is not
abbrev pub IsFirstSite : Catalog → Option Site → Type 0
IsFirstSite catalog (Some (StepSite q n)) = IsFirstWith (refused_step catalog) (Some (q, n))
IsFirstSite catalog (Some (StatementSite t n)) = IsFirstWith (refused_step catalog) None × IsFirstWith (refused_statement catalog) (Some (t, n))
IsFirstSite catalog None = IsFirstWith (refused_step catalog) None × IsFirstWith (refused_statement catalog) None
