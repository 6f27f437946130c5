-- Windows of a call procedure, and windows that are named by SQL which runs in another procedure than the owner.
use Rattle.std.specs.Prelude.{◌==◌, ◌&&◌, ◌||◌, not, ℕ, Bool, false, Option, Some, None, slice_get, length}
use Rattle.std.specs.List.{list_any, find, range_with_len}
use Rattle.ss_sql_trees.specs.declared.typed.SourceId.{SourceId}
use Rattle.ss_sql_trees.specs.declared.typed.SourceId.TheVariants.{Window as FromWindow}
use Rattle.ss_sql_trees.specs.declared.typed.Joined.{Joined}
use Rattle.ss_sql_trees.specs.declared.typed.Query.{Query}
use Rattle.ss_sql_trees.specs.declared.typed.Statement.{Statement}
use Rattle.ss_sql_trees.specs.declared.typed.Statement.TheVariants.{InsertValues, InsertQuery}
use Rattle.ss_model.specs.declared.catalog.Catalog.{Catalog}
use Rattle.ss_model.specs.declared.catalog.Inner.{Inner}
use Rattle.ss_model.specs.declared.catalog.Inner.TheVariants.{Sql as InnerSql, AbortIf as InnerAbortIf}
use Rattle.ss_model.specs.declared.catalog.On.{On}
use Rattle.ss_model.specs.declared.catalog.Step.{Step}
use Rattle.ss_model.specs.declared.catalog.Step.TheVariants.{Sql, AbortIf, ForEach, Emit, Local, Return}
use Rattle.ss_model.specs.declared.catalog.TriggerDef.{TriggerDef}
use Rattle.ss_model.specs.declared.catalog.WindowDef.{WindowDef}
use Rattle.ss_model.specs.Feeds.{goes_into}
use Rattle.ss_model.specs.Database.{is_call}
use Rattle.ss_model.specs.Orders.{procedure_has}
use Rattle.ss_model.specs.Settling.{procedure_numbers}
use Rattle.ss_catalog_checks.specs.Runs.{runs_in}

module _ (w : ℕ) where
  -- a source is this window
  abbrev pub reads_from : SourceId → Bool
  reads_from (FromWindow v) = v == w
  reads_from _ = false

  -- the source of a JOIN is this window
  abbrev pub joins_with : Option Joined → Bool
  joins_with None = false
  joins_with (Some j) = reads_from j.source

  -- a query reads this window
  abbrev pub query_names : Query → Bool
  query_names q = reads_from q.from || joins_with q.joined

  -- a statement reads it or inserts into it
  abbrev pub statement_names : Statement → Bool
  statement_names (InsertValues target vs) = goes_into w target
  statement_names (InsertQuery target q) = goes_into w target || query_names q
  statement_names _ = false

  -- a step inside a `for_each` names it
  abbrev pub inner_names : Inner → Bool
  inner_names (InnerSql s) = statement_names s
  inner_names (InnerAbortIf c code) = query_names c.query

  -- a step names it
  abbrev pub step_names : Step → Bool
  step_names (Sql s) = statement_names s
  step_names (AbortIf c code) = query_names c.query
  step_names (ForEach input body) = list_any inner_names body
  step_names (Emit s q) = query_names q
  step_names (Local s q) = query_names q
  step_names (Return q) = query_names q

  -- a trigger names it
  abbrev pub trigger_names : TriggerDef → Bool
  trigger_names t = list_any statement_names t.statements

module _ (catalog : Catalog) (owner : ℕ) where
  -- this procedure is another than the owner, and a step of it names a window
  abbrev pub steps_name : ℕ → ℕ → Bool
  steps_name w q = not (q == owner) && procedure_has (λ p. list_any (step_names w) p.body) (slice_get catalog.procedures q)

  -- a trigger that waits for this runs in another procedure than the owner
  abbrev pub runs_outside : On → Bool
  runs_outside on = list_any (λ q. not (q == owner) && runs_in catalog on q) (procedure_numbers catalog)

  -- SQL that names a window runs in another procedure than the owner
  abbrev pub is_named_outside : ℕ → Bool
  is_named_outside w = list_any (steps_name w) (procedure_numbers catalog) || list_any (λ t. trigger_names w t && runs_outside t.on) catalog.triggers

-- a procedure is a call procedure
abbrev pub is_call_procedure : Catalog → ℕ → Bool
is_call_procedure catalog q = procedure_has (λ p. is_call p.kind) (slice_get catalog.procedures q)

-- a window has a call procedure as its owner, or is named outside its owner; if there is such a window
abbrev pub is_misowned : Catalog → ℕ → Option WindowDef → Bool
is_misowned catalog w None = false
is_misowned catalog w (Some d) = is_call_procedure catalog d.owner || is_named_outside catalog d.owner w

-- the same by the window's number
abbrev pub is_refused_window : Catalog → ℕ → Bool
is_refused_window catalog w = is_misowned catalog w (slice_get catalog.windows w)

-- the first window that is refused
abbrev pub refused_window : Catalog → Option ℕ
refused_window catalog = find (is_refused_window catalog) (range_with_len 0 (length catalog.windows))
