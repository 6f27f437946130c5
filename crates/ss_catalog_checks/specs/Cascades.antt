-- Which windows the INSERTs of a trigger lead into, and which of these lead back.
use Rattle.std.specs.Prelude.{◌≡◌, ◌==◌, ◌&&◌, ◌||◌, nat_le, ℕ, Bool, true, false, List, [], ◌∷◌, map, Option, Some, None, slice_get}
use Rattle.std.specs.List.{flat_map, list_any}
use Rattle.ss_sql_trees.specs.declared.typed.Target.{Target}
use Rattle.ss_sql_trees.specs.declared.typed.Target.TheVariants.{Table as IntoTable, Window as IntoWindow}
use Rattle.ss_sql_trees.specs.declared.typed.Statement.{Statement}
use Rattle.ss_sql_trees.specs.declared.typed.Statement.TheVariants.{InsertValues, InsertQuery}
use Rattle.ss_model.specs.declared.catalog.Catalog.{Catalog}
use Rattle.ss_model.specs.declared.catalog.On.{On}
use Rattle.ss_model.specs.declared.catalog.On.TheVariants.{Stream as OnStream, Window as OnWindow}
use Rattle.ss_model.specs.declared.catalog.TriggerDef.{TriggerDef}
use Rattle.ss_model.specs.Contents.{window_def}
use Rattle.ss_model.specs.Bodies.{is_batches_unit}
use Rattle.ss_model.specs.Feeds.{stages_into, feeds}
use Rattle.ss_catalog_checks.specs.declared.graph.Edge.{Edge}
use Rattle.ss_catalog_checks.specs.Graphs.{edge}

-- a trigger inserts into this window
abbrev pub inserts_into : TriggerDef → ℕ → Bool
inserts_into t m = list_any (stages_into m) t.statements

-- the INSERTs of a trigger lead into a window, at once or through the triggers of further windows
pub data LeadsInto (catalog : Catalog) (t : TriggerDef) : ℕ → Type 0 where
  at_once : (m : ℕ) → inserts_into t m ≡ true → LeadsInto catalog t m
  onward : (m k : ℕ) → LeadsInto catalog t m → feeds catalog m k ≡ true → LeadsInto catalog t k

-- a window whose unit is a batch
abbrev pub counts_batches : Catalog → ℕ → Bool
counts_batches catalog n = is_batches_unit ((window_def catalog n).unit)

-- back from the window that a trigger waits for: to the same one, or from a `batches` window to one that is not later
abbrev pub goes_back : Catalog → On → ℕ → Bool
goes_back catalog (OnStream s) k = false
goes_back catalog (OnWindow n) k = n == k || (counts_batches catalog n && counts_batches catalog k && nat_le k n)

-- an INSERT of a trigger leads back
abbrev pub LeadsBack : Catalog → TriggerDef → Type 0
LeadsBack catalog t = (k : ℕ) × LeadsInto catalog t k × (goes_back catalog t.on k ≡ true)

-- the same of a trigger, if there is one
abbrev pub SomeLeadsBack : Catalog → Option TriggerDef → Type 0
SomeLeadsBack catalog None = ⊥
SomeLeadsBack catalog (Some t) = LeadsBack catalog t

-- an INSERT of the trigger of this number leads back
abbrev pub IsOnTriggerCycle : Catalog → ℕ → Type 0
IsOnTriggerCycle catalog t = SomeLeadsBack catalog (slice_get catalog.triggers t)

-- the target, if it is a window
abbrev pub target_windows : Target → List ℕ
target_windows (IntoTable t) = []
target_windows (IntoWindow k) = k ∷ []

-- the window that a statement inserts into
abbrev pub statement_windows : Statement → List ℕ
statement_windows (InsertValues target vs) = target_windows target
statement_windows (InsertQuery target q) = target_windows target
statement_windows _ = []

-- the windows that a trigger inserts into
abbrev pub inserted_windows : TriggerDef → List ℕ
inserted_windows t = flat_map statement_windows t.statements

-- the edges to these windows from what a trigger waits for
abbrev pub edges_from : On → List ℕ → List Edge
edges_from (OnStream s) ks = []
edges_from (OnWindow n) ks = map (edge n) ks

-- the edges of a trigger
abbrev pub trigger_edges : TriggerDef → List Edge
trigger_edges t = edges_from t.on (inserted_windows t)

-- the edges of all triggers
abbrev pub window_edges : Catalog → List Edge
window_edges catalog = flat_map trigger_edges catalog.triggers
