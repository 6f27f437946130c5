-- What the names in scope say of a catalogue's tables, windows and streams.
use Rattle.std.proofs.Common.{◌≡◌, ◌⊎◌, ℕ, Bool, true, false, List, [], ◌++◌, length, Option, Some, refl, sym, ap, subst, ◌∙◌, inl, inr}
use Rattle.std.specs.Prelude.{slice_get, Contains, unwrap_or, option_map, codes}
use Rattle.std.proofs.lemmas.Bool.{lt-ltb}
use Rattle.std.proofs.lemmas.Option.{slice_get_within, same_Some}
use Rattle.ss_value.specs.declared.schema.Column.{Column}
use Rattle.ss_sql_trees.specs.declared.typed.SourceId.{SourceId}
use Rattle.ss_sql_trees.specs.declared.typed.SourceId.TheVariants.{Table as FromTable, Window as FromWindow, Batch as FromBatch, Inserted}
use Rattle.ss_sql_trees.specs.declared.typed.Target.{Target}
use Rattle.ss_sql_trees.specs.declared.typed.Target.TheVariants.{Table as IntoTable, Window as IntoWindow}
use Rattle.ss_sql_type.specs.declared.scope.Named.{Named}
use Rattle.ss_sql_type.specs.declared.scope.Scope.{Scope}
use Rattle.ss_sql_type.specs.Statements.{target_of, table_of}
use Rattle.ss_sql_type.specs.Agrees.{Agrees}
use Rattle.ss_model.specs.declared.catalog.Catalog.{Catalog}
use Rattle.ss_model.specs.declared.catalog.On.{On}
use Rattle.ss_model.specs.declared.catalog.On.TheVariants.{Stream as OnStream, Window as OnWindow}
use Rattle.ss_model.specs.declared.catalog.TableDef.{TableDef}
use Rattle.ss_model.specs.declared.catalog.WindowDef.{WindowDef}
use Rattle.ss_model.specs.Contents.{key_columns}
use Rattle.ss_model.specs.Database.{stream_schema}
use Rattle.ss_model.specs.Results.{map_indexed}
use Rattle.ss_model.specs.Typing.{target_schema, source_schema, schemas_of, trigger_schema}
use Rattle.ss_model.specs.Scopes.{source_in_scope, is_on_a_stream}
use Rattle.ss_catalog_resolve.specs.declared.definitions.Sections.{Sections}
use Rattle.ss_catalog_resolve.specs.Scopes.{named_table, named_window, shared_names, stream_name, named_batch, procedure_scope, named_inserted, trigger_scope}
use Rattle.ss_catalog_laws.proofs.Positions.{StandsIn, member_at, in_either, only_one, indexed_at}

-- what SQL may name of a catalogue
abbrev pub sections_in : Catalog → Sections
sections_in catalog = record { tables = catalog.tables; streams = catalog.streams; windows = catalog.windows }

module _ (catalog : Catalog) (inputs : List ℕ) (inserted : List Column) (has : Bool) where
  -- the name of a source
  abbrev pub source_name : SourceId → List ℕ
  source_name (FromTable t) = unwrap_or (option_map (λ (d : TableDef). d.name) (slice_get catalog.tables t)) []
  source_name (FromWindow w) = unwrap_or (option_map (λ (d : WindowDef). d.name) (slice_get catalog.windows w)) []
  source_name (FromBatch i) = unwrap_or (option_map (stream_name (sections_in catalog)) (slice_get inputs i)) []
  source_name Inserted = codes "inserted"

  -- a source that is there, with its own columns, key and name
  pub record Entry (n : Named) : Type 0 where
    pub columns : source_schema catalog inputs inserted n.source ≡ n.schema
    pub key : (t : ℕ) → table_of n.source ≡ Some t → key_columns (slice_get catalog.tables t) ≡ n.key
    pub within : source_in_scope catalog (length inputs) has n.source ≡ true
    pub name : source_name n.source ≡ n.name

  -- a scope of such sources and targets
  pub record Covers (scope : Scope) : Type 0 where
    pub sources : (n : Named) → Contains scope.sources n → Entry n
    pub targets : (n : Named) → Contains scope.targets n → Entry n

  -- ---- tables and windows

  table_entry : (k : ℕ) (d : TableDef) → slice_get catalog.tables k ≡ Some d → Entry (named_table k d)
  table_entry k d e = record {
    columns = ap (λ (o : Option TableDef). unwrap_or (option_map (λ (x : TableDef). x.schema) o) []) e;
    key = λ t same. ap (λ x. key_columns (slice_get catalog.tables x)) (sym (same_Some k t same)) ∙ ap key_columns e;
    within = lt-ltb k (length catalog.tables) (slice_get_within catalog.tables k d e);
    name = ap (λ (o : Option TableDef). unwrap_or (option_map (λ (x : TableDef). x.name) o) []) e;
  }

  window_entry : (k : ℕ) (d : WindowDef) → slice_get catalog.windows k ≡ Some d → Entry (named_window k d)
  window_entry k d e = record {
    columns = ap (λ (o : Option WindowDef). unwrap_or (option_map (λ (x : WindowDef). x.schema) o) []) e;
    key = λ t none. absurd cc;
    within = lt-ltb k (length catalog.windows) (slice_get_within catalog.windows k d e);
    name = ap (λ (o : Option WindowDef). unwrap_or (option_map (λ (x : WindowDef). x.name) o) []) e;
  }

  table_at : (n : Named) (k : ℕ) → slice_get (map_indexed named_table catalog.tables) k ≡ Some n → Entry n
  table_at n k e = let made = indexed_at named_table catalog.tables k n e in subst Entry made.2 (table_entry k made.0 made.1)

  window_at : (n : Named) (k : ℕ) → slice_get (map_indexed named_window catalog.windows) k ≡ Some n → Entry n
  window_at n k e = let made = indexed_at named_window catalog.windows k n e in subst Entry made.2 (window_entry k made.0 made.1)

  shared_by : (n : Named) → StandsIn (map_indexed named_table catalog.tables) n ⊎ StandsIn (map_indexed named_window catalog.windows) n → Entry n
  shared_by n (inl t) = table_at n t.0 t.1
  shared_by n (inr w) = window_at n w.0 w.1

  shared_at : (n : Named) (k : ℕ) → slice_get (shared_names (sections_in catalog)) k ≡ Some n → Entry n
  shared_at n k e = shared_by n (in_either (map_indexed named_table catalog.tables) (map_indexed named_window catalog.windows) k n e)

  pub shared_entry : (n : Named) → Contains (shared_names (sections_in catalog)) n → Entry n
  shared_entry n c = let at = member_at (shared_names (sections_in catalog)) n c in shared_at n at.0 at.1

  -- ---- batches

  batch_entry : (i s : ℕ) → slice_get inputs i ≡ Some s → Entry (named_batch (sections_in catalog) i s)
  batch_entry i s e = record {
    columns = ap (λ (o : Option ℕ). unwrap_or (option_map (stream_schema catalog) o) []) e;
    key = λ t none. absurd cc;
    within = lt-ltb i (length inputs) (slice_get_within inputs i s e);
    name = ap (λ (o : Option ℕ). unwrap_or (option_map (stream_name (sections_in catalog)) o) []) e;
  }

  batch_at : (n : Named) (k : ℕ) → slice_get (map_indexed (named_batch (sections_in catalog)) inputs) k ≡ Some n → Entry n
  batch_at n k e = let made = indexed_at (named_batch (sections_in catalog)) inputs k n e in subst Entry made.2 (batch_entry k made.0 made.1)

  source_by : (n : Named) → StandsIn (shared_names (sections_in catalog)) n ⊎ StandsIn (map_indexed (named_batch (sections_in catalog)) inputs) n → Entry n
  source_by n (inl s) = shared_at n s.0 s.1
  source_by n (inr b) = batch_at n b.0 b.1

  -- the scope of a procedure that takes these inputs
  pub procedure_covered : (params : List Column) (out : Option (List Column)) → Covers (procedure_scope (sections_in catalog) inputs params out)
  procedure_covered params out =
      let shared = shared_names (sections_in catalog) in
      let batches = map_indexed (named_batch (sections_in catalog)) inputs in
      record {
        sources = λ n c. let at = member_at (shared ++ batches) n c in source_by n (in_either shared batches at.0 n at.1);
        targets = shared_entry;
      }

  -- ---- what typed trees are typed by

  columns_into : (s : SourceId) (t : Target) → target_of s ≡ Some t → target_schema catalog t ≡ source_schema catalog inputs inserted s
  columns_into (FromTable k) t e = ap (target_schema catalog) (sym (same_Some (IntoTable k) t e))
  columns_into (FromWindow k) t e = ap (target_schema catalog) (sym (same_Some (IntoWindow k) t e))
  columns_into (FromBatch k) t e = absurd cc
  columns_into Inserted t e = absurd cc

  pub agreeing : (scope : Scope) → Covers scope → Agrees scope (schemas_of catalog inputs inserted scope.params)
  agreeing scope covers = record {
    sources = λ n c. (covers.sources n c).columns;
    targets = λ n t c into. columns_into n.source t into ∙ (covers.targets n c).columns;
    keys = λ n t c is. (covers.targets n c).key t is;
    params = refl;
  }

-- ---- triggers

module _ (catalog : Catalog) (s : ℕ) where
  abbrev OnIt : Named → Type 0
  OnIt = Entry catalog [] (stream_schema catalog s) true

  abbrev at_hand : List Named
  at_hand = named_inserted (sections_in catalog) (OnStream s)

  inserted_entry : (n : Named) (k : ℕ) → slice_get at_hand k ≡ Some n → OnIt n
  inserted_entry n k e = subst OnIt (only_one _ k n e) (record { columns = refl; key = λ t none. absurd cc; within = refl; name = refl })

  stream_source_by : (n : Named) → StandsIn (shared_names (sections_in catalog)) n ⊎ StandsIn at_hand n → OnIt n
  stream_source_by n (inl a) = shared_at catalog [] (stream_schema catalog s) true n a.0 a.1
  stream_source_by n (inr b) = inserted_entry n b.0 b.1

  stream_source : (n : Named) → Contains (shared_names (sections_in catalog) ++ at_hand) n → OnIt n
  stream_source n c =
      let at = member_at (shared_names (sections_in catalog) ++ at_hand) n c in
      stream_source_by n (in_either (shared_names (sections_in catalog)) at_hand at.0 n at.1)

module _ (catalog : Catalog) where
  abbrev OnWindows : Named → Type 0
  OnWindows = Entry catalog [] [] false

  window_source_by : (n : Named) → StandsIn (shared_names (sections_in catalog)) n ⊎ StandsIn [] n → OnWindows n
  window_source_by n (inl a) = shared_at catalog [] [] false n a.0 a.1
  window_source_by n (inr b) = let none = b.1 in absurd cc

  window_source : (n : Named) → Contains (shared_names (sections_in catalog) ++ []) n → OnWindows n
  window_source n c =
      let at = member_at (shared_names (sections_in catalog) ++ []) n c in
      window_source_by n (in_either (shared_names (sections_in catalog)) [] at.0 n at.1)

  -- the scope of a trigger
  pub trigger_covered : (on : On) → Covers catalog [] (trigger_schema catalog on) (is_on_a_stream on) (trigger_scope (sections_in catalog) on)
  trigger_covered (OnStream s) = record { sources = stream_source catalog s; targets = shared_entry catalog [] (stream_schema catalog s) true }
  trigger_covered (OnWindow w) = record { sources = window_source; targets = shared_entry catalog [] [] false }
