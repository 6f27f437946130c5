-- Each list of columns is short, where an outline is not too large.
use Rattle.std.proofs.Common.{◌≡◌, ℕ, zero, suc, ◌≤◌, refl, ap, ◌∙◌, Bool, true, false, ◌&&◌, ◌||◌, nat_lt, List, [], ◌∷◌, ◌++◌, length, map, Option}
use Rattle.std.specs.Prelude.{slice_get, unwrap_or, option_map, Contains}
use Rattle.std.specs.List.{list_all, list_any}
use Rattle.std.proofs.lemmas.Bool.{ltb-false, le-leb, or_parts, and_from, and_parts, both_ways}
use Rattle.std.proofs.lemmas.List.Folds.{list_all-append, list_all-map, list_all_at}
use Rattle.ss_value.specs.declared.schema.Column.{Column}
use Rattle.ss_catalog_outline.specs.declared.types.TableOutline.{TableOutline}
use Rattle.ss_catalog_outline.specs.declared.types.StreamOutline.{StreamOutline}
use Rattle.ss_catalog_outline.specs.declared.types.WindowOutline.{WindowOutline}
use Rattle.ss_catalog_outline.specs.declared.types.ProcedureOutline.{ProcedureOutline}
use Rattle.ss_catalog_outline.specs.declared.types.Outline.{Outline}
use Rattle.ss_catalog_outline.specs.Limits.{has_columns_over, is_too_many_to_number}
use Rattle.ss_catalog_outline.specs.Names.{procedure_name}
use Rattle.ss_model.specs.declared.catalog.TableDef.{TableDef}
use Rattle.ss_model.specs.declared.catalog.StreamDef.{StreamDef}
use Rattle.ss_model.specs.declared.catalog.WindowDef.{WindowDef}
use Rattle.ss_model.specs.declared.catalog.On.{On}
use Rattle.ss_model.specs.declared.catalog.On.TheVariants.{Stream as OnStream, Window as OnWindow}
use Rattle.ss_model.specs.Results.{map_indexed}
use Rattle.ss_sql_type.specs.declared.scope.Named.{Named}
use Rattle.ss_sql_type.specs.Queries.{is_short, scope_narrow}
use Rattle.ss_catalog_resolve.specs.Numbered.{table_of, stream_of, window_of, sections_of}
use Rattle.ss_catalog_resolve.specs.Scopes.{named_table, named_window, shared_names, shared_scope, stream_columns, named_batch, named_inserted, procedure_scope, trigger_scope}
use Rattle.ss_catalog_resolve.specs.Steps.{table_columns, table_number}

-- ---- tests of lists

-- none is too long, so each is short
all_short : {X : Type 0} (columns : X → List Column) (xs : List X) → list_any (λ x. nat_lt 256 (length (columns x))) xs ≡ false → list_all (λ x. is_short (columns x)) xs ≡ true
all_short columns [] none = refl
all_short columns (x ∷ xs) none =
    let parts = or_parts (nat_lt 256 (length (columns x))) (list_any (λ y. nat_lt 256 (length (columns y))) xs) none in
    and_from _ _ (le-leb _ _ (ltb-false _ _ parts.0)) (all_short columns xs parts.1)

-- the test of what a function gives for each item and its position
all_indexed : {A B : Type 0} (p : B → Bool) (q : A → Bool) (f : ℕ → A → B) → ((n : ℕ) (a : A) → p (f n a) ≡ q a) → (xs : List A) → list_all p (map_indexed f xs) ≡ list_all q xs
all_indexed p q f same [] = refl
all_indexed p q f same (a ∷ xs) =
    ap (λ b. b && list_all p (map_indexed (λ i. f (suc i)) xs)) (same 0 a)
    ∙ ap (λ b. q a && b) (all_indexed p q (λ i. f (suc i)) (λ n. same (suc n)) xs)

-- the item at a position, or none, passes
short_at : {X : Type 0} (columns : X → List Column) (xs : List X) (at : ℕ) → list_all (λ x. is_short (columns x)) xs ≡ true → is_short (unwrap_or (option_map columns (slice_get xs at)) []) ≡ true
short_at columns [] at all = refl
short_at columns (x ∷ xs) zero all = (and_parts (is_short (columns x)) _ all).0
short_at columns (x ∷ xs) (suc at) all = short_at columns xs at (and_parts (is_short (columns x)) (list_all (λ y. is_short (columns y)) xs) all).1

-- what a list contains passes
at_index : {X : Type 0} (p : X → Bool) (xs : List X) (x : X) → list_all p xs ≡ true → Contains xs x → p x ≡ true
at_index p xs x all there = by (p x) refl
  where
    by : (b : Bool) → p x ≡ b → p x ≡ true
    by true e = e
    by false e = absurd (both_ways (list_all p xs) (list_all_at p xs there.0 x there.1 (ap p there.2 ∙ e)) all)

all_true : {X : Type 0} (xs : List X) → list_all (λ x. true) xs ≡ true
all_true [] = refl
all_true (x ∷ xs) = all_true xs

-- ---- what is not too large

module _ (o : Outline) (few : is_too_many_to_number o ≡ false) where
  abbrev tables : Bool
  tables = nat_lt 65536 (length o.tables)

  abbrev streams : Bool
  streams = nat_lt 65536 (length o.streams)

  abbrev windows : Bool
  windows = nat_lt 65536 (length o.windows)

  abbrev triggers : Bool
  triggers = nat_lt 65536 (length o.triggers)

  abbrev procedures : Bool
  procedures = nat_lt 65536 (length o.procedures)

  sections_few : (tables || streams || windows) ≡ false
  sections_few = (or_parts (tables || streams || windows) triggers (or_parts (tables || streams || windows || triggers) procedures (or_parts (tables || streams || windows || triggers || procedures) (has_columns_over 256 o) few).0).0).0

  pub few_tables : length o.tables ≤ 65536
  few_tables = ltb-false _ _ (or_parts tables streams (or_parts (tables || streams) windows sections_few).0).0

  pub few_streams : length o.streams ≤ 65536
  few_streams = ltb-false _ _ (or_parts tables streams (or_parts (tables || streams) windows sections_few).0).1

  pub few_windows : length o.windows ≤ 65536
  few_windows = ltb-false _ _ (or_parts (tables || streams) windows sections_few).1

  abbrev wide_tables : Bool
  wide_tables = list_any (λ (d : TableOutline). nat_lt 256 (length d.columns)) o.tables

  abbrev wide_streams : Bool
  wide_streams = list_any (λ (d : StreamOutline). nat_lt 256 (length d.columns)) o.streams

  abbrev wide_windows : Bool
  wide_windows = list_any (λ (d : WindowOutline). nat_lt 256 (length d.columns)) o.windows

  abbrev wide_procedures : Bool
  wide_procedures = list_any (λ (p : ProcedureOutline). nat_lt 256 (length p.args)) o.procedures

  columns_few : (wide_tables || wide_streams || wide_windows || wide_procedures) ≡ false
  columns_few = (or_parts (tables || streams || windows || triggers || procedures) (has_columns_over 256 o) few).1

  short_tables : list_all (λ (d : TableOutline). is_short d.columns) o.tables ≡ true
  short_tables = all_short (λ (d : TableOutline). d.columns) o.tables (or_parts wide_tables wide_streams (or_parts (wide_tables || wide_streams) wide_windows (or_parts (wide_tables || wide_streams || wide_windows) wide_procedures columns_few).0).0).0

  short_streams : list_all (λ (d : StreamOutline). is_short d.columns) o.streams ≡ true
  short_streams = all_short (λ (d : StreamOutline). d.columns) o.streams (or_parts wide_tables wide_streams (or_parts (wide_tables || wide_streams) wide_windows (or_parts (wide_tables || wide_streams || wide_windows) wide_procedures columns_few).0).0).1

  short_windows : list_all (λ (d : WindowOutline). is_short d.columns) o.windows ≡ true
  short_windows = all_short (λ (d : WindowOutline). d.columns) o.windows (or_parts (wide_tables || wide_streams) wide_windows (or_parts (wide_tables || wide_streams || wide_windows) wide_procedures columns_few).0).1

  short_procedures : list_all (λ (p : ProcedureOutline). is_short p.args) o.procedures ≡ true
  short_procedures = all_short (λ (p : ProcedureOutline). p.args) o.procedures (or_parts (wide_tables || wide_streams || wide_windows) wide_procedures columns_few).1

  -- ---- columns of a table, of a stream, and arguments

  pub short_table : (name : List ℕ) → is_short (table_columns o name) ≡ true
  short_table name = short_at (λ (d : TableOutline). d.columns) o.tables (table_number o name) short_tables

  pub short_stream : (s : ℕ) → is_short (stream_columns (sections_of o) s) ≡ true
  short_stream s = short_at (λ (d : StreamDef). d.schema) (map stream_of o.streams) s (list_all-map (λ (d : StreamDef). is_short d.schema) stream_of o.streams ∙ short_streams)

  pub short_args : (p : ProcedureOutline) → Contains o.procedures p → is_short p.args ≡ true
  short_args p there = at_index (λ (q : ProcedureOutline). is_short q.args) o.procedures p short_procedures there

  -- ---- scopes

  abbrev passes : Named → Bool
  passes n = is_short n.schema

  names_short : list_all passes (shared_names (sections_of o)) ≡ true
  names_short =
      list_all-append passes (map_indexed named_table (sections_of o).tables) (map_indexed named_window (sections_of o).windows)
      ∙ and_from _ _
      (all_indexed passes (λ (d : TableDef). is_short d.schema) named_table (λ n d. refl) (sections_of o).tables ∙ list_all-map (λ (d : TableDef). is_short d.schema) table_of o.tables ∙ short_tables)
      (all_indexed passes (λ (d : WindowDef). is_short d.schema) named_window (λ n d. refl) (sections_of o).windows ∙ list_all-map (λ (d : WindowDef). is_short d.schema) (window_of (map procedure_name o.procedures)) o.windows ∙ short_windows)

  -- the shared names and some more
  with_more : (more : List Named) → list_all passes more ≡ true → list_all passes (shared_names (sections_of o) ++ more) ≡ true
  with_more more short = list_all-append passes (shared_names (sections_of o)) more ∙ and_from _ _ names_short short

  narrow_by : (sources : List Named) (params : List Column) → list_all passes sources ≡ true → is_short params ≡ true → (list_all passes sources && list_all passes (shared_names (sections_of o)) && is_short params) ≡ true
  narrow_by sources params short = and_from _ _ (and_from _ _ short names_short)

  pub narrow_shared : scope_narrow (shared_scope (sections_of o)) ≡ true
  narrow_shared = narrow_by (shared_names (sections_of o)) [] names_short refl

  pub narrow_procedure : (inputs : List ℕ) (params : List Column) (out : Option (List Column)) → is_short params ≡ true → scope_narrow (procedure_scope (sections_of o) inputs params out) ≡ true
  narrow_procedure inputs params out short = narrow_by (shared_names (sections_of o) ++ map_indexed (named_batch (sections_of o)) inputs) params (with_more (map_indexed (named_batch (sections_of o)) inputs) (all_indexed passes (λ s. true) (named_batch (sections_of o)) (λ n s. short_stream s) inputs ∙ all_true inputs)) short

  pub narrow_trigger : (on : On) → scope_narrow (trigger_scope (sections_of o) on) ≡ true
  narrow_trigger on = narrow_by (shared_names (sections_of o) ++ named_inserted (sections_of o) on) [] (with_more (named_inserted (sections_of o) on) (by on)) refl
    where
      by : (on : On) → list_all passes (named_inserted (sections_of o) on) ≡ true
      by (OnStream s) = and_from _ _ (short_stream s) refl
      by (OnWindow w) = refl
