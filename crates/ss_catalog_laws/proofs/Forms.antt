-- The form of a catalogue that an outline resolves to.
use Rattle.std.proofs.Common.{◌≡◌, ◌∙◌, ◌&&◌, ℕ, List, ◌∷◌, ◌++◌, length, map, Bool, true, refl, ap, sym, subst, Option, None, Some, slice_get}
use Rattle.std.specs.Prelude.{codes, nat_le, nat_lt}
use Rattle.std.specs.List.{AllByRecursion, list_all}
use Rattle.std.proofs.lemmas.Bool.{and_from}
use Rattle.std.proofs.lemmas.List.{length-map}
use Rattle.ss_model.specs.declared.catalog.Catalog.{Catalog}
use Rattle.ss_model.specs.declared.catalog.Procedure.{Procedure}
use Rattle.ss_model.specs.declared.catalog.TableDef.{TableDef}
use Rattle.ss_model.specs.Accepted.{Keyed}
use Rattle.ss_model.specs.CatalogForm.{all_distinct, is_of_kind, has_distinct_names, numbers_in_range, is_within_limits, has_window_sizes, has_distinct_numbers, has_parts, has_form}
use Rattle.ss_model.specs.Contents.{table_placement, key_columns}
use Rattle.ss_model.specs.Database.{streams_read}
use Rattle.ss_catalog_outline.specs.declared.types.TriggerOutline.{TriggerOutline}
use Rattle.ss_catalog_outline.specs.declared.types.ProcedureOutline.{ProcedureOutline}
use Rattle.ss_catalog_outline.specs.declared.types.Outline.{Outline}
use Rattle.ss_names.specs.Names.{column_name}
use Rattle.ss_catalog_outline.specs.Names.{table_name, stream_name, window_name, trigger_name, procedure_name}
use Rattle.ss_catalog_resolve.specs.Numbered.{table_of, stream_of, window_of, stream_names, window_names}
use Rattle.ss_catalog_resolve.specs.Bodies.{ProcedureReads, TriggerReads, Resolves}
use Rattle.ss_catalog_laws.specs.Form.{HasForm}
use Rattle.ss_lemmas.proofs.EachOf.{all_pass, all_map, all_three, all_four, all_at, map_map}
use Rattle.ss_catalog_laws.proofs.OutlineRead.{OutlineRead}
use Rattle.ss_catalog_laws.proofs.SectionsRead.{TableRead, StreamRead, WindowRead, TriggerRead}
use Rattle.ss_catalog_laws.proofs.ProceduresRead.{ProcedureRead}
use Rattle.ss_catalog_laws.proofs.Once.{AreDistinct, TableOnce, ProcedureOnce, OutlineOnce}
use Rattle.ss_catalog_laws.proofs.Known.{IsAmong, TableKnown, ProcedureKnown, OutlineKnown}
use Rattle.ss_catalog_laws.proofs.Within.{IsUpTo, ProcedureWithin, OutlineWithin}
use Rattle.ss_catalog_laws.proofs.InOrder.{each_read, map_read, length_read}
use Rattle.ss_catalog_laws.proofs.SectionForms.{TableForm, StreamForm, WindowForm, table_form, stream_form, window_form}
use Rattle.ss_catalog_laws.proofs.Plain.{resolved_plain}
use Rattle.ss_catalog_laws.proofs.ProcedureForms.{ProcedureForm, TriggerForm, procedure_form, trigger_form}

-- one test and another
both : {x y : Bool} → x ≡ true → y ≡ true → (x && y) ≡ true
both {x} {y} a b = and_from x y a b

-- the names of all that SQL may name, by kinds
distinct_by : (ts us ss vs ws xs : List (List ℕ)) → ts ≡ us → ss ≡ vs → ws ≡ xs → all_distinct (codes "inserted" ∷ us ++ vs ++ xs) ≡ true → all_distinct (codes "inserted" ∷ ts ++ ss ++ ws) ≡ true
distinct_by ts us ss vs ws xs t s w d = (λ i. all_distinct (codes "inserted" ∷ t i ++ s i ++ w i)) ∙ d

-- a procedure whose form follows from what is known of it
abbrev Facts : Outline → ProcedureOutline → Type 0
Facts o p = ProcedureRead p × ProcedureOnce p × ProcedureKnown (stream_names o) p × ProcedureWithin p

abbrev TriggerFacts : Outline → TriggerOutline → Type 0
TriggerFacts o t = TriggerRead t × IsAmong (stream_names o ++ window_names o) t.on × IsUpTo 8 (length t.statements)

module _ (o : Outline) (catalog : Catalog) (read : OutlineRead o) (once : OutlineOnce o) (known : OutlineKnown o) (within : OutlineWithin o) (r : Resolves o catalog) where
  -- ---- as many of each kind

  tables_count : length catalog.tables ≡ length o.tables
  tables_count = ap length r.tables ∙ length-map o.tables table_of

  streams_count : length catalog.streams ≡ length o.streams
  streams_count = ap length r.streams ∙ length-map o.streams stream_of

  windows_count : length catalog.windows ≡ length o.windows
  windows_count = ap length r.windows ∙ length-map o.windows (window_of (map procedure_name o.procedures))

  procedures_count : length catalog.procedures ≡ length o.procedures
  procedures_count = length_read (λ p. 1) (ProcedureReads o) 0 o.procedures catalog.procedures r.procedures

  triggers_count : length catalog.triggers ≡ length o.triggers
  triggers_count = length_read (λ t. 1) (TriggerReads o) 0 o.triggers catalog.triggers r.triggers

  -- ---- of the same names

  tables_names : map (λ d. d.name) catalog.tables ≡ map table_name o.tables
  tables_names = ap (map (λ d. d.name)) r.tables ∙ map_map (λ d. d.name) table_of o.tables

  streams_names : map (λ d. d.name) catalog.streams ≡ map stream_name o.streams
  streams_names = ap (map (λ d. d.name)) r.streams ∙ map_map (λ d. d.name) stream_of o.streams

  windows_names : map (λ d. d.name) catalog.windows ≡ map window_name o.windows
  windows_names = ap (map (λ d. d.name)) r.windows ∙ map_map (λ d. d.name) (window_of (map procedure_name o.procedures)) o.windows

  procedures_names : map (λ d. d.name) catalog.procedures ≡ map procedure_name o.procedures
  procedures_names = map_read (λ p. 1) (ProcedureReads o) (λ d. d.name) procedure_name (λ n p b e. ap (λ d. d.name) e.1) 0 o.procedures catalog.procedures r.procedures

  triggers_names : map (λ d. d.name) catalog.triggers ≡ map trigger_name o.triggers
  triggers_names = map_read (λ t. 1) (TriggerReads o) (λ d. d.name) trigger_name (λ n t b e. ap (λ d. d.name) e.1) 0 o.triggers catalog.triggers r.triggers

  -- ---- the form of each

  tables : AllByRecursion TableForm catalog.tables
  tables =
      subst (AllByRecursion TableForm) (sym r.tables)
      (all_map TableForm table_of o.tables
      (all_four TableRead TableOnce TableKnown (λ t. IsUpTo 16 (length t.columns)) (λ t. TableForm (table_of t)) table_form o.tables read.tables once.in_tables known.tables within.table_columns))

  streams : AllByRecursion StreamForm catalog.streams
  streams =
      subst (AllByRecursion StreamForm) (sym r.streams)
      (all_map StreamForm stream_of o.streams
      (all_three StreamRead (λ s. AreDistinct column_name s.columns) (λ s. IsUpTo 16 (length s.columns)) (λ s. StreamForm (stream_of s)) stream_form o.streams read.streams once.in_streams within.stream_columns))

  windows : AllByRecursion (WindowForm (length o.procedures)) catalog.windows
  windows =
      subst (AllByRecursion (WindowForm (length o.procedures))) (sym r.windows)
      (all_map (WindowForm (length o.procedures)) (window_of (map procedure_name o.procedures)) o.windows
      (all_four WindowRead (λ w. AreDistinct column_name w.columns) (λ w. IsAmong (map procedure_name o.procedures) w.owner) (λ w. IsUpTo 16 (length w.columns)) (λ w. WindowForm (length o.procedures) (window_of (map procedure_name o.procedures) w))
      (window_form o.procedures) o.windows read.windows once.in_windows known.windows within.window_columns))

  procedures : AllByRecursion (ProcedureForm (length o.streams)) catalog.procedures
  procedures =
      each_read (λ p. 1) (ProcedureReads o) (Facts o) (ProcedureForm (length o.streams)) (λ n p q e f. procedure_form o p f.0 f.1 f.2 f.3 n q e) 0 o.procedures catalog.procedures r.procedures
      (all_four ProcedureRead ProcedureOnce (ProcedureKnown (stream_names o)) ProcedureWithin (Facts o) (λ p a b c d. (a, b, c, d)) o.procedures read.procedures once.in_procedures known.procedures within.in_procedures)

  triggers : AllByRecursion (TriggerForm catalog) catalog.triggers
  triggers =
      each_read (λ t. 1) (TriggerReads o) (TriggerFacts o) (TriggerForm catalog) (λ n t d e f. trigger_form o catalog streams_count windows_count t f.0 f.1 f.2 n d e) 0 o.triggers catalog.triggers r.triggers
      (all_three TriggerRead (λ t. IsAmong (stream_names o ++ window_names o) t.on) (λ t. IsUpTo 8 (length t.statements)) (TriggerFacts o) (λ t a b c. (a, b, c)) o.triggers read.triggers known.triggers within.statements)

  -- ---- the form of the whole

  distinct_names : has_distinct_names catalog ≡ true
  distinct_names =
      both (both (both (both (both (both
      (distinct_by _ _ _ _ _ _ tables_names streams_names windows_names once.sources)
      (ap all_distinct triggers_names ∙ once.triggers))
      (ap all_distinct procedures_names ∙ once.procedures))
      (all_pass TableForm _ (λ d f. f.columns_once) catalog.tables tables))
      (all_pass StreamForm _ (λ d f. f.columns_once) catalog.streams streams))
      (all_pass (WindowForm (length o.procedures)) _ (λ d f. f.columns_once) catalog.windows windows))
      (all_pass (ProcedureForm (length o.streams)) _ (λ p f. f.args_once) catalog.procedures procedures)

  in_range : numbers_in_range catalog ≡ true
  in_range =
      both (both (both (both
      (all_pass TableForm _ (λ d f. f.key_in_range) catalog.tables tables)
      (all_pass TableForm _ (λ d f. both f.indexes_in_range f.in_range) catalog.tables tables))
      (all_pass (WindowForm (length o.procedures)) _ (λ d f. ap (nat_lt d.owner) procedures_count ∙ f.owner_in_range) catalog.windows windows))
      (all_pass (TriggerForm catalog) _ (λ t f. f.in_range) catalog.triggers triggers))
      (all_pass (ProcedureForm (length o.streams)) _ (λ p f. both (ap (λ n. list_all (λ s. nat_lt s n) (streams_read p)) streams_count ∙ f.inputs_in_range) f.touch_range) catalog.procedures procedures)

  within_limits : is_within_limits catalog ≡ true
  within_limits =
      both (both (both (both (both (both (both (both (both (both (both
      (ap (λ n. nat_le n 64) tables_count ∙ within.tables)
      (ap (λ n. nat_le n 32) streams_count ∙ within.streams))
      (ap (λ n. nat_le n 32) windows_count ∙ within.windows))
      (ap (λ n. nat_le n 64) triggers_count ∙ within.triggers))
      (ap (λ n. nat_le n 64) procedures_count ∙ within.procedures))
      (all_pass TableForm _ (λ d f. f.columns_within) catalog.tables tables))
      (all_pass StreamForm _ (λ d f. f.columns_within) catalog.streams streams))
      (all_pass (WindowForm (length o.procedures)) _ (λ d f. f.columns_within) catalog.windows windows))
      (all_pass (ProcedureForm (length o.streams)) _ (λ p f. f.args_within) catalog.procedures procedures))
      (all_pass (ProcedureForm (length o.streams)) _ (λ p f. f.inputs_within) catalog.procedures procedures))
      (all_pass (TriggerForm catalog) _ (λ t f. f.statements_within) catalog.triggers triggers))
      (all_pass (ProcedureForm (length o.streams)) _ (λ p f. f.steps_within) catalog.procedures procedures)

  window_sizes : has_window_sizes catalog ≡ true
  window_sizes = all_pass (WindowForm (length o.procedures)) _ (λ d f. f.sizes) catalog.windows windows

  distinct_numbers : has_distinct_numbers catalog ≡ true
  distinct_numbers =
      both
      (all_pass TableForm _ (λ d f. both f.key_once f.indexes_once) catalog.tables tables)
      (all_pass (ProcedureForm (length o.streams)) _ (λ p f. both f.inputs_once f.parts_once) catalog.procedures procedures)

  parts : has_parts catalog ≡ true
  parts =
      both (both (both
      (all_pass TableForm _ (λ d f. both (both f.some_columns f.some_key) f.some_indexes) catalog.tables tables)
      (all_pass StreamForm _ (λ d f. f.some_columns) catalog.streams streams))
      (all_pass (WindowForm (length o.procedures)) _ (λ d f. f.some_columns) catalog.windows windows))
      (all_pass (TriggerForm catalog) _ (λ t f. f.some_statements) catalog.triggers triggers)

  form : has_form catalog ≡ true
  form =
      both (both (both (both (both (both distinct_names in_range) within_limits) window_sizes) distinct_numbers) parts)
      (all_pass (ProcedureForm (length o.streams)) is_of_kind (λ p f. f.of_kind) catalog.procedures procedures)

  -- ---- of one procedure and one table

  of_procedure : (q : ℕ) (p : Procedure) → slice_get catalog.procedures q ≡ Some p → ProcedureForm (length o.streams) p
  of_procedure q p is = all_at (ProcedureForm (length o.streams)) catalog.procedures procedures q p is

  keyed_by : (t : ℕ) (d : Option TableDef) → slice_get catalog.tables t ≡ d → Keyed (table_placement d) (key_columns d)
  keyed_by t None is = tt
  keyed_by t (Some d) is = (all_at TableForm catalog.tables tables t d is).keyed

  pub catalog_form : HasForm catalog
  catalog_form = record {
    form = form;
    call_steps = λ q p is. (of_procedure q p is).call_steps;
    no_arg = λ q p is. (of_procedure q p is).no_arg;
    somewhere = λ q p is. (of_procedure q p is).somewhere;
    keyed = λ t. keyed_by t (slice_get catalog.tables t) refl;
    plain = resolved_plain o catalog r;
  }
