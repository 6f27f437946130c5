-- Tables, streams and inputs are found at the numbers of their names.
use Rattle.std.proofs.Common.{◌≡◌, ◌≤◌, ℕ, true, List, [], map, length, Option, Some, None, sym, ap, ◌∙◌}
use Rattle.std.specs.Prelude.{slice_get, unwrap_or, option_map, nat_lt}
use Rattle.std.proofs.lemmas.Bool.{lt-ltb}
use Rattle.std.proofs.lemmas.Option.{slice_get_within, slice_get-map}
use Rattle.ss_model.specs.declared.catalog.Catalog.{Catalog}
use Rattle.ss_model.specs.declared.catalog.StreamDef.{StreamDef}
use Rattle.ss_model.specs.declared.catalog.TableDef.{TableDef}
use Rattle.ss_model.specs.Database.{stream_schema}
use Rattle.ss_model.specs.Typing.{table_schema, input_schema}
use Rattle.ss_catalog_outline.specs.declared.types.TableOutline.{TableOutline}
use Rattle.ss_catalog_outline.specs.declared.types.ProcedureOutline.{ProcedureOutline}
use Rattle.ss_catalog_outline.specs.declared.types.Outline.{Outline}
use Rattle.ss_names.specs.Names.{is_among}
use Rattle.ss_catalog_outline.specs.Names.{table_name, stream_name}
use Rattle.ss_catalog_outline.specs.Limits.{over_limit}
use Rattle.ss_catalog_resolve.specs.declared.definitions.Sections.{Sections}
use Rattle.ss_catalog_resolve.specs.Numbers.{number_in}
use Rattle.ss_catalog_resolve.specs.Numbered.{table_of, stream_of, sections_of, table_names, stream_names, inputs_of}
use Rattle.ss_catalog_resolve.specs.Scopes.{stream_columns}
use Rattle.ss_catalog_resolve.specs.Steps.{table_number, table_columns, stream_number, columns_of_stream}
use Rattle.ss_catalog_laws.proofs.Positions.{mapped_at, number_there}
use Rattle.ss_catalog_laws.proofs.Uses.{few_columns}
use Rattle.ss_catalog_laws.proofs.Entries.{sections_in}

module _ (o : Outline) (catalog : Catalog) (is : sections_of o ≡ sections_in catalog) where
  -- a table by its name
  pub record HasTable (name : List ℕ) : Type 0 where
    pub columns : table_schema catalog (table_number o name) ≡ table_columns o name
    pub within : nat_lt (table_number o name) (length catalog.tables) ≡ true
    pub few : length (table_columns o name) ≤ 16

  has_table : over_limit o ≡ None → (name : List ℕ) (d : TableOutline) → slice_get o.tables (table_number o name) ≡ Some d → HasTable name
  has_table limits name d at =
      let k = table_number o name in
      let given : table_columns o name ≡ d.columns = ap (λ (x : Option TableOutline). unwrap_or (option_map (λ (y : TableOutline). y.columns) x) []) at in
      let all : catalog.tables ≡ map table_of o.tables = sym (ap (λ (s : Sections). s.tables) is) in
      let stands : slice_get catalog.tables k ≡ Some (table_of d) = ap (λ (l : List TableDef). slice_get l k) all ∙ slice_get-map table_of o.tables k ∙ ap (option_map table_of) at in
      record {
        columns = ap (λ (x : Option TableDef). unwrap_or (option_map (λ (y : TableDef). y.schema) x) []) stands ∙ sym given;
        within = lt-ltb k (length catalog.tables) (slice_get_within catalog.tables k (table_of d) stands);
        few = rw given (few_columns o limits k d at);
      }

  pub table_there : over_limit o ≡ None → (name : List ℕ) → is_among (table_names o) name ≡ true → HasTable name
  table_there limits name among =
      let made = mapped_at table_name o.tables (table_number o name) name (number_there (table_names o) name among) in
      has_table limits name made.0 made.1

  -- a stream by its name
  pub same_columns : (name : List ℕ) → columns_of_stream o name ≡ stream_schema catalog (stream_number o name)
  same_columns name = ap (λ (s : Sections). stream_columns s (stream_number o name)) is

  pub stream_there : (name : List ℕ) → is_among (stream_names o) name ≡ true → nat_lt (stream_number o name) (length catalog.streams) ≡ true
  stream_there name among =
      let k = stream_number o name in
      let made = mapped_at stream_name o.streams k name (number_there (stream_names o) name among) in
      let all : catalog.streams ≡ map stream_of o.streams = sym (ap (λ (s : Sections). s.streams) is) in
      let stands : slice_get catalog.streams k ≡ Some (stream_of made.0) = ap (λ (l : List StreamDef). slice_get l k) all ∙ slice_get-map stream_of o.streams k ∙ ap (option_map stream_of) made.1 in
      lt-ltb k (length catalog.streams) (slice_get_within catalog.streams k (stream_of made.0) stands)

  module _ (p : ProcedureOutline) where
    -- an input by the name of its stream
    pub record HasInput (name : List ℕ) : Type 0 where
      pub within : nat_lt (number_in p.inputs name) (length (inputs_of o p)) ≡ true
      pub columns : columns_of_stream o name ≡ input_schema catalog (inputs_of o p) [] (number_in p.inputs name)

    pub input_there : (name : List ℕ) → is_among p.inputs name ≡ true → HasInput name
    input_there name among =
        let i = number_in p.inputs name in
        let inputs = inputs_of o p in
        let number = number_in (stream_names o) in
        let stands : slice_get inputs i ≡ Some (number name) = slice_get-map number p.inputs i ∙ ap (option_map number) (number_there p.inputs name among) in
        record {
          within = lt-ltb i (length inputs) (slice_get_within inputs i (number name) stands);
          columns = same_columns name ∙ sym (ap (λ (x : Option ℕ). unwrap_or (option_map (stream_schema catalog) x) []) stands);
        }
