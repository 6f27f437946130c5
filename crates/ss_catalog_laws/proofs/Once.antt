-- What holds of an outline without duplicate names.
use Rattle.std.proofs.Common.{◌≡◌, ℕ, List, [], ◌∷◌, ◌++◌, map, true, refl, None}
use Rattle.std.specs.Prelude.{codes}
use Rattle.std.specs.List.{AllByRecursion, find, flat_map}
use Rattle.ss_model.specs.CatalogForm.{all_distinct}
use Rattle.ss_catalog_outline.specs.declared.types.TableOutline.{TableOutline}
use Rattle.ss_catalog_outline.specs.declared.types.StreamOutline.{StreamOutline}
use Rattle.ss_catalog_outline.specs.declared.types.WindowOutline.{WindowOutline}
use Rattle.ss_catalog_outline.specs.declared.types.ProcedureOutline.{ProcedureOutline}
use Rattle.ss_catalog_outline.specs.declared.types.Outline.{Outline}
use Rattle.ss_names.specs.Names.{itself, column_name}
use Rattle.ss_catalog_outline.specs.Names.{table_name, stream_name, window_name, trigger_name, procedure_name}
use Rattle.ss_catalog_outline.specs.Twice.{Standing, standing, standing_behind, is_twice, name_twice, names_standing, sources_standing, touch_words, table_inside, stream_inside, window_inside, procedure_inside}
use Rattle.ss_lemmas.proofs.EachOf.{three_parts, all_flat, all_with, none_found, none_from_map}
use Rattle.ss_catalog_laws.proofs.Names.{StandsOnce, standing_distinct, standing_inside}

-- names of which none is a duplicate
abbrev pub AreDistinct : {X : Type 0} → (X → List ℕ) → List X → Type 0
AreDistinct name xs = all_distinct (map name xs) ≡ true

list_distinct : {X : Type 0} (name : X → List ℕ) (xs : List X) → AllByRecursion StandsOnce (standing name xs) → AreDistinct name xs
list_distinct name xs once = standing_distinct name (λ x. []) [] xs once refl

pub record TableOnce (t : TableOutline) : Type 0 where
  pub columns : AreDistinct column_name t.columns
  pub key : AreDistinct itself t.key
  pub indexes : AllByRecursion (AreDistinct itself) t.indexes

table_once : (t : TableOutline) → AllByRecursion StandsOnce (table_inside t) → TableOnce t
table_once t once =
    let parts = three_parts StandsOnce (standing column_name t.columns) (standing itself t.key) (flat_map (standing itself) t.indexes) once in
    record {
      columns = list_distinct column_name t.columns parts.0;
      key = list_distinct itself t.key parts.1;
      indexes = all_with (λ names. AllByRecursion StandsOnce (standing itself names)) (AreDistinct itself) (list_distinct itself) t.indexes (all_flat StandsOnce (standing itself) t.indexes parts.2);
    }

pub record ProcedureOnce (p : ProcedureOutline) : Type 0 where
  pub args : AreDistinct column_name p.args
  pub inputs : AreDistinct itself p.inputs
  pub parts : AreDistinct itself (touch_words p.touch)

procedure_once : (p : ProcedureOutline) → AllByRecursion StandsOnce (procedure_inside p) → ProcedureOnce p
procedure_once p once =
    let parts = three_parts StandsOnce (standing column_name p.args) (standing itself p.inputs) (standing itself (touch_words p.touch)) once in
    record {
      args = list_distinct column_name p.args parts.0;
      inputs = list_distinct itself p.inputs parts.1;
      parts = list_distinct itself (touch_words p.touch) parts.2;
    }

pub record OutlineOnce (o : Outline) : Type 0 where
  pub sources : all_distinct (codes "inserted" ∷ map table_name o.tables ++ map stream_name o.streams ++ map window_name o.windows) ≡ true
  pub triggers : AreDistinct trigger_name o.triggers
  pub procedures : AreDistinct procedure_name o.procedures
  pub in_tables : AllByRecursion TableOnce o.tables
  pub in_streams : AllByRecursion (λ (s : StreamOutline). AreDistinct column_name s.columns) o.streams
  pub in_windows : AllByRecursion (λ (w : WindowOutline). AreDistinct column_name w.columns) o.windows
  pub in_procedures : AllByRecursion ProcedureOnce o.procedures

module _ (o : Outline) (once : AllByRecursion StandsOnce (names_standing o)) where
  -- the names behind which those of tables, streams and windows come
  abbrev reserved : List (List ℕ)
  reserved = codes "inserted" ∷ []

  abbrev and_tables : List (List ℕ)
  and_tables = codes "inserted" ∷ map table_name o.tables

  abbrev and_streams : List (List ℕ)
  and_streams = codes "inserted" ∷ map table_name o.tables ++ map stream_name o.streams

  abbrev tables_standing : List Standing
  tables_standing = standing_behind table_name table_inside reserved o.tables

  abbrev streams_standing : List Standing
  streams_standing = standing_behind stream_name stream_inside and_tables o.streams

  abbrev windows_standing : List Standing
  windows_standing = standing_behind window_name window_inside and_streams o.windows

  abbrev procedures_standing : List Standing
  procedures_standing = standing_behind procedure_name procedure_inside [] o.procedures

  kinds_once : AllByRecursion StandsOnce (sources_standing o) × AllByRecursion StandsOnce (standing trigger_name o.triggers) × AllByRecursion StandsOnce procedures_standing
  kinds_once = three_parts StandsOnce (sources_standing o) (standing trigger_name o.triggers) procedures_standing once

  sources_once : AllByRecursion StandsOnce tables_standing × AllByRecursion StandsOnce streams_standing × AllByRecursion StandsOnce windows_standing
  sources_once = three_parts StandsOnce tables_standing streams_standing windows_standing kinds_once.0

  sources_distinct : all_distinct (and_streams ++ map window_name o.windows) ≡ true
  sources_distinct =
      let tables = standing_distinct table_name table_inside reserved o.tables sources_once.0 refl in
      let streams = standing_distinct stream_name stream_inside and_tables o.streams sources_once.1 tables in
      standing_distinct window_name window_inside and_streams o.windows sources_once.2 streams

  names_once : OutlineOnce o
  names_once = record {
    sources = sources_distinct;
    triggers = list_distinct trigger_name o.triggers kinds_once.1;
    procedures = standing_distinct procedure_name procedure_inside [] o.procedures kinds_once.2 refl;
    in_tables = all_with (λ t. AllByRecursion StandsOnce (table_inside t)) TableOnce table_once o.tables (standing_inside table_name table_inside reserved o.tables sources_once.0);
    in_streams = all_with (λ s. AllByRecursion StandsOnce (stream_inside s)) (λ s. AreDistinct column_name s.columns) (λ s. list_distinct column_name s.columns) o.streams (standing_inside stream_name stream_inside and_tables o.streams sources_once.1);
    in_windows = all_with (λ w. AllByRecursion StandsOnce (window_inside w)) (λ w. AreDistinct column_name w.columns) (λ w. list_distinct column_name w.columns) o.windows (standing_inside window_name window_inside and_streams o.windows sources_once.2);
    in_procedures = all_with (λ p. AllByRecursion StandsOnce (procedure_inside p)) ProcedureOnce procedure_once o.procedures (standing_inside procedure_name procedure_inside [] o.procedures kinds_once.2);
  }

pub outline_once : (o : Outline) → name_twice o ≡ None → OutlineOnce o
outline_once o e = names_once o (none_found is_twice (names_standing o) (none_from_map (λ (s : Standing). s.name) (find is_twice (names_standing o)) e))
