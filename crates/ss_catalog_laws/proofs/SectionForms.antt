-- The form of the tables, streams and windows that an outline's resolve to.
use Rattle.std.proofs.Common.{◌≡◌, ◌&&◌, ℕ, List, length, map, Bool, true, Some}
use Rattle.std.specs.Prelude.{nat_le, nat_lt}
use Rattle.std.specs.List.{AllByRecursion, list_all}
use Rattle.std.proofs.lemmas.Bool.{and_parts, and_from}
use Rattle.ss_model.specs.declared.catalog.TableDef.{TableDef}
use Rattle.ss_model.specs.declared.catalog.StreamDef.{StreamDef}
use Rattle.ss_model.specs.declared.catalog.WindowDef.{WindowDef}
use Rattle.ss_model.specs.Accepted.{Keyed}
use Rattle.ss_model.specs.CatalogForm.{columns_distinct, numbers_distinct, is_some_list, placement_in_range}
use Rattle.ss_catalog_outline.specs.declared.types.PlacementOutline.{PlacementOutline}
use Rattle.ss_catalog_outline.specs.declared.types.PlacementOutline.TheVariants.{Part, By}
use Rattle.ss_catalog_outline.specs.declared.types.TableOutline.{TableOutline}
use Rattle.ss_catalog_outline.specs.declared.types.StreamOutline.{StreamOutline}
use Rattle.ss_catalog_outline.specs.declared.types.WindowOutline.{WindowOutline}
use Rattle.ss_catalog_outline.specs.declared.types.ProcedureOutline.{ProcedureOutline}
use Rattle.ss_names.specs.Names.{itself, column_name}
use Rattle.ss_catalog_outline.specs.Names.{procedure_name}
use Rattle.ss_catalog_resolve.specs.Numbers.{column_number, column_numbers}
use Rattle.ss_catalog_resolve.specs.Numbered.{placement_of, table_of, stream_of, window_of}
use Rattle.ss_lemmas.proofs.EachOf.{all_map, all_pass, all_with, all_both}
use Rattle.ss_catalog_laws.proofs.Numbers.{number_below, numbers_below, numbers_once, number_among, among_these, some_map}
use Rattle.ss_catalog_laws.proofs.Once.{AreDistinct, TableOnce}
use Rattle.ss_catalog_laws.proofs.Known.{IsAmong, SplitsBy, TableKnown}
use Rattle.ss_catalog_laws.proofs.Within.{IsUpTo}
use Rattle.ss_catalog_laws.proofs.Readings.{IsSome}
use Rattle.ss_catalog_laws.proofs.SectionsRead.{IsPlace, TableRead, StreamRead, WindowRead}

-- ---- tables

pub record TableForm (d : TableDef) : Type 0 where
  pub columns_once : columns_distinct d.schema ≡ true
  pub columns_within : nat_le (length d.schema) 16 ≡ true
  pub some_columns : is_some_list d.schema ≡ true
  pub key_in_range : list_all (λ c. nat_lt c (length d.schema)) d.key ≡ true
  pub key_once : numbers_distinct d.key ≡ true
  pub some_key : is_some_list d.key ≡ true
  pub indexes_in_range : list_all (list_all (λ c. nat_lt c (length d.schema))) d.indexes ≡ true
  pub indexes_once : list_all numbers_distinct d.indexes ≡ true
  pub some_indexes : list_all is_some_list d.indexes ≡ true
  pub in_range : placement_in_range d d.placement ≡ true
  pub keyed : Keyed (Some d.placement) d.key

module _ (t : TableOutline) (read : TableRead t) (once : TableOnce t) (known : TableKnown t) (within : IsUpTo 16 (length t.columns)) where
  -- a split column is one of the key, and so one of the table
  place_range : (p : PlacementOutline) → IsPlace p → SplitsBy t.key p → placement_in_range (table_of t) (placement_of t.columns p) ≡ true
  place_range (Part x) part by = part
  place_range (By name) part by = number_below column_name t.columns name (among_these (map column_name t.columns) t.key name known.key by)

  place_keyed : (p : PlacementOutline) → SplitsBy t.key p → Keyed (Some (placement_of t.columns p)) (column_numbers t.columns t.key)
  place_keyed (Part x) by = tt
  place_keyed (By name) by = number_among (column_number t.columns) name t.key by

  -- each index of a table
  indexes_pass : (P : List ℕ → Type 0) (test : List ℕ → Bool) → ((ns : List ℕ) → P ns → test ns ≡ true) → AllByRecursion (λ names. P (column_numbers t.columns names)) t.indexes → list_all test (map (column_numbers t.columns) t.indexes) ≡ true
  indexes_pass P test each all = all_pass P test each (map (column_numbers t.columns) t.indexes) (all_map P (column_numbers t.columns) t.indexes all)

  pub table_form : TableForm (table_of t)
  table_form = record {
    columns_once = once.columns;
    columns_within = within;
    some_columns = read.columns;
    key_in_range = numbers_below column_name t.columns t.key known.key;
    key_once = numbers_once column_name t.columns t.key known.key once.key;
    some_key = some_map (column_number t.columns) t.key read.key;
    indexes_in_range =
        indexes_pass (λ ns. list_all (λ c. nat_lt c (length t.columns)) ns ≡ true) (list_all (λ c. nat_lt c (length t.columns))) (λ ns h. h)
        (all_with (AllByRecursion (IsAmong (map column_name t.columns))) (λ names. list_all (λ c. nat_lt c (length t.columns)) (column_numbers t.columns names) ≡ true) (numbers_below column_name t.columns) t.indexes known.indexes);
    indexes_once =
        indexes_pass (λ ns. numbers_distinct ns ≡ true) numbers_distinct (λ ns h. h)
        (all_with (λ names. AllByRecursion (IsAmong (map column_name t.columns)) names × AreDistinct itself names) (λ names. numbers_distinct (column_numbers t.columns names) ≡ true) (λ names h. numbers_once column_name t.columns names h.0 h.1) t.indexes
        (all_both (AllByRecursion (IsAmong (map column_name t.columns))) (AreDistinct itself) t.indexes known.indexes once.indexes));
    some_indexes = indexes_pass IsSome is_some_list (λ ns h. h) (all_with IsSome (λ names. IsSome (column_numbers t.columns names)) (some_map (column_number t.columns)) t.indexes read.indexes);
    in_range = place_range t.placement read.placement known.placement;
    keyed = place_keyed t.placement known.placement;
  }

-- ---- streams

pub record StreamForm (d : StreamDef) : Type 0 where
  pub columns_once : columns_distinct d.schema ≡ true
  pub columns_within : nat_le (length d.schema) 16 ≡ true
  pub some_columns : is_some_list d.schema ≡ true

pub stream_form : (s : StreamOutline) → StreamRead s → AreDistinct column_name s.columns → IsUpTo 16 (length s.columns) → StreamForm (stream_of s)
stream_form s read once within = record { columns_once = once; columns_within = within; some_columns = read }

-- ---- windows

pub record WindowForm (procedures : ℕ) (d : WindowDef) : Type 0 where
  pub columns_once : columns_distinct d.schema ≡ true
  pub columns_within : nat_le (length d.schema) 16 ≡ true
  pub some_columns : is_some_list d.schema ≡ true
  pub owner_in_range : nat_lt d.owner procedures ≡ true
  pub sizes : (nat_le 1 d.slide && nat_le d.slide d.size && nat_le d.size 65536) ≡ true

pub window_form : (procedures : List ProcedureOutline) (w : WindowOutline) → WindowRead w → AreDistinct column_name w.columns → IsAmong (map procedure_name procedures) w.owner → IsUpTo 16 (length w.columns) →
    WindowForm (length procedures) (window_of (map procedure_name procedures) w)
window_form procedures w read once known within = record {
  columns_once = once;
  columns_within = within;
  some_columns = read.columns;
  owner_in_range = number_below procedure_name procedures w.owner known;
  sizes = and_from (nat_le 1 w.slide && nat_le w.slide w.size) (nat_le w.size 65536) read.slide ((and_parts (nat_le 1 w.size) (nat_le w.size 65536) read.size).1);
}
