-- The tables of a shard with one of them changed.
use Rattle.std.proofs.Common.{◌≡◌, ℕ, zero, suc, List, [], ◌∷◌, map, set, get_or, refl, sym, ap, ◌∙◌, Some, slice_get}
use Rattle.std.specs.FinMap as finite
use Rattle.std.proofs.lemmas.List.{map-set}
use Rattle.ss_value.specs.Rows.{Row}
use Rattle.ss_model.specs.Contents.{Table, table_at, put_entries, remove_entries}
use Rattle.ss_table.specs.TableValue.{TableValue, LiveRows}
use Rattle.ss_undo.specs.ResultsFrom.{all_committed}
use Rattle.ss_window.specs.WindowValue.{WindowValue}
use Rattle.ss_shard.specs.Contents.{rows_by_key, tables_of, contents_with}
use Rattle.ss_shard.specs.Rows.{OneChanged, RowPut, RowTaken}
use Rattle.ss_shard.proofs.ByKey.{insert_by_key, remove_by_key}

pub get_or_map : {A B : Type 0} (f : A → B) (xs : List A) (t : ℕ) (x : A) (d : B) → slice_get xs t ≡ Some x → get_or (map f xs) t d ≡ f x
get_or_map f [] t x d e = cc
get_or_map f (y ∷ ys) zero x d e = ap f (let q : y ≡ x = cc in q)
get_or_map f (y ∷ ys) (suc t) x d e = get_or_map f ys t x d e

-- a table of them
pub table_there : (tables : List TableValue) (windows : List WindowValue) (t : ℕ) (h : TableValue) → slice_get tables t ≡ Some h → table_at (contents_with tables windows) t ≡ rows_by_key h.live
unfolding table_at
table_there tables windows t h e = get_or_map (λ (h : TableValue). rows_by_key h.live) tables t h finite.empty e

module _ (old new : List TableValue) (t : ℕ) (change : LiveRows → LiveRows) (c : OneChanged old new t change) where
  tables_set : tables_of new ≡ set (tables_of old) t (rows_by_key (change (c.was).live))
  tables_set = ap tables_of c.is ∙ map-set (λ (h : TableValue). rows_by_key h.live) old t c.now ∙ ap (λ live. set (tables_of old) t (rows_by_key live)) c.live

pub contents_put : (windows : List WindowValue) (old new : List TableValue) (t : ℕ) (key : Row) (slot : ℕ) (row : Row) → RowPut old new t key slot row → contents_with new windows ≡ put_entries (contents_with old windows) t ((key, row) ∷ [])
unfolding put_entries
contents_put windows old new t key slot row c =
    ap (λ (tables : List Table). record (contents_with old windows) { tables = tables })
    (tables_set old new t _ c ∙ ap (set (tables_of old) t) (insert_by_key (c.was).live key slot row ∙ ap (λ m. finite.insert m key row) (sym (table_there old windows t c.was c.here))))

pub contents_taken : (windows : List WindowValue) (old new : List TableValue) (t : ℕ) (key row : Row) → RowTaken old new t key → contents_with new windows ≡ remove_entries (contents_with old windows) t ((key, row) ∷ [])
unfolding remove_entries
contents_taken windows old new t key row c =
    ap (λ (tables : List Table). record (contents_with old windows) { tables = tables })
    (tables_set old new t _ c ∙ ap (set (tables_of old) t) (remove_by_key (c.was).live key ∙ ap (λ m. finite.remove m key) (sym (table_there old windows t c.was c.here))))

-- dead slots are no contents
pub final_tables : (tables : List TableValue) → tables_of (all_committed tables) ≡ tables_of tables
final_tables [] = refl
final_tables (h ∷ hs) = ap (λ rest. rows_by_key h.live ∷ rest) (final_tables hs)
