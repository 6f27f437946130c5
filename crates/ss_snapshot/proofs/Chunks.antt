-- A table of a shard that is filled by chunks of rows.
use Rattle.std.proofs.Common.{◌≡◌, ◌∙◌, ℕ, zero, suc, ◌+◌, ◌-◌, ◌<◌, ◌≤◌, nat_lt, List, [], ◌∷◌, length, set, get_or, slice_get, true, Option, Some, None, Ok, refl, sym, ap, subst, arith}
use Rattle.std.specs.Prelude.{IsOk}
use Rattle.std.specs.List.{AllByRecursion, fold, list_all}
use Rattle.std.specs.FinMap as finmap
use Rattle.std.proofs.lemmas.Bool.{eqb-true, leb-true, ltb-true}
use Rattle.std.proofs.lemmas.List.{get_or-set_same, length-map, set-get_or}
use Rattle.ss_lemmas.proofs.Bools.{first_of_two, second_of_two}
use Rattle.ss_value.specs.Fit.{fits_schema}
use Rattle.ss_value.specs.Order.{row_cmp}
use Rattle.ss_value.specs.Rows.{Row, Rows, column_values}
use Rattle.ss_model.specs.declared.catalog.Catalog.{Catalog}
use Rattle.ss_model.specs.declared.catalog.TableDef.{TableDef}
use Rattle.ss_model.specs.Accepted.{Accepted}
use Rattle.ss_model.specs.CatalogForm.{counts_within_limits}
use Rattle.ss_model.specs.Contents.{Contents, Table, table_at, with_table}
use Rattle.ss_model.specs.Results.{OrAbort, try_fold}
use Rattle.ss_model.specs.Statements.{insert_row}
use Rattle.ss_model.proofs.CallerLemmas.{limits_of, numbers_of}
use Rattle.ss_standing.specs.ImageForm.{may_have, table_with}
use Rattle.ss_standing.specs.Readers.{Chained, made}
use Rattle.ss_table.specs.TableValue.{HasKey, TableValue}
use Rattle.ss_table.proofs.CallerLemmas.{set_twice}
use Rattle.ss_undo.proofs.CallerLemmas.{some_and}
use Rattle.ss_shard.specs.Contents.{contents_of, rows_by_key, tables_of}
use Rattle.ss_shard.specs.Rows.{IsKeyed}
use Rattle.ss_shard.specs.Shards.{HasTables, IsCommitted}
use Rattle.ss_shard.specs.ShardValue.{ShardValue}
use Rattle.ss_shard.proofs.CallerLemmas.{table_of, table_there_is}
use Rattle.ss_snapshot.specs.declared.reading.fields.PartError.{PartError}
use Rattle.ss_snapshot.specs.declared.reading.fields.PartError.TheVariants.{NoMemory, Foreign}
use Rattle.ss_snapshot.specs.ImageParts.{rows_above}
use Rattle.ss_snapshot.specs.Parts.{Refuses}
use Rattle.ss_snapshot.specs.Tables.{MayPut, OneFilled, WerePut, put_rows, table_in}
use Rattle.ss_snapshot.proofs.Putting.{IsAbove, IsFree, all_free, all_more, all_put, free_at_first, may_less, next}
use Rattle.ss_snapshot.proofs.Readings.{IsRead, all_onto, onto, rows_give, rows_rise, some_read, some_refused}

-- a definition by its place
pub same_def : (r : Option TableDef) (x y : TableDef) → r ≡ Some x → r ≡ Some y → x ≡ y
same_def r x y a b = let h : ◌≡◌ {A = Option TableDef} (Some x) (Some y) = sym a ∙ b in cc

-- ---- keys of rows that fit the columns

all_less : (n : ℕ) (cs : List ℕ) → list_all (λ c. nat_lt c n) cs ≡ true → AllByRecursion (λ c. c < n) cs
all_less n [] h = tt
all_less n (c ∷ cs) h = (ltb-true c n (first_of_two _ _ h), all_less n cs (second_of_two _ _ h))

key_at : (ds : List TableDef) (t : ℕ) (d : TableDef) → list_all (λ (d : TableDef). list_all (λ c. nat_lt c (length d.schema)) d.key) ds ≡ true → slice_get ds t ≡ Some d → AllByRecursion (λ c. c < length d.schema) d.key
key_at [] t d h here = cc
key_at (e ∷ ds) zero d h here = let same : e ≡ d = cc in subst (λ (d : TableDef). AllByRecursion (λ c. c < length d.schema) d.key) same (all_less (length e.schema) e.key (first_of_two _ _ h))
key_at (e ∷ ds) (suc t) d h here = key_at ds t d (second_of_two _ _ h) here

pub few_tables : (catalog : Catalog) → Accepted catalog → length catalog.tables ≤ 64
few_tables catalog accepted =
    let counts : counts_within_limits catalog ≡ true = first_of_two _ _ (limits_of catalog accepted.form) in
    let kinds = first_of_two _ _ (first_of_two _ _ (first_of_two _ _ (first_of_two _ _ (first_of_two _ _ (first_of_two _ _ counts))))) in
    leb-true (length catalog.tables) 64 (first_of_two _ _ (first_of_two _ _ (first_of_two _ _ (first_of_two _ _ kinds))))

-- ---- a table that is filled

-- the table as far as rows were read: it has them, no key behind the last one, and there is room for those that are left
pub record IsFilling (catalog : Catalog) (t : ℕ) (d : TableDef) (old now : ShardValue) (count left : ℕ) (last : Option Row) (bytes rest : List ℕ) : Type 0 where
  pub filled : OneFilled catalog old now t
  pub read : onto d (table_in now t) (rows_above d left last rest) ≡ onto d finmap.empty (rows_above d count None bytes)
  pub free : IsFree last (table_in now t)
  pub room : finmap.len (table_in now t) + left ≡ count

module _ (catalog : Catalog) (accepted : Accepted catalog) (t : ℕ) (d : TableDef) (here : slice_get catalog.tables t ≡ Some d) where
  keys_within : AllByRecursion (λ c. c < length d.schema) d.key
  keys_within = key_at catalog.tables t d (first_of_two _ _ (first_of_two _ _ (first_of_two _ _ (first_of_two _ _ (numbers_of catalog accepted.form))))) here

  has_key : (key : List ℕ) (row : Row) → AllByRecursion (λ c. c < length d.schema) key → length d.schema ≡ length row → HasKey key row
  has_key [] row all same = tt
  has_key (c ∷ cs) row all same = (omega (arith, all.0, same), has_key cs row all.1 same)

  row_keyed : (tables : List TableValue) (row : Row) → HasTables catalog tables → fits_schema d.schema row ≡ true → IsKeyed tables t row
  row_keyed tables row has fits =
      let h = table_there_is catalog tables has t d here in
      let its = table_of catalog tables has t h.0 h.1 in
      let same : its.0 ≡ d = (let a = its.1 in let b = here in some_is its.0 d (sym a ∙ b)) in
      let key : (h.0).key ≡ d.key = (its.2).key ∙ ap (λ (d : TableDef). d.key) same in
      some_and (slice_get tables t) h.0 (λ h. HasKey h.key row) h.1
      (subst (λ (key : List ℕ). HasKey key row) (sym key) (has_key d.key row keys_within (eqb-true (length d.schema) (length row) (first_of_two _ _ fits))))
    where
      some_is : (x y : TableDef) → Some x ≡ Some y → x ≡ y
      some_is x y e = cc

  rows_keyed : (tables : List TableValue) (last : Option Row) (rows : Rows) → HasTables catalog tables → Chained (next d) (IsRead d) last rows → AllByRecursion (IsKeyed tables t) rows
  rows_keyed tables last [] has read = tt
  rows_keyed tables last (row ∷ rows) has read = (row_keyed tables row has read.0.fits, rows_keyed tables (Some (column_values d.key row)) rows has read.1)

  within : (now : ShardValue) → IsCommitted catalog now → t < length (tables_of now.tables)
  within now is =
      let h = table_there_is catalog now.tables is.of_catalog.tables t d here in
      omega (arith, there now.tables t h.0 h.1, length-map now.tables (λ (h : TableValue). rows_by_key h.live))
    where
      there : (xs : List TableValue) (i : ℕ) (x : TableValue) → slice_get xs i ≡ Some x → i < length xs
      there [] i x e = cc
      there (y ∷ ys) zero x e = omega arith
      there (y ∷ ys) (suc i) x e = omega (arith, there ys i x e)

  -- at first nothing is read
  pub none_read : (old : ShardValue) (count : ℕ) (bytes : List ℕ) → IsCommitted catalog old → table_in old t ≡ finmap.empty → IsFilling catalog t d old old count count None bytes bytes
  unfolding table_at
  none_read old count bytes committed empty = record {
    filled = record { settles = record { committed = committed; number = refl; dealt = refl }; others = sym (set-get_or (tables_of old.tables) t finmap.empty) };
    read = ap (λ (m : Table). onto d m (rows_above d count None bytes)) empty;
    free = free_at_first (table_in old t) empty;
    room = omega (arith, ap (λ (m : Table). finmap.len m) empty, no_rows);
  }
    where
      no_rows : finmap.len (finmap.empty {X = Row} {R = row_cmp}) ≡ 0
      no_rows = finmap.len-empty row_cmp Row

  -- at last all is read
  pub all_read : (old now : ShardValue) (count : ℕ) (last : Option Row) (bytes rest : List ℕ) → IsFilling catalog t d old now count 0 last bytes rest → made (table_with d) (rows_above d count None) bytes ≡ Ok (table_in now t, rest)
  all_read old now count last bytes rest is = sym (all_onto d count bytes) ∙ sym is.read

  module _ (old now : ShardValue) (count left some : ℕ) (last : Option Row) (bytes rest : List ℕ) (is : IsFilling catalog t d old now count left last bytes rest) (fewer : some ≤ left) where
    split : some + (left - some) ≡ left
    split = omega (arith, fewer)

    pub chunk_refused : (e : PartError) → Refuses e (rows_above d some last rest) → Refuses e (made (table_with d) (rows_above d count None) bytes)
    chunk_refused NoMemory refused = tt
    chunk_refused (Foreign at) refused =
        sym (all_onto d count bytes) ∙ sym is.read ∙ ap (λ (n : ℕ). onto d (table_in now t) (rows_above d n last rest)) (sym split)
        ∙ some_refused d some (left - some) last (table_in now t) rest at refused

    module _ (may : may_have d.placement count ≡ true) (rows : Rows) (behind : List ℕ) (read : rows_above d some last rest ≡ Ok (rows, behind)) where
      abbrev m : Table
      m = table_in now t

      abbrev more : Table
      more = put_rows d m rows

      given : (length rows ≡ some) × Chained (next d) (IsRead d) last rows
      given = rows_give d some last rest rows behind read

      rise : Chained (next d) (IsAbove d) last rows
      rise = rows_rise d last rows given.1

      put : try_fold (insert_row catalog t) rows (contents_of now) ≡ Ok (with_table (contents_of now) t more)
      put = all_put catalog t d here rows (contents_of now) last (within now is.filled.settles.committed) is.free rise
          (may_less d.placement (finmap.len m + length rows) count (omega (arith, is.room, given.0, fewer)) may)

      pub may_put : MayPut catalog now t rows
      may_put = record {
        committed = is.filled.settles.committed;
        keyed = rows_keyed now.tables last rows is.filled.settles.committed.of_catalog.tables given.1;
        free = subst (λ (r : OrAbort Contents). IsOk r) (sym put) refl;
      }

      module _ (new : ShardValue) (were : WerePut catalog now new t rows) (after : Option Row) (last_is : after ≡ fold (next d) last rows) where
        tables_are : tables_of new.tables ≡ set (tables_of now.tables) t more
        tables_are = were.tables (with_table (contents_of now) t more) put

        table_is : table_in new t ≡ more
        unfolding table_at
        table_is = ap (λ (ts : List Table). get_or ts t finmap.empty) tables_are ∙ get_or-set_same (tables_of now.tables) t more finmap.empty (within now is.filled.settles.committed)

        pub goes_on : IsFilling catalog t d old new count (left - some) after bytes behind
        goes_on = record {
          filled = record {
            settles = record {
              committed = were.settles.committed;
              number = were.settles.number ∙ is.filled.settles.number;
              dealt = were.settles.dealt ∙ is.filled.settles.dealt;
            };
            others =
                tables_are ∙ ap (λ (ts : List Table). set ts t more) is.filled.others ∙ set_twice (tables_of old.tables) t m more
                ∙ ap (λ (x : Table). set (tables_of old.tables) t x) (sym table_is);
          };
          read =
              (λ k. onto d (table_is k) (rows_above d (left - some) (last_is k) behind))
              ∙ sym (some_read d some (left - some) last m rest rows behind read)
              ∙ ap (λ (n : ℕ). onto d m (rows_above d n last rest)) split
              ∙ is.read;
          free = subst (λ (o : Option Row). IsFree o (table_in new t)) (sym last_is) (subst (λ (x : Table). IsFree (fold (next d) last rows) x) (sym table_is) (all_free d rows last m is.free rise));
          room = omega (arith, ap (λ (x : Table). finmap.len x) table_is, all_more d rows last m is.free rise, is.room, given.0, fewer);
        }
