-- Whole contents stay whole when a table or a window changes.
use Rattle.std.proofs.Common.{◌≡◌, ◌≤◌, ◌<◌, ◌+◌, ◌^◌, ℕ, zero, suc, nat_le, Bool, true, false, not, List, [], ◌∷◌, ◌++◌, map, drop, get_or, length, slice_get, refl, sym, ap, ◌∙◌, subst, Some, Ok, unwrap_or, add-one, arith, length-set}
use Rattle.std.proofs.lemmas.Bool.{ltb-true, leb-true, le-leb, leb-false, and_from}
use Rattle.std.proofs.lemmas.List.{length-append}
use Rattle.std.specs.List.{AllByRecursion, fold, list_all}
use Rattle.std.specs.Option.{option_map}
use Rattle.std.specs.FinMap as finmap
use Rattle.ss_value.specs.Fit.{fits_schema}
use Rattle.ss_value.specs.Rows.{Row, Rows, column_value, column_values}
use Rattle.ss_model.specs.declared.catalog.Catalog.{Catalog}
use Rattle.ss_model.specs.declared.catalog.Placement.{Placement}
use Rattle.ss_model.specs.declared.catalog.Placement.TheVariants.{Part, By}
use Rattle.ss_model.specs.declared.catalog.TableDef.{TableDef}
use Rattle.ss_model.specs.declared.catalog.WindowDef.{WindowDef}
use Rattle.ss_model.specs.declared.entry.Reason.{Reason}
use Rattle.ss_model.specs.declared.entry.Reason.TheVariants.{KeyTaken, TableFull}
use Rattle.ss_model.specs.Results.{OrAbort, abort_when, WhenOk}
use Rattle.ss_model.specs.Contents.{Table, Contents, table_at, with_table, put_entries, remove_entries, window_units, kept_units, append_unit, row_key, key_columns, table_placement}
use Rattle.ss_model.specs.Statements.{is_table_full, insert_row}
use Rattle.ss_model.specs.Typing.{table_schema}
use Rattle.ss_model.specs.WholeDatabase.{is_within_limit, WholeTable, unit_fits, WholeWindow, WholeContents}
use Rattle.ss_model_kept.proofs.CallerLemmas.{kept_more, set_one}
use Rattle.ss_lemmas.proofs.Bools.{first_of_two, second_of_two}
use Rattle.ss_model_laws.proofs.TableRows.{RowsWhole, EntryWhole, Stands, put_whole, puts_whole, removes_whole, length_replaced, length_inserted, length_removed}

pub when_ok_unless : {A : Type 0} (P : A → Type 0) (b : Bool) (r : Reason) (x : OrAbort A) → (b ≡ false → WhenOk P x) → WhenOk P (abort_when b r x)
when_ok_unless P true r x h = tt
when_ok_unless P false r x h = h refl

not_false : (b : Bool) → not b ≡ false → b ≡ true
not_false true e = refl
not_false false e = cc

pub rows_of : (d : TableDef) (m : Table) → WholeTable d m → RowsWhole d m
rows_of d m h key row is = (h.fits key row is, h.keyed key row is)

made_whole : (d : TableDef) (m : Table) → RowsWhole d m → is_within_limit d.placement m ≡ true → WholeTable d m
made_whole d m h few = record { fits = λ key row is. (h key row is).0; keyed = λ key row is. (h key row is).1; few = few }

-- ---- limits

fewer : (placement : Placement) (m n : Table) → finmap.len n ≤ finmap.len m → is_within_limit placement m ≡ true → is_within_limit placement n ≡ true
fewer (Part p) m n l few = let most : finmap.len m ≤ 1000000 = leb-true _ _ few in le-leb _ _ (omega arith)
fewer (By c) m n l few = refl

one_more : (placement : Placement) (m n : Table) → finmap.len n ≤ finmap.len m + 1 → is_table_full (Some placement) m ≡ false → is_within_limit placement n ≡ true
one_more (Part p) m n l room = let most : finmap.len m < 1000000 = ltb-true _ _ (not_false _ room) in le-leb _ _ (omega arith)
one_more (By c) m n l room = refl

-- what holds of all holds of a tail
pub all_dropped : {A : Type 0} (test : A → Bool) (n : ℕ) (xs : List A) → list_all test xs ≡ true → list_all test (drop n xs) ≡ true
all_dropped test zero [] h = refl
all_dropped test (suc n) [] h = refl
all_dropped test zero (x ∷ xs) h = h
all_dropped test (suc n) (x ∷ xs) h = all_dropped test n xs (second_of_two (test x) (list_all test xs) h)

module _ (catalog : Catalog) where
  -- ---- a table

  table_changed : (s : Contents) (t : ℕ) (m : Table) → WholeContents catalog s → ((d : TableDef) → slice_get catalog.tables t ≡ Some d → WholeTable d m) → WholeContents catalog (with_table s t m)
  unfolding table_at window_units
  table_changed s t m h new = record {
    table_count = length-set s.tables t m ∙ h.table_count;
    window_count = h.window_count;
    tables = λ u d is. set_one (WholeTable d) s.tables t u m finmap.empty (h.tables u d is) (λ e. new d (subst (λ z. slice_get catalog.tables z ≡ Some d) (sym e) is));
    windows = h.windows;
  }

  schema_of : (t : ℕ) (d : TableDef) → slice_get catalog.tables t ≡ Some d → table_schema catalog t ≡ d.schema
  schema_of t d is = ap (λ o. unwrap_or (option_map (λ d. d.schema) o) []) is

  key_of : (t : ℕ) (d : TableDef) (row : Row) → slice_get catalog.tables t ≡ Some d → row_key catalog t row ≡ column_values d.key row
  key_of t d row is = ap (λ o. map (column_value row) (key_columns o)) is

  pub insert_whole : (t : ℕ) (row : Row) (s : Contents) → WholeContents catalog s → fits_schema (table_schema catalog t) row ≡ true → WhenOk (WholeContents catalog) (insert_row catalog t row s)
  unfolding insert_row put_entries
  insert_whole t row s h fits =
      let inserted : OrAbort Contents = Ok (put_entries s t ((row_key catalog t row, row) ∷ [])) in
      let full = is_table_full (table_placement (slice_get catalog.tables t)) (table_at s t) in
      when_ok_unless (WholeContents catalog) (finmap.contains_key (table_at s t) (row_key catalog t row)) (KeyTaken t) (abort_when full (TableFull t) inserted) (λ free.
      when_ok_unless (WholeContents catalog) full (TableFull t) inserted (λ room.
      table_changed s t (finmap.insert (table_at s t) (row_key catalog t row) row) h (λ d is.
      made_whole d _ (put_whole d (table_at s t) (row_key catalog t row, row) (rows_of d _ (h.tables t d is)) (subst (λ cs. fits_schema cs row ≡ true) (schema_of t d is) fits, key_of t d row is))
      (one_more d.placement (table_at s t) _ (length_inserted (table_at s t) (row_key catalog t row) row) (sym (ap (λ o. is_table_full (table_placement o) (table_at s t)) is) ∙ room)))))

  -- new rows at keys that stand
  abbrev pub NewEntry : Contents → ℕ → Row × Row → Type 0
  NewEntry s t e = (d : TableDef) → slice_get catalog.tables t ≡ Some d → EntryWhole d e × Stands (table_at s t) e

  each_new : (s : Contents) (t : ℕ) (d : TableDef) → slice_get catalog.tables t ≡ Some d → (es : List (Row × Row)) → AllByRecursion (NewEntry s t) es → AllByRecursion (EntryWhole d) es × AllByRecursion (Stands (table_at s t)) es
  each_new s t d is [] h = (tt, tt)
  each_new s t d is (e ∷ es) h =
      let one = h.0 d is in
      let others = each_new s t d is es h.1 in
      ((one.0, others.0), (one.1, others.1))

  pub put_entries_whole : (s : Contents) (t : ℕ) (es : List (Row × Row)) → WholeContents catalog s → AllByRecursion (NewEntry s t) es → WholeContents catalog (put_entries s t es)
  unfolding put_entries
  put_entries_whole s t es h new = table_changed s t _ h (λ d is.
      let parts = each_new s t d is es new in
      made_whole d _ (puts_whole d es (table_at s t) (rows_of d _ (h.tables t d is)) parts.0)
      (fewer d.placement (table_at s t) _ (let same : finmap.len (fold (λ m e. finmap.insert m e.0 e.1) (table_at s t) es) ≡ finmap.len (table_at s t) = length_replaced es (table_at s t) parts.1 in omega arith) (h.tables t d is).few))

  pub remove_entries_whole : (s : Contents) (t : ℕ) (es : List (Row × Row)) → WholeContents catalog s → WholeContents catalog (remove_entries s t es)
  unfolding remove_entries
  remove_entries_whole s t es h = table_changed s t _ h (λ d is.
      made_whole d _ (removes_whole d es (table_at s t) (rows_of d _ (h.tables t d is))) (fewer d.placement (table_at s t) _ (length_removed es (table_at s t)) (h.tables t d is).few))

  -- ---- a window

  all_and : {A : Type 0} (test : A → Bool) (xs : List A) (x : A) → list_all test xs ≡ true → test x ≡ true → list_all test (xs ++ x ∷ []) ≡ true
  all_and test [] x h k = and_from _ _ k refl
  all_and test (y ∷ xs) x h k = and_from _ _ (first_of_two _ _ h) (all_and test xs x (second_of_two _ _ h) k)

  pub append_whole : (s : Contents) (n : ℕ) (unit : Rows) → WholeContents catalog s → ((d : WindowDef) → slice_get catalog.windows n ≡ Some d → unit_fits d unit ≡ true) → nat_le (2 ^ 62) (length (window_units s n)) ≡ false → WholeContents catalog (append_unit s n unit)
  unfolding append_unit window_units table_at
  append_whole s n unit h fits room = record {
    table_count = h.table_count;
    window_count = length-set s.windows n _ ∙ h.window_count;
    tables = h.tables;
    windows = λ w d is. set_one (WholeWindow d) s.windows n w _ [] (h.windows w d is) (λ e.
        let here : slice_get catalog.windows n ≡ Some d = subst (λ z. slice_get catalog.windows z ≡ Some d) (sym e) is in
        record {
          units = ap (list_all (unit_fits d)) (kept_more d (get_or s.windows n []) unit) ∙ all_dropped (unit_fits d) _ (kept_units d (get_or s.windows n []) ++ unit ∷ []) (all_and (unit_fits d) (kept_units d (get_or s.windows n [])) unit ((h.windows n d here).units) (fits d here));
          few = let below : length (get_or s.windows n []) < 2 ^ 62 = leb-false _ _ room in let more : length (get_or s.windows n [] ++ unit ∷ []) ≡ length (get_or s.windows n []) + 1 = length-append (get_or s.windows n []) (unit ∷ []) in subst (λ k. k ≤ 2 ^ 62) (sym more) (subst (λ k. k ≤ 2 ^ 62) (sym (add-one _)) below);
        });
  }
